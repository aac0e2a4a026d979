-- Checking a sheet as the rules do, with refusals that also say what is wrong at their place.
-- Assumes nothing.
use Rattle.std.specs.Prelude.{ℕ, cond, not, ◌&&◌, List, [], ◌∷◌, length, Some, None, Ok, Option, Result, ◌==◌, nat_le, nat_lt, slice_index}
use Rattle.rules.specs.Results.{◌>>=◌, require, none_of, first}
use Rattle.rules.specs.Stamps.{Stamp, within}
use Rattle.rules.specs.Sheets.{run, cells, stamps, place_of, front_length}
use Rattle.rules.specs.Tables as tables
use Rattle.rules.specs.Reading.{table_at, bad_number, ahead}
use Rattle.kinds.specs.Formats.{Format}
use Rattle.readers.specs.declared.refusal.HeadByte.TheVariants.{Version, Sites, Writer, Addressee, Kind}
use Rattle.readers.specs.declared.refusal.NumberGround.{NumberGround}
use Rattle.readers.specs.declared.refusal.NumberGround.TheVariants as ground
use Rattle.readers.specs.declared.refusal.SheetRefusal.{SheetRefusal}
use Rattle.readers.specs.declared.refusal.SheetRefusal.TheVariants.{EndsEarly, Head, Table, BytesBehind, BeyondOwnRow}
use Rattle.readers.specs.Capped.{capped}
use Rattle.readers.specs.Judged.{record_judged}

-- the head of a sheet for site i of N and the kind with this code: the writer
abbrev pub head_judged : (N i code : ℕ) → List ℕ → Result ℕ SheetRefusal
head_judged N i code bs = do
  _ ← require (nat_le 5 (length bs)) (EndsEarly (length bs))
  _ ← require (slice_index bs 0 == 1) (Head Version)
  _ ← require (slice_index bs 1 == N) (Head Sites)
  _ ← require (within N (slice_index bs 2) && not (slice_index bs 2 == i)) (Head Writer)
  _ ← require (slice_index bs 3 == i) (Head Addressee)
  _ ← require (slice_index bs 4 == code) (Head Kind)
  Ok (slice_index bs 2)

-- what is wrong with a bad number of the table S of a sheet from k
abbrev pub ground_of : tables.Table → ℕ → ℕ × ℕ → NumberGround
ground_of S k c =
    cond (nat_lt 1000000 (S c.0 c.1)) ground.Million (cond (nat_lt (S k c.1) (S c.0 c.1)) ground.Writer ground.Origin)

-- these places of the table S of a sheet from k have no bad number
abbrev pub cells_judged : (N k : ℕ) → tables.Table → List (ℕ × ℕ) → Result (Unit {0}) SheetRefusal
cells_judged N k S cs = none_of (first (bad_number S k) cs) (λ c. Table (place_of N c.0 c.1) (ground_of S k c))

-- row r, and the whole table
abbrev pub row_judged : (N k : ℕ) → tables.Table → ℕ → Result (Unit {0}) SheetRefusal
row_judged N k S r = cells_judged N k S (run r 1 N)

abbrev pub table_judged : (N k : ℕ) → tables.Table → Result (Unit {0}) SheetRefusal
table_judged N k S = cells_judged N k S (cells N)

-- the sheet credits us with no more than our own row, where one is at hand
abbrev pub own_judged : (N i : ℕ) → tables.Table → Option (ℕ → ℕ) → Result (Unit {0}) SheetRefusal
own_judged N i S None = Ok tt
own_judged N i S (Some ours) = none_of (ahead N i S ours) (λ c. BeyondOwnRow c.1)

module _ {E : Type 0} (f : Format E) (N : ℕ) (known : ℕ → ℕ) (bs : List ℕ) where
  -- the place behind the records from a place on that have these stamps
  abbrev pub ends_judged : List Stamp → ℕ → Result ℕ SheetRefusal
  ends_judged [] at = Ok at
  ends_judged (s ∷ ss) at = do
    r ← record_judged f N known bs at
    ends_judged ss r.1

  -- these records are all that is left from a place on
  abbrev pub records_judged : List Stamp → ℕ → Result (Unit {0}) SheetRefusal
  records_judged ss at = do
    end ← ends_judged ss at
    require (end == length bs) (BytesBehind end)

-- a sheet at site i of N, which may have its own row at hand: the writer and the table
module _ {E : Type 0} (f : Format E) (N i : ℕ) (own : Option (ℕ → ℕ)) (bs : List ℕ) where
  abbrev pub sheet_judged : Result (ℕ × tables.Table) SheetRefusal
  sheet_judged = do
    k ← head_judged N i f.code bs
    _ ← require (nat_le (front_length N) (length bs)) (EndsEarly (length bs))
    _ ← table_judged N k (table_at N bs)
    _ ← own_judged N i (table_at N bs) own
    _ ← records_judged f N (capped (table_at N bs k)) bs (stamps N k i (λ a. capped (table_at N bs a))) (front_length N)
    Ok (k, table_at N bs)
