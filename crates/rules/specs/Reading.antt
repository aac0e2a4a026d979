-- Reading a sheet: what bytes say, or the first ground on which they are turned away. The grounds come in this order:
-- 4 if there is no whole head, 5, 4 if the table is cut, 6, 20, then record by record 4 and 7, and 8 at the end.
-- Assumes nothing.
use Rattle.std.specs.Prelude.{ℕ, ◌+◌, Bool, cond, not, ◌&&◌, ◌||◌, ltb, List, [], ◌∷◌, length, take, drop, Some, None, Ok, Err, Option, Result, ◌==◌, nat_le, nat_lt, slice_index}
use Rattle.rules.specs.Results.{◌>>=◌, require, none_of, refused_as, first}
use Rattle.rules.specs.Refusals.{Refusal, ends_early, bad_head, bad_table, bad_record, bad_entry_at, bytes_behind, beyond_own_row}
use Rattle.rules.specs.Numbers.{at32}
use Rattle.rules.specs.Stamps.{Stamp, within}
use Rattle.rules.specs.Records.{Body, booked, struck, Record}
use Rattle.rules.specs.Kinds.{Kind}
use Rattle.rules.specs.Tables.{Table, restricted}
use Rattle.rules.specs.Sheets.{Sheet, cells, run, stamps, place_of, front_length}

-- the table in the bytes of a sheet in a group of N
abbrev pub table_at : ℕ → List ℕ → Table
table_at N bs = restricted N (λ k u. at32 bs (place_of N k u))

-- a bad number in the table S of a sheet from k, at a site and an origin: it is above 1,000,000,
-- or above the writer's for that origin, or it is for the origin itself and not the writer's
abbrev pub bad_number : Table → ℕ → ℕ × ℕ → Bool
bad_number S k c =
    nat_lt 1000000 (S c.0 c.1)
    || (nat_lt (S k c.1) (S c.0 c.1) || (c.0 == c.1 && not (S c.0 c.1 == S k c.1)))

-- the head of a sheet for site i of N and the kind with this code: it says who the writer is
abbrev pub head_read : (N i code : ℕ) → List ℕ → Result ℕ Refusal
head_read N i code bs = do
  _ ← require (nat_le 5 (length bs)) (ends_early (length bs))
  _ ← require (slice_index bs 0 == 1) (bad_head 0)
  _ ← require (slice_index bs 1 == N) (bad_head 1)
  _ ← require (within N (slice_index bs 2) && not (slice_index bs 2 == i)) (bad_head 2)
  _ ← require (slice_index bs 3 == i) (bad_head 3)
  _ ← require (slice_index bs 4 == code) (bad_head 4)
  Ok (slice_index bs 2)

-- the table S of a sheet from k has no bad number: else 6 at the first one's place
abbrev pub table_checked : (N k : ℕ) → Table → Result (Unit {0}) Refusal
table_checked N k S = none_of (first (bad_number S k) (cells N)) (λ c. bad_table (place_of N c.0 c.1))

-- the table of a sheet from k
abbrev pub table_read : (N k : ℕ) → List ℕ → Result Table Refusal
table_read N k bs = do
  _ ← require (nat_le (front_length N) (length bs)) (ends_early (length bs))
  _ ← table_checked N k (table_at N bs)
  Ok (table_at N bs)

-- the first place of row i of the table S that has more than our own row
abbrev pub ahead : (N i : ℕ) → Table → (ℕ → ℕ) → Option (ℕ × ℕ)
ahead N i S ours = first (λ c. ltb (ours c.1) (S c.0 c.1)) (run i 1 N)

-- the sheet credits us with no more than our own row, where one is at hand: else 20 with the lowest such origin
abbrev pub own_checked : (N i : ℕ) → Table → Option (ℕ → ℕ) → Result (Unit {0}) Refusal
own_checked N i S None = Ok tt
own_checked N i S (Some ours) = none_of (ahead N i S ours) (λ c. beyond_own_row c.1)

-- a record as a part of a sheet's bytes: what stands behind its first byte, and where
pub data Part : Type 0 where
  entry_part : (bytes : List ℕ) (place : ℕ) → Part
  stamp_part : (bytes : List ℕ) (place : ℕ) → Part

-- n bytes from a place on as a part, and the place behind them
abbrev pub cut : List ℕ → (List ℕ → ℕ → Part) → ℕ → ℕ → Result (Part × ℕ) Refusal
cut bs f at n = do
  _ ← require (nat_le (at + n) (length bs)) (ends_early (length bs))
  Ok (f (take n (drop at bs)) at, at + n)

-- the part at a place, where entries have this width, and the place behind it
abbrev pub part_at : ℕ → List ℕ → ℕ → Result (Part × ℕ) Refusal
part_at width bs at = do
  _ ← require (nat_lt at (length bs)) (ends_early (length bs))
  cond (slice_index bs at == 1) (cut bs entry_part (at + 1) width)
      (cond (slice_index bs at == 2) (cut bs stamp_part (at + 1) 5) (Err (bad_record at)))

-- in a group of N, from a writer that knows so many events of each site
module _ {E : Type 0} (K : Kind E) (N : ℕ) (known : ℕ → ℕ) where
  -- what the event of a part does
  abbrev pub body_of : Part → Result (Body E) Refusal
  body_of (entry_part xs at) = do
    e ← refused_as (bad_entry_at at) (K.decoded xs)
    Ok (booked e)
  body_of (stamp_part xs at) = do
    _ ← require (within N (slice_index xs 0)) (bad_record at)
    _ ← require (nat_le 1 (at32 xs 1) && nat_le (at32 xs 1) (known (slice_index xs 0))) (bad_record (at + 1))
    Ok (struck (slice_index xs 0) (at32 xs 1))

module _ {E : Type 0} (K : Kind E) (N : ℕ) (known : ℕ → ℕ) (bs : List ℕ) where
  -- the record at a place, and the place behind it
  abbrev pub record_at : ℕ → Result (Body E × ℕ) Refusal
  record_at at = do
    p ← part_at K.width bs at
    b ← body_of K N known p.0
    Ok (b, p.1)

  -- the records from a place on that have these stamps, and the place behind them
  abbrev pub records_at : List Stamp → ℕ → Result (List (Record E) × ℕ) Refusal
  records_at [] at = Ok ([], at)
  records_at (s ∷ ss) at = do
    r ← record_at at
    more ← records_at ss r.1
    Ok ((s.0, s.1, r.0) ∷ more.0, more.1)

module _ {E : Type 0} (K : Kind E) where
  -- the records of a sheet from k for i with the table S
  abbrev pub records_read : (N k i : ℕ) → Table → List ℕ → Result (List (Record E)) Refusal
  records_read N k i S bs = do
    got ← records_at K N (S k) bs (stamps N k i S) (front_length N)
    _ ← require (got.1 == length bs) (bytes_behind got.1)
    Ok got.0

  -- a sheet at site i of N, which may have its own row at hand
  abbrev pub read : (N i : ℕ) → Option (ℕ → ℕ) → List ℕ → Result (Sheet E) Refusal
  read N i own bs = do
    k ← head_read N i K.code bs
    S ← table_read N k bs
    _ ← own_checked N i S own
    rs ← records_read N k i S bs
    Ok (record { writer = k; addressee = i; table = S; records = rs })
