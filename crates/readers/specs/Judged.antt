-- Reading a record as the rules do, with refusals that also say what is wrong at their place.
-- Assumes nothing.
use Rattle.std.specs.Prelude.{ℕ, ◌+◌, cond, ◌&&◌, List, length, take, drop, Ok, Err, Result, ◌==◌, nat_le, nat_lt, slice_index}
use Rattle.rules.specs.Results.{◌>>=◌, require, refused_as}
use Rattle.rules.specs.Numbers.{at32}
use Rattle.rules.specs.Stamps as stamps
use Rattle.rules.specs.Stamps.{within}
use Rattle.rules.specs.Records.{Body, booked, struck}
use Rattle.rules.specs.Reading.{Part, entry_part, stamp_part}
use Rattle.kinds.specs.Formats.{Format}
use Rattle.kinds.specs.Refused.{unlawful_of}
use Rattle.readers.specs.declared.refusal.RecordByte.TheVariants.{First, StruckSite, StruckNumber}
use Rattle.readers.specs.declared.refusal.SheetRefusal.{SheetRefusal}
use Rattle.readers.specs.declared.refusal.SheetRefusal.TheVariants.{EndsEarly, Record, Entry}

-- n bytes from a place on as a part, and the place behind them
abbrev pub cut_judged : List ℕ → (List ℕ → ℕ → Part) → ℕ → ℕ → Result (Part × ℕ) SheetRefusal
cut_judged bs f at n = do
  _ ← require (nat_le (at + n) (length bs)) (EndsEarly (length bs))
  Ok (f (take n (drop at bs)) at, at + n)

-- the part at a place, where entries have this width, and the place behind it
abbrev pub part_judged : ℕ → List ℕ → ℕ → Result (Part × ℕ) SheetRefusal
part_judged width bs at = do
  _ ← require (nat_lt at (length bs)) (EndsEarly (length bs))
  cond (slice_index bs at == 1) (cut_judged bs entry_part (at + 1) width)
      (cond (slice_index bs at == 2) (cut_judged bs stamp_part (at + 1) 5) (Err (Record at First)))

-- in a group of N, from a writer that knows so many events of each site: the stamp in five bytes at a place
abbrev pub struck_judged : (N : ℕ) (known : ℕ → ℕ) → List ℕ → ℕ → Result stamps.Stamp SheetRefusal
struck_judged N known xs at = do
  _ ← require (within N (slice_index xs 0)) (Record at StruckSite)
  _ ← require (nat_le 1 (at32 xs 1) && nat_le (at32 xs 1) (known (slice_index xs 0))) (Record (at + 1) StruckNumber)
  Ok (slice_index xs 0, at32 xs 1)

module _ {E : Type 0} (f : Format E) (N : ℕ) (known : ℕ → ℕ) where
  -- what the event of a part does
  abbrev pub body_judged : Part → Result (Body E) SheetRefusal
  body_judged (entry_part xs at) = do
    e ← refused_as (λ x. Entry (at + (unlawful_of x).place) x) (f.decoded xs)
    Ok (booked e)
  body_judged (stamp_part xs at) = do
    s ← struck_judged N known xs at
    Ok (struck s.0 s.1)

module _ {E : Type 0} (f : Format E) (N : ℕ) (known : ℕ → ℕ) (bs : List ℕ) where
  -- the record at a place, and the place behind it
  abbrev pub record_judged : ℕ → Result (Body E × ℕ) SheetRefusal
  record_judged at = do
    p ← part_judged f.width bs at
    b ← body_judged f N known p.0
    Ok (b, p.1)
