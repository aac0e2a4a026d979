-- The records of a sheet that are still to come.
-- Assumes nothing.
use Rattle.std.specs.Prelude.{◌≡◌, ℕ, ◌+◌, ◌-◌, ◌<◌, ◌≤◌, List, [], ◌∷◌, Some, None, Ok, Err, Option, Result, MatchOption}
use Rattle.std.specs.Iterator.{YieldsFirstBy}
use Rattle.rules.specs.Refusals.{Refusal}
use Rattle.rules.specs.Stamps.{Stamp, Within}
use Rattle.rules.specs.Records.{Body, Record}
use Rattle.rules.specs.Kinds.{Kind}
use Rattle.rules.specs.Tables.{Table}
use Rattle.rules.specs.Sheets.{Sheet, runs}
use Rattle.rules.specs.Reading.{record_at, read}
use Rattle.events.specs.declared.stamp.Stamp as events
use Rattle.events.specs.declared.record.Record as told
use Rattle.events.specs.Told.{stamp_of, record_of}
use Rattle.kinds.specs.Formats.{Format, rule_of}
use Rattle.tables.specs.declared.seat.Seat.{Seat}
use Rattle.tables.specs.Numbers.{in_row}
use Rattle.readers.specs.Capped.{capped}
use Rattle.sheets.specs.declared.records.StampsLeft.{StampsLeft}
use Rattle.sheets.specs.declared.records.SheetRecords.{SheetRecords}

-- the record with this stamp, and those behind it
abbrev pub more : {E : Type 0} → Stamp → (ℕ → List (Record E)) → Result (Body E × ℕ) Refusal → List (Record E)
more s behind (Ok r) = (s.0, s.1, r.0) ∷ behind r.1
more s behind (Err x) = []

-- the records from a place on that have these stamps, as far as they can be read
abbrev pub read_all : {E : Type 0} → Kind E → (N : ℕ) (known : ℕ → ℕ) (bs : List ℕ) → List Stamp → ℕ → List (Record E)
read_all K N known bs [] at = []
read_all K N known bs (s ∷ ss) at = more s (read_all K N known bs ss) (record_at K N known bs at)

-- of the origin u no event is left
abbrev pub NoneLeft : StampsLeft → ℕ → Type 0
NoneLeft c u = capped (in_row c.writer.known) u ≤ capped (in_row c.done) u

-- the first origin of which an event is left, if there is one
abbrev pub IsFirstLeft : StampsLeft → Option ℕ → Type 0
IsFirstLeft c None = (u : ℕ) → Within c.writer.seat.sites u → NoneLeft c u
IsFirstLeft c (Some u) =
    Within c.writer.seat.sites u × (capped (in_row c.done) u < capped (in_row c.writer.known) u) × ((v : ℕ) → 1 ≤ v → v < u → NoneLeft c v)

-- the stamps that are left: of each origin those behind the ones that are done, up to what the writer knows
abbrev pub stamps_left : StampsLeft → List Stamp
stamps_left c =
    runs (λ u. capped (in_row c.done) u + 1) (λ u. capped (in_row c.writer.known) u - capped (in_row c.done) u) 1 c.writer.seat.sites

-- the first of them is given, or none where none is left; the writer stays
abbrev pub GivesStamp : StampsLeft → Option events.Stamp → StampsLeft → Type 0
GivesStamp c r d = YieldsFirstBy stamp_of stamps_left c r d × (d.writer ≡ c.writer)

abbrev pub to_come : {E : Type 0} → SheetRecords E → List Stamp
to_come c = stamps_left c.stamps

abbrev pub records_of : {E : Type 0} → Format E → SheetRecords E → List (Record E)
records_of f c =
    read_all (rule_of f) c.stamps.writer.seat.sites (capped (in_row c.stamps.writer.known)) c.reader.bytes.now (to_come c) c.reader.place

-- the first of them is given, and its stamp is the first that is left; where none is given, the walk stays as it was, also at a stamp whose record cannot be read
abbrev pub GivesRecord : {E : Type 0} → Format E → SheetRecords E → Option (told.Record E) → SheetRecords E → Type 0
GivesRecord f c r d =
    YieldsFirstBy record_of (records_of f) c r d × MatchOption r (d ≡ c) (λ x. to_come c ≡ stamp_of x.at ∷ to_come d)

-- these are the records of a sheet with this writer and this table: wherever it can be read as such a sheet, with an own row or without, they are read
abbrev pub ReadAgain : {E : Type 0} → Format E → Seat → (k : ℕ) → Table → List ℕ → List (Record E) → Type 0
ReadAgain {E} f s k T bs rs =
    (own : Option (ℕ → ℕ)) (p : Sheet E) → read (rule_of f) s.sites s.own own bs ≡ Ok p → p.writer ≡ k → p.table ≡ T → rs ≡ p.records
