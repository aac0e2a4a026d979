-- The code's answers of reading, as the rules have them.
-- Assumes nothing.
use Rattle.std.specs.Prelude.{◌≡◌, ℕ, ◌+◌, ◌^◌, ◌<◌, List, length, Ok, Err, Result}
use Rattle.rules.specs.Stamps as stamps
use Rattle.rules.specs.Records as records
use Rattle.rules.specs.Reading.{entry_part, stamp_part}
use Rattle.rules.specs.Reading as reading
use Rattle.events.specs.declared.stamp.Stamp.{Stamp}
use Rattle.events.specs.declared.record.Body.{Body}
use Rattle.events.specs.Told.{stamp_of, body_of}
use Rattle.readers.specs.declared.reader.Part.{Part}
use Rattle.readers.specs.declared.reader.RecordPart.{RecordPart}
use Rattle.readers.specs.declared.reader.RecordPart.TheVariants.{Booked, Struck}
use Rattle.readers.specs.declared.refusal.SheetRefusal.{SheetRefusal}

-- a record as a part of the sheet
abbrev pub part_of : RecordPart → reading.Part
part_of (Booked p) = entry_part p.bytes.now p.place
part_of (Struck p) = stamp_part p.bytes.now p.place

-- bytes that were cut out, as a part of this form, and the place behind them
abbrev pub cut_as : (List ℕ → ℕ → reading.Part) → Result Part SheetRefusal → ℕ → Result (reading.Part × ℕ) SheetRefusal
cut_as f (Ok p) end = Ok (f p.bytes.now p.place, end)
cut_as f (Err x) end = Err x

-- a part, and the place behind it
abbrev pub parted : Result RecordPart SheetRefusal → ℕ → Result (reading.Part × ℕ) SheetRefusal
parted (Ok p) end = Ok (part_of p, end)
parted (Err x) end = Err x

-- an entry's part has the width of an entry, a stamp's part five bytes, and both end at a place that can be counted to
abbrev pub Sized : ℕ → reading.Part → Type 0
Sized width (entry_part xs at) = (length xs ≡ width) × (at + width < 2 ^ 64)
Sized width (stamp_part xs at) = (length xs ≡ 5) × (at + 5 < 2 ^ 64)

abbrev pub stamp_shown : Result Stamp SheetRefusal → Result stamps.Stamp SheetRefusal
stamp_shown (Ok s) = Ok (stamp_of s)
stamp_shown (Err x) = Err x

abbrev pub body_shown : {V : Type 0} → Result (Body V) SheetRefusal → Result (records.Body V) SheetRefusal
body_shown (Ok b) = Ok (body_of b)
body_shown (Err x) = Err x

-- what an event does, and the place behind its record
abbrev pub recorded : {V : Type 0} → Result (Body V) SheetRefusal → ℕ → Result (records.Body V × ℕ) SheetRefusal
recorded (Ok b) end = Ok (body_of b, end)
recorded (Err x) end = Err x

-- where a call is refused, this holds
abbrev pub IfRefused : {A X : Type 0} → Result A X → Type 0 → Type 0
IfRefused (Ok a) P = Unit {0}
IfRefused (Err x) P = P
