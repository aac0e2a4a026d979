-- The refusals of a sheet, as the rules have them.
-- Assumes nothing.
use Rattle.std.specs.Prelude.{ℕ, Some}
use Rattle.rules.specs.Refusals as rules
use Rattle.rules.specs.Refusals.{ends_early, bad_head, bad_table, bad_record, bytes_behind, beyond_own_row}
use Rattle.kinds.specs.Refused.{unlawful_of}
use Rattle.readers.specs.declared.refusal.HeadByte.{HeadByte}
use Rattle.readers.specs.declared.refusal.HeadByte.TheVariants.{Version, Sites, Writer, Addressee, Kind}
use Rattle.readers.specs.declared.refusal.SheetRefusal.{SheetRefusal}
use Rattle.readers.specs.declared.refusal.SheetRefusal.TheVariants.{EndsEarly, Head, Table, Record, Entry, BytesBehind, BeyondOwnRow}

-- where the bytes of the head stand
abbrev pub head_place : HeadByte → ℕ
head_place Version = 0
head_place Sites = 1
head_place Writer = 2
head_place Addressee = 3
head_place Kind = 4

-- by the number and what is carried; a 7 from an entry holds that entry's refusal inside it
abbrev pub refusal_of : SheetRefusal → rules.Refusal
refusal_of (EndsEarly n) = ends_early n
refusal_of (Head b) = bad_head (head_place b)
refusal_of (Table p g) = bad_table p
refusal_of (Record p b) = bad_record p
refusal_of (Entry p x) = record { number = 7; carried = p; layer = rules.sheet; inner = Some (unlawful_of x) }
refusal_of (BytesBehind p) = bytes_behind p
refusal_of (BeyondOwnRow u) = beyond_own_row u
