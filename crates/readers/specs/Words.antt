-- The refusals of a sheet in words.
-- Assumes nothing.
use Rattle.std.specs.Prelude.{ℕ, List, ◌++◌, codes}
use Rattle.refusals.specs.Shown.{ground_text}
use Rattle.kinds.specs.Refused.{entry_refusal_text}
use Rattle.readers.specs.declared.refusal.HeadByte as heads
use Rattle.readers.specs.declared.refusal.HeadByte.TheVariants.{Version, Sites, Writer, Addressee, Kind}
use Rattle.readers.specs.declared.refusal.NumberGround as numbers
use Rattle.readers.specs.declared.refusal.NumberGround.TheVariants as ground
use Rattle.readers.specs.declared.refusal.RecordByte as bytes
use Rattle.readers.specs.declared.refusal.RecordByte.TheVariants.{First, StruckSite, StruckNumber}
use Rattle.readers.specs.declared.refusal.SheetRefusal.{SheetRefusal}
use Rattle.readers.specs.declared.refusal.SheetRefusal.TheVariants.{EndsEarly, Head, Table, Record, Entry, BytesBehind, BeyondOwnRow}
use Rattle.readers.specs.Refused.{refusal_of}

abbrev pub head_words : heads.HeadByte → List ℕ
head_words Version = codes "byte 0 is not 1, the version"
head_words Sites = codes "byte 1 is not the group's size"
head_words Writer = codes "byte 2, the writer, is not another site of the group"
head_words Addressee = codes "byte 3, the addressee, is not this site"
head_words Kind = codes "byte 4 is not the code of the group's kind"

abbrev pub number_words : numbers.NumberGround → List ℕ
number_words ground.Million = codes "the table's number is above 1000000"
number_words ground.Writer = codes "the table's number is above the one in the writer's row for this origin"
number_words ground.Origin = codes "the table's number for an origin in its own row is not the one in the writer's row"

abbrev pub record_words : bytes.RecordByte → List ℕ
record_words First = codes "a record begins with 1 for a booking or 2 for a strike"
record_words StruckSite = codes "the struck stamp's site is not one of the group"
record_words StruckNumber = codes "the struck stamp's number is 0 or above the one in the writer's row for its site"

-- behind an entry's words stands the entry's own refusal
abbrev pub words_of : SheetRefusal → List ℕ
words_of (EndsEarly n) = codes "the sheet ends before all is there that its head and table announce"
words_of (Head b) = head_words b
words_of (Table p g) = number_words g
words_of (Record p b) = record_words b
words_of (Entry p x) = codes "the entry is not lawful: " ++ entry_refusal_text x
words_of (BytesBehind p) = codes "bytes stand behind the last record that the table announces"
words_of (BeyondOwnRow u) = codes "the table credits this site with events of that origin that it does not have"

-- as: refusal 8 (50) by sheet: bytes stand behind the last record that the table announces
abbrev pub sheet_refusal_text : SheetRefusal → List ℕ
sheet_refusal_text x = ground_text (refusal_of x) (words_of x)
