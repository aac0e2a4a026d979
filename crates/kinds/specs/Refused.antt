-- The refusal of an entry, as the rules have it, and in words.
-- Assumes nothing.
use Rattle.std.specs.Prelude.{ℕ, min, List, ◌++◌, codes, decimal}
use Rattle.rules.specs.Refusals.{Refusal, Unlawful, bad_entry}
use Rattle.refusals.specs.Shown.{ground_text}
use Rattle.kinds.specs.declared.refusal.EntryRefusal.{EntryRefusal}
use Rattle.kinds.specs.declared.refusal.EntryRefusal.TheVariants as refused
use Rattle.kinds.specs.declared.refusal.Field.{Field}
use Rattle.kinds.specs.declared.refusal.Field.TheVariants.{Line, FirstDay, LastDay, Work, Crew, Tag, Day, Letter}

-- the smaller of length and width if these differ, else the place of the first bad field
abbrev pub unlawful_of : EntryRefusal → Unlawful
unlawful_of (refused.Length l w) = record { place = min l w }
unlawful_of (refused.Field f p) = record { place = p }

-- 2, which carries that
abbrev pub refusal_of : EntryRefusal → Refusal
refusal_of x = bad_entry (unlawful_of x)

abbrev pub field_text : Field → List ℕ
field_text Line = codes "the line is not 1 to 999"
field_text FirstDay = codes "the first day is not 0 to 36524"
field_text LastDay = codes "the last day is not from the first day to 36524"
field_text Work = codes "the work is not 1, 2 or 3"
field_text Crew = codes "the crew is not 0 to 99"
field_text Tag = codes "the tag is not 1 or 3"
field_text Day = codes "the day is not 0 to 36524"
field_text Letter = codes "a letter is not A to Z"

abbrev pub words_of : EntryRefusal → List ℕ
words_of (refused.Length l w) = codes "the entry has " ++ (decimal l ++ (codes " bytes and needs " ++ decimal w))
words_of (refused.Field f p) = field_text f

abbrev pub entry_refusal_text : EntryRefusal → List ℕ
entry_refusal_text x = ground_text (refusal_of x) (words_of x)
