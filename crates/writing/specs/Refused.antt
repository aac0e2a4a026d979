-- The refusal to write a sheet, as the rules have it, and in words.
-- Assumes nothing.
use Rattle.std.specs.Prelude.{ℕ, List, codes}
use Rattle.rules.specs.Refusals.{Refusal, short_for_writing}
use Rattle.refusals.specs.Shown.{ground_text}
use Rattle.writing.specs.declared.refusal.ShortBuffer.{ShortBuffer}

-- 9, which carries the length needed
abbrev pub refusal_of : ShortBuffer → Refusal
refusal_of x = short_for_writing x.needed

abbrev pub words_of : ShortBuffer → List ℕ
words_of x = codes "the buffer is too short"

abbrev pub short_buffer_text : ShortBuffer → List ℕ
short_buffer_text x = ground_text (refusal_of x) (words_of x)
