-- What is said of an entry.
-- Assumes nothing.
use Rattle.std.specs.Prelude.{ℕ, List, Ok, Err, Result}
use Rattle.text.specs.Hexadecimals.{hex_text_of}
use Rattle.kinds.specs.declared.refusal.EntryRefusal.{EntryRefusal}
use Rattle.kinds.specs.Formats.{Format}
use Rattle.kinds.specs.Refused.{entry_refusal_text}
use Rattle.sheet_commands.specs.declared.problem.Problem.{Problem}
use Rattle.sheet_commands.specs.Problems.{problem_text}

-- its bytes in hexadecimal digits, or the problem
abbrev pub bytes_text : {E : Type 0} → Format E → Result E (Problem EntryRefusal) → List ℕ
bytes_text f (Ok e) = hex_text_of (f.encoded e)
bytes_text f (Err x) = problem_text entry_refusal_text x

-- its words, or the problem
abbrev pub said : {E : Type 0} → (E → List ℕ) → Result E (Problem EntryRefusal) → List ℕ
said text (Ok e) = text e
said text (Err x) = problem_text entry_refusal_text x
