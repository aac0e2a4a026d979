-- What is said of a command's words that cannot be read.
-- Assumes nothing.
use Rattle.std.specs.Prelude.{ℕ, List, Some, codes, Option}
use Rattle.sheet_commands.specs.declared.problem.BadWord.{BadWord}
use Rattle.sheet_commands.specs.declared.problem.BadWord.TheVariants.{Number, Day, Work, Hexadecimal, Letters}
use Rattle.sheet_commands.specs.declared.problem.Problem.{Problem}
use Rattle.sheet_commands.specs.declared.problem.Problem.TheVariants.{Word, Refused}

abbrev pub word_text : BadWord → List ℕ
word_text Number = codes "no number: write decimal digits"
word_text Day = codes "no day: write a number, or a date from 2000-01-01 to 2099-12-31"
word_text Work = codes "no work: write retrofit, trial or freeze"
word_text Hexadecimal = codes "no bytes: write two hexadecimal digits for each"
word_text Letters = codes "no word: write four letters"

-- by the text of a refusal
abbrev pub problem_text : {R : Type 0} → (R → List ℕ) → Problem R → List ℕ
problem_text text (Word x) = word_text x
problem_text text (Refused x) = text x

-- the same where what is said of a refusal may be unknown
abbrev pub problem_output : {R : Type 0} → (R → Option (List ℕ)) → Problem R → Option (List ℕ)
problem_output output (Word x) = Some (word_text x)
problem_output output (Refused x) = output x
