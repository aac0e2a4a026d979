-- The words of a line, and the number that a word writes.
-- Assumes nothing.
use Rattle.std.specs.Prelude.{ℕ, zero, suc, min, List, [], ◌∷◌, Ok, Result, ok_or}
use Rattle.rules.specs.Results.{◌>>=◌}
use Rattle.text.specs.Decimals.{decimal_of, capped}
use Rattle.text.specs.Words.{word, behind}
use Rattle.sheet_commands.specs.declared.problem.BadWord.{BadWord}
use Rattle.sheet_commands.specs.declared.problem.BadWord.TheVariants.{Number}

-- the first n words of a line, empty where there are none
abbrev pub first_words : ℕ → List ℕ → List (List ℕ)
first_words zero cs = []
first_words (suc n) cs = word cs ∷ first_words n (behind cs)

-- the same of at most m words, those behind them empty
abbrev pub words_up_to : (m n : ℕ) → List ℕ → List (List ℕ)
words_up_to m zero cs = []
words_up_to zero (suc n) cs = [] ∷ words_up_to zero n cs
words_up_to (suc m) (suc n) cs = word cs ∷ words_up_to m n (behind cs)

-- a number; one that is too large reads as the largest
abbrev pub number_read : List ℕ → Result ℕ BadWord
number_read w = ok_or (capped (decimal_of w)) Number

-- a number; one that is larger than the most reads as the most
abbrev pub number_up_to : (most : ℕ) → List ℕ → Result ℕ BadWord
number_up_to most w = do
  n ← number_read w
  Ok (min n most)
