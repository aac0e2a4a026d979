-- The words of a line: what stands between blanks.
-- Assumes nothing.
use Rattle.std.specs.Prelude.{ℕ, Bool, cond, ◌||◌, List, [], ◌∷◌, ◌==◌}

-- a blank, a tab, a line feed or a carriage return
abbrev pub blank : ℕ → Bool
blank c = c == 32 || (c == 9 || (c == 10 || c == 13))

-- what is left behind the blanks in front
abbrev pub trimmed : List ℕ → List ℕ
trimmed [] = []
trimmed (c ∷ cs) = let rest = trimmed cs in cond (blank c) rest (c ∷ cs)

-- what stands before the first blank, and what stands from it on
abbrev pub front_word : List ℕ → List ℕ
front_word [] = []
front_word (c ∷ cs) = let rest = front_word cs in cond (blank c) [] (c ∷ rest)

abbrev pub past_word : List ℕ → List ℕ
past_word [] = []
past_word (c ∷ cs) = let rest = past_word cs in cond (blank c) (c ∷ cs) rest

-- the first word, empty if there is none, and what stands behind it
abbrev pub word : List ℕ → List ℕ
word cs = front_word (trimmed cs)

abbrev pub behind : List ℕ → List ℕ
behind cs = past_word (trimmed cs)
