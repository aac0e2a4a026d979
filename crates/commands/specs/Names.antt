-- Lines that hold no command.
-- Assumes nothing.
use Rattle.std.specs.Prelude.{ℕ, Bool, true, List, [], ◌∷◌, ◌==◌}

-- no word, or one that begins a comment
abbrev pub silent : List ℕ → Bool
silent [] = true
silent (c ∷ cs) = c == 35
