-- A text in two parts, at the first place of a byte.
-- Assumes nothing.
use Rattle.std.specs.Prelude.{ℕ, cond, List, [], ◌∷◌, ◌++◌, Some, None, Option, ◌==◌}
use Rattle.std.specs.Option.{option_map}

-- two parts of a text
abbrev pub Parts : Type 0
Parts = List ℕ × List ℕ

-- cs before the first part
abbrev pub with_front : List ℕ → Option Parts → Option Parts
with_front cs o = option_map (λ p. (cs ++ p.0, p.1)) o

-- what stands before the first byte that is m, and what stands behind it; none if there is no such byte
abbrev pub split_at : ℕ → List ℕ → Option Parts
split_at m [] = None
split_at m (c ∷ cs) = let later = with_front (c ∷ []) (split_at m cs) in cond (c == m) (Some ([], cs)) later
