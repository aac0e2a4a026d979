-- Letters, A to Z in ASCII.
-- Assumes nothing.
use Rattle.std.specs.Prelude.{ℕ, not, List}
use Rattle.std.specs.List.{position_or_len}
use Rattle.std.specs.Char.{is_ascii_uppercase}

-- how many letters stand in front
abbrev pub front : List ℕ → ℕ
front xs = position_or_len (λ x. not (is_ascii_uppercase x)) xs
