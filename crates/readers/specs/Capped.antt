-- Numbers of events, none above 1,000,000.
-- Assumes nothing.
use Rattle.std.specs.Prelude.{ℕ, min}

-- the numbers of a row, and 1,000,000 in place of those above it
abbrev pub capped : (ℕ → ℕ) → ℕ → ℕ
capped r = λ u. min (r u) 1000000
