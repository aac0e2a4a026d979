-- Numbers in decimal digits.
-- Assumes nothing.
use Rattle.std.specs.Prelude.{ℕ, ◌+◌, ◌-◌, ◌*◌, min, Bool, cond, ◌&&◌, List, [], ◌∷◌, Some, None, Option, nat_le}
use Rattle.std.specs.Option.{option_map}

-- 0 to 9 in ASCII
abbrev pub digit : ℕ → Bool
digit c = nat_le 48 c && nat_le c 57

-- the number that goes on from n with these digits; none if one of them is no digit
abbrev pub read_on : ℕ → List ℕ → Option ℕ
read_on n [] = Some n
read_on n (c ∷ cs) = let more = read_on (n * 10 + (c - 48)) cs in cond (digit c) more None

-- the number that a text of at least one digit writes, and none for any other text
abbrev pub decimal_of : List ℕ → Option ℕ
decimal_of [] = None
decimal_of (c ∷ cs) = read_on 0 (c ∷ cs)

-- the largest number that is told apart from those above it
abbrev pub most : ℕ
most = 4294967295

abbrev pub capped : Option ℕ → Option ℕ
capped o = option_map (min most) o
