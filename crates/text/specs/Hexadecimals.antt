-- Bytes in hexadecimal digits, two for each.
-- Assumes nothing.
use Rattle.std.specs.Prelude.{ℕ, ◌+◌, ◌-◌, ◌*◌, ◌/◌, ◌%◌, Bool, cond, ◌&&◌, List, [], ◌∷◌, Some, None, Option, is_some, nat_le, nat_lt}

-- what a digit stands for: 0 to 9, A to F or a to f
abbrev pub hex_value : ℕ → Option ℕ
hex_value c =
    cond (nat_le 48 c && nat_le c 57) (Some (c - 48))
    (cond (nat_le 65 c && nat_le c 70) (Some (c - 55)) (cond (nat_le 97 c && nat_le c 102) (Some (c - 87)) None))

-- whether a byte is a digit
abbrev pub is_digit : ℕ → Bool
is_digit c = is_some (hex_value c)

-- the digit for a number below 16, in capitals
abbrev pub hex_digit : ℕ → ℕ
hex_digit n = cond (nat_lt n 10) (48 + n) (55 + n)

-- the byte of two digits
abbrev pub paired : Option ℕ → Option ℕ → Option ℕ
paired None y = None
paired (Some x) None = None
paired (Some x) (Some y) = Some (x * 16 + y)

-- x in front of what there is
abbrev pub led : Option ℕ → Option (List ℕ) → Option (List ℕ)
led None ys = None
led (Some x) None = None
led (Some x) (Some ys) = Some (x ∷ ys)

-- the bytes that a text writes; none if a digit is bad or the last one is alone
abbrev pub hex_bytes_of : List ℕ → Option (List ℕ)
hex_bytes_of [] = Some []
hex_bytes_of (c ∷ []) = None
hex_bytes_of (c ∷ d ∷ cs) = led (paired (hex_value c) (hex_value d)) (hex_bytes_of cs)

-- the text that writes bytes
abbrev pub hex_text_of : List ℕ → List ℕ
hex_text_of [] = []
hex_text_of (b ∷ bs) = hex_digit (b / 16) ∷ hex_digit (b % 16) ∷ hex_text_of bs
