-- The hexadecimal digit of a number below 16.
use Rattle.std.proofs.Common.{◌≡◌, ℕ, ◌<◌, Some, arith}
use Rattle.std.proofs.lemmas.Bool.Decides.{nat_tests}
use Rattle.text.specs.Hexadecimals.{hex_value, hex_digit}

pub digit_ascii : (n : ℕ) → n < 16 → hex_digit n < 128
digit_ascii n h = grind (arith, nat_tests)

-- it is read back
pub value_back : (n : ℕ) → n < 16 → hex_value (hex_digit n) ≡ Some n
value_back n h = grind (arith, nat_tests)
