-- Numbers that are too large for their type.
use Rattle.std.proofs.Common.{◌≡◌, ℕ, ◌+◌, ◌-◌, ◌*◌, ◌<◌, ◌≤◌, min, Bool, true, false, cond, List, [], ◌∷◌, length, get_or, drop, Some, None, Option, refl, ap, arith}
use Rattle.std.proofs.lemmas.List.{at_drop_more}
use Rattle.std.proofs.lemmas.Bool.Decides.{nat_tests}
use Rattle.text.specs.Decimals.{digit, read_on, decimal_of, most, capped}

cond_capped : (b : Bool) (x y : Option ℕ) → capped x ≡ capped y → capped (cond b x None) ≡ capped (cond b y None)
cond_capped true x y e = e
cond_capped false x y e = λ i. None

-- what is read on from two numbers is the same, if both are too large or the same
pub capped_on : (cs : List ℕ) (a b : ℕ) → min most a ≡ min most b → capped (read_on a cs) ≡ capped (read_on b cs)
capped_on [] a b e = ap (λ n. Some n) e
capped_on (c ∷ cs) a b e =
    cond_capped (digit c) _ _ (capped_on cs (a * 10 + (c - 48)) (b * 10 + (c - 48)) (omega arith))

-- at a place of the text: a digit is read on, and anything else ends it
pub digit_more : (n : ℕ) (cs : List ℕ) (i : ℕ) → i < length cs → 48 ≤ get_or cs i 0 → get_or cs i 0 ≤ 57 →
    read_on n (drop i cs) ≡ read_on (n * 10 + (get_or cs i 0 - 48)) (drop (i + 1) cs)
digit_more n cs i h a b = let e = at_drop_more (read_on n) cs i 0 h in grind (arith, nat_tests)

pub digit_none : (n : ℕ) (cs : List ℕ) (i : ℕ) → i < length cs → (48 ≤ get_or cs i 0 → get_or cs i 0 ≤ 57 → ⊥) → read_on n (drop i cs) ≡ None
digit_none n cs i h a = let e = at_drop_more (read_on n) cs i 0 h in grind (arith, nat_tests)

-- a text that is not empty
pub whole : (cs : List ℕ) → (length cs ≡ 0 → ⊥) → decimal_of cs ≡ read_on 0 cs
whole [] h = absurd (h refl)
whole (c ∷ cs) h = refl
