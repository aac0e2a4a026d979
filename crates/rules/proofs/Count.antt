-- Counting: the numbers 1 to m are m numbers.
-- Assumes nothing.
use Rattle.std.proofs.Common.{◌≡◌, ℕ, zero, suc, ◌<◌, ◌≤◌, ◌⊎◌, ◌↔◌, List, [], ◌∷◌, length, refl, ap, inl, inr, arith}
use mathlib.Core.List.Memᴰ
use native.Mathlib.Decide.{dec_le}
use Rattle.rules.specs.Stamps.{◌∈◌}
use Rattle.rules.specs.Counting.{Distinct, HowMany}

pub split : (n m : ℕ) → (n ≤ m) ⊎ (m < n)
split n m = elim (dec_le n m) [ yes p ↦ inl p | no q ↦ inr (omega arith) ]

down : ℕ → List ℕ
down zero = []
down (suc m) = suc m ∷ down m

down_in : (m n : ℕ) → n ∈ down m → (1 ≤ n) × (n ≤ m)
unfolding down
down_in zero n h = absurd (Memᴰ.not-nil h)
down_in (suc m) n h =
    elim (Memᴰ.cases_cons h) [ inl e ↦ omega arith | inr t ↦ let l : (1 ≤ n) × (n ≤ m) = down_in m n t in omega arith ]

in_down : (m n : ℕ) → 1 ≤ n → n ≤ m → n ∈ down m
unfolding down
in_down zero n p q = absurd (omega arith)
in_down (suc m) n p q =
    elim (split n m) [ inl l ↦ Memᴰ.tail (in_down m n p l) | inr l ↦ Memᴰ.head (omega arith) ]

down_once : (m : ℕ) → Distinct (down m)
unfolding down
down_once zero = tt
down_once (suc m) = (λ h. let l : (1 ≤ suc m) × (suc m ≤ m) = down_in m (suc m) h in omega arith, down_once m)

down_long : (m : ℕ) → length (down m) ≡ m
unfolding down
down_long zero = refl
down_long (suc m) = ap suc (down_long m)

pub counted : (P : ℕ → Type 0) (m : ℕ) → ((n : ℕ) → P n ↔ ((1 ≤ n) × (n ≤ m))) → HowMany P m
counted P m e =
    record {
      list = down m;
      once = down_once m;
      these = λ n. (λ h. (e n).1 (down_in m n h), λ p. in_down m n ((e n).0 p).0 ((e n).0 p).1);
      long = down_long m;
    }
