-- A search for the first element that passes a test: what it finds is there and passes, what it passes over fails.
-- Assumes nothing.
use Rattle.std.proofs.Common.{◌≡◌, ℕ, Bool, true, false, List, [], ◌∷◌, Some, None, sym, refl, ap, ◌∙◌, inl, inr, arith}
use mathlib.Core.List.Memᴰ
use Rattle.std.proofs.lemmas.Bool.{cond_both, cond-false}
use Rattle.rules.specs.Results.{first}
use Rattle.rules.specs.Stamps.{◌∈◌}

module _ {A : Type 0} (p : A → Bool) where
  pub first_in : (xs : List A) (w : A) → first p xs ≡ Some w → (w ∈ xs) × (p w ≡ true)
  first_in [] w e = let z : ◌≡◌ {A = ℕ} 0 1 = cc in absurd (omega arith)
  first_in (x ∷ xs) w e₀ =
      cond_both (p x) (Some x) (first p xs) (λ o. o ≡ Some w → (w ∈ (x ∷ xs)) × (p w ≡ true))
      (λ t e. let q : x ≡ w = cc in (Memᴰ.head (sym q), ap p (sym q) ∙ t))
      (λ f e. let z = first_in xs w e in (Memᴰ.tail z.0, z.1)) e₀

  pub none_found : (xs : List A) → first p xs ≡ None → (x : A) → x ∈ xs → p x ≡ false
  none_found [] e x h = absurd (Memᴰ.not-nil h)
  none_found (y ∷ ys) e₀ x h =
      cond_both (p y) (Some y) (first p ys) (λ o. o ≡ None → p x ≡ false)
      (λ t e. let z : ◌≡◌ {A = ℕ} 0 1 = cc in absurd (omega arith))
      (λ f e. elim (Memᴰ.cases_cons h) [ inl q ↦ ap p q ∙ f | inr t ↦ none_found ys e x t ]) e₀

  pub first_none : (xs : List A) → ((y : A) → y ∈ xs → p y ≡ false) → first p xs ≡ None
  first_none [] f = refl
  first_none (y ∷ ys) f =
      cond-false (p y) (Some y) (first p ys) (f y (Memᴰ.head refl)) ∙ first_none ys (λ z m. f z (Memᴰ.tail m))
