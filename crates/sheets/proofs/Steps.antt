-- Searches and checks over a table's places.
use Rattle.std.proofs.Common.{◌≡◌, ℕ, zero, suc, ◌+◌, ◌<◌, ◌≤◌, Bool, true, false, cond, List, [], ◌∷◌, ◌++◌, Some, None, Ok, Err, Result, refl, ap, ◌∙◌, inl, inr, arith}
use Rattle.std.proofs.lemmas.Bool.{cases_order, cond-true, cond-false}
use Rattle.rules.specs.Results.{◌>>=◌, none_of, first}
use Rattle.rules.specs.Sheets.{run, runs}

-- the first place of row k that passes, or none where none does
module _ (p : ℕ × ℕ → Bool) (k : ℕ) where
  pub row_none : (u m : ℕ) → ((v : ℕ) → u ≤ v → v < u + m → p (k, v) ≡ false) → first p (run k u m) ≡ None
  row_none u zero h = refl
  row_none u (suc m) h =
      cond-false (p (k, u)) _ _ (h u (omega arith) (omega arith)) ∙ row_none (u + 1) m (λ v a b. h v (omega arith) (omega arith))

  pub row_some : (u m i : ℕ) → u ≤ i → i < u + m → p (k, i) ≡ true → ((v : ℕ) → u ≤ v → v < i → p (k, v) ≡ false) → first p (run k u m) ≡ Some (k, i)
  row_some u zero i a b e h = absurd (omega arith)
  row_some u (suc m) i a b e h =
      elim (cases_order u i) [
        | inl q ↦ cond-true (p (k, u)) _ _ (ap (λ v. p (k, v)) q ∙ e) ∙ ap (λ v. Some (k, v)) q
        | inr o ↦ elim o [
          | inl l ↦
              cond-false (p (k, u)) _ _ (h u (omega arith) l) ∙ row_some (u + 1) m i (omega arith) (omega arith) e (λ v c d. h v (omega arith) d)
          | inr g ↦ absurd (omega arith)
        ]
      ]

-- what is found in the first places, else in the others
module _ {A X : Type 0} (p : A → Bool) (g : A → X) where
  found_then : (xs ys : List A) → none_of (first p (xs ++ ys)) g ≡ (none_of (first p xs) g >>= λ _. none_of (first p ys) g)
  found_then [] ys = refl
  found_then (x ∷ xs) ys = by (p x) (found_then xs ys)
    where
      by : (b : Bool) → none_of (first p (xs ++ ys)) g ≡ (none_of (first p xs) g >>= λ _. none_of (first p ys) g) →
          none_of (cond b (Some x) (first p (xs ++ ys))) g ≡ (none_of (cond b (Some x) (first p xs)) g >>= λ _. none_of (first p ys) g)
      by true e = refl
      by false e = e

-- a check at each of m numbers, from u on: the first refusal is the answer
abbrev pub tried : {X : Type 0} → (ℕ → Result (Unit {0}) X) → (u m : ℕ) → Result (Unit {0}) X
tried h u zero = Ok tt
tried h u (suc m) = h u >>= λ _. tried h (u + 1) m

module _ {X : Type 0} (h : ℕ → Result (Unit {0}) X) where
  pub tried_ok : (u m : ℕ) → ((k : ℕ) → u ≤ k → k < u + m → h k ≡ Ok tt) → tried h u m ≡ Ok tt
  tried_ok u zero a = refl
  tried_ok u (suc m) a =
      ap (λ z. z >>= λ _. tried h (u + 1) m) (a u (omega arith) (omega arith)) ∙ tried_ok (u + 1) m (λ k b c. a k (omega arith) (omega arith))

  pub tried_err : (u m i : ℕ) (y : X) → u ≤ i → i < u + m → h i ≡ Err y → ((k : ℕ) → u ≤ k → k < i → h k ≡ Ok tt) → tried h u m ≡ Err y
  tried_err u zero i y a b e o = absurd (omega arith)
  tried_err u (suc m) i y a b e o =
      elim (cases_order u i) [
        | inl q ↦ ap (λ z. z >>= λ _. tried h (u + 1) m) (ap h q ∙ e)
        | inr w ↦ elim w [
          | inl l ↦
              ap (λ z. z >>= λ _. tried h (u + 1) m) (o u (omega arith) l)
              ∙ tried_err (u + 1) m i y (omega arith) (omega arith) e (λ k c d. o k (omega arith) d)
          | inr g ↦ absurd (omega arith)
        ]
      ]

-- a row is checked number by number, and a table row by row
module _ {X : Type 0} (p : ℕ × ℕ → Bool) (g : ℕ × ℕ → X) where
  pub row_tried : (k u m : ℕ) → none_of (first p (run k u m)) g ≡ tried (λ v. none_of (first p ((k, v) ∷ [])) g) u m
  row_tried k u zero = refl
  row_tried k u (suc m) =
      found_then p g ((k, u) ∷ []) (run k (u + 1) m) ∙ ap (λ z. none_of (first p ((k, u) ∷ [])) g >>= λ _. z) (row_tried k (u + 1) m)

  pub rows_tried : (N k m : ℕ) → none_of (first p (runs (λ _. 1) (λ _. N) k m)) g ≡ tried (λ r. none_of (first p (run r 1 N)) g) k m
  rows_tried N k zero = refl
  rows_tried N k (suc m) =
      found_then p g (run k 1 N) (runs (λ _. 1) (λ _. N) (k + 1) m) ∙ ap (λ z. none_of (first p (run k 1 N)) g >>= λ _. z) (rows_tried N (k + 1) m)
