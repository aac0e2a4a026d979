-- Tests: both parts of a conjunction, and tests of every element of a list.
-- Assumes nothing.
use Rattle.std.proofs.Common.{◌≡◌, ℕ, zero, suc, ◌<◌, Bool, true, false, not, ◌&&◌, List, [], ◌∷◌, ◌++◌, length, get_or, take, drop, set, filter, refl, ◌∙◌, arith}
use Rattle.std.specs.List.{insert, list_all}
use Rattle.std.proofs.lemmas.List.Folds.{list_all-append}
use Rattle.std.proofs.lemmas.Bool.{and_parts, and_from, not-true}

-- a test's two ways
pub by_test : {P : Type 0} (b : Bool) → (b ≡ true → P) → (b ≡ false → P) → P
by_test true t f = t refl
by_test false t f = f refl

pub and_left : (a b : Bool) → (a && b) ≡ true → a ≡ true
and_left a b h = (and_parts a b h).0

pub and_right : (a b : Bool) → (a && b) ≡ true → b ≡ true
and_right a b h = (and_parts a b h).1

module _ {X : Type 0} where
  pub all_at : (p : X → Bool) (xs : List X) (i : ℕ) (d : X) → list_all p xs ≡ true → i < length xs → p (get_or xs i d) ≡ true
  all_at p [] i d h l = absurd (omega arith)
  all_at p (x ∷ xs) zero d h l = and_left (p x) (list_all p xs) h
  all_at p (x ∷ xs) (suc i) d h l = all_at p xs i d (and_right (p x) (list_all p xs) h) (omega arith)

  pub all_weaker : (p q : X → Bool) (xs : List X) → ((x : X) → p x ≡ true → q x ≡ true) → list_all p xs ≡ true → list_all q xs ≡ true
  all_weaker p q [] w h = refl
  all_weaker p q (x ∷ xs) w h = and_from (q x) (list_all q xs) (w x (and_left (p x) (list_all p xs) h)) (all_weaker p q xs w (and_right (p x) (list_all p xs) h))

  pub all_two : (p q r : X → Bool) (xs : List X) → ((x : X) → p x ≡ true → q x ≡ true → r x ≡ true) → list_all p xs ≡ true → list_all q xs ≡ true → list_all r xs ≡ true
  all_two p q r [] w h k = refl
  all_two p q r (x ∷ xs) w h k =
      and_from (r x) (list_all r xs) (w x (and_left (p x) (list_all p xs) h) (and_left (q x) (list_all q xs) k))
      (all_two p q r xs w (and_right (p x) (list_all p xs) h) (and_right (q x) (list_all q xs) k))

  pub all_append : (p : X → Bool) (xs ys : List X) → list_all p xs ≡ true → list_all p ys ≡ true → list_all p (xs ++ ys) ≡ true
  all_append p xs ys h k = list_all-append p xs ys ∙ (λ i. h i && k i)

  pub all_take : (p : X → Bool) (i : ℕ) (xs : List X) → list_all p xs ≡ true → list_all p (take i xs) ≡ true
  all_take p zero xs h = refl
  all_take p (suc i) [] h = refl
  all_take p (suc i) (x ∷ xs) h = and_from (p x) (list_all p (take i xs)) (and_left (p x) (list_all p xs) h) (all_take p i xs (and_right (p x) (list_all p xs) h))

  pub all_drop : (p : X → Bool) (i : ℕ) (xs : List X) → list_all p xs ≡ true → list_all p (drop i xs) ≡ true
  all_drop p zero xs h = h
  all_drop p (suc i) [] h = refl
  all_drop p (suc i) (x ∷ xs) h = all_drop p i xs (and_right (p x) (list_all p xs) h)

  pub all_inserted : (p : X → Bool) (xs : List X) (i : ℕ) (x : X) → p x ≡ true → list_all p xs ≡ true → list_all p (insert xs i x) ≡ true
  all_inserted p xs i x h k = all_append p (take i xs) (x ∷ drop i xs) (all_take p i xs k) (and_from (p x) (list_all p (drop i xs)) h (all_drop p i xs k))

  pub all_set : (p : X → Bool) (xs : List X) (i : ℕ) (x : X) → p x ≡ true → list_all p xs ≡ true → list_all p (set xs i x) ≡ true
  all_set p [] i x h k = refl
  all_set p (y ∷ ys) zero x h k = and_from (p x) (list_all p ys) h (and_right (p y) (list_all p ys) k)
  all_set p (y ∷ ys) (suc i) x h k = and_from (p y) (list_all p (set ys i x)) (and_left (p y) (list_all p ys) k) (all_set p ys i x h (and_right (p y) (list_all p ys) k))

  pub kept_all : (p : X → Bool) (xs : List X) → list_all p xs ≡ true → filter p xs ≡ xs
  kept_all p [] h = refl
  kept_all p (x ∷ xs) h = rw (and_left (p x) (list_all p xs) h, kept_all p xs (and_right (p x) (list_all p xs) h)) refl

  pub kept_none : (p : X → Bool) (xs : List X) → list_all (λ x. not (p x)) xs ≡ true → filter p xs ≡ []
  kept_none p [] h = refl
  kept_none p (x ∷ xs) h =
      let e : p x ≡ false = not-true (p x) (and_left (not (p x)) (list_all (λ x. not (p x)) xs) h) in
      rw e (kept_none p xs (and_right (not (p x)) (list_all (λ x. not (p x)) xs) h))
