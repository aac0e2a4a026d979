-- Decisions whose answer is known, values that were chosen by one, and lists that are written out.
use Rattle.std.specs.Prelude.{◌≡◌, ℕ, zero, suc, ◌<◌, ◌≤◌, List, [], ◌∷◌, length, Some, None, Ok, Err, Option, Result, ◌≢◌, slice_index, refl}
use Rattle.std.proofs.Common.{sym, ap, lit<}
use mathlib.Core.HLevel.{hedberg}
use Rattle.std.proofs.Math.Bridge.{le_prop}
use Rattle.std.proofs.Math.Decide.{dec_le, ℕ_discrete}
use Rattle.std.specs.List.{AllByRecursion}
use Rattle.rules.specs.Refusals.{Unlawful}
use Rattle.rules.specs.Results.{refused_as}
use Rattle.kinds.specs.declared.refusal.EntryRefusal.{EntryRefusal}
use Rattle.kinds.specs.Refused.{unlawful_of}
use Rattle.kinds.specs.Choice.{choose, pick}

dec_yes : {P : Type 0} → IsProp P → (d : Dec P) (p : P) → d ≡ yes p
dec_yes ip (yes q) p = ap yes (ip q p)
dec_yes ip (no e) p = absurd (e p)

pub le_yes : (m n : ℕ) (p : m ≤ n) → dec_le m n ≡ yes p
le_yes m n p = dec_yes le_prop (dec_le m n) p

pub eq_yes : (m n : ℕ) (p : m ≡ n) → ℕ_discrete m n ≡ yes p
eq_yes m n p = dec_yes (hedberg ℕ_discrete m n) (ℕ_discrete m n) p

-- what a refused test gives
pub choose_no : {P X : Type 0} (d : Dec P) (n : X) (y : P → X) → (P → ⊥) → choose d n y ≡ n
choose_no (yes p) n y h = absurd (h p)
choose_no (no e) n y h = refl

-- what was chosen, where it is not what a refused test gives
pub choose_inv : {P X : Type 0} (d : Dec P) (n : X) (y : P → X) (x : X) → (n ≢ x) → choose d n y ≡ x → (p : P) × (y p ≡ x)
choose_inv (yes p) n y x h e = (p, e)
choose_inv (no q) n y x h e = absurd (h e)

pub pick_inv : {A X : Type 0} (o : Option A) (n : X) (y : A → X) (x : X) → (n ≢ x) → pick o n y ≡ x → (a : A) × (o ≡ Some a) × (y a ≡ x)
pick_inv (Some a) n y x h e = (a, refl, e)
pick_inv None n y x h e = absurd (h e)

-- what holds of both choices
pub choose_both : {P X : Type 0} (Q : X → Type 0) (d : Dec P) (n : X) (y : P → X) → Q n → ((p : P) → Q (y p)) → Q (choose d n y)
choose_both Q (yes p) n y a b = b p
choose_both Q (no e) n y a b = a

-- the same, where the refused choice may lean on the refusal
pub choose_by : {P X : Type 0} (Q : X → Type 0) (d : Dec P) (n : X) (y : P → X) → ((P → ⊥) → Q n) → ((p : P) → Q (y p)) → Q (choose d n y)
choose_by Q (yes p) n y a b = b p
choose_by Q (no e) n y a b = a e

pub pick_both : {A X : Type 0} (Q : X → Type 0) (o : Option A) (n : X) (y : A → X) → Q n → ((a : A) → Q (y a)) → Q (pick o n y)
pick_both Q (Some x) n y a b = b x
pick_both Q None n y a b = a

module _ {X Y : Type 0} where
  -- a refusal is no value, and a value is one only
  pub clash : (e : Y) (v : X) → ◌≡◌ {A = Result X Y} (Err e) (Ok v) → ⊥
  clash e v p = cc

  pub ok_same : (v u : X) → ◌≡◌ {A = Result X Y} (Ok v) (Ok u) → v ≡ u
  ok_same v u e = cc

  pub err_same : (v u : Y) → ◌≡◌ {A = Result X Y} (Err v) (Err u) → v ≡ u
  err_same v u e = cc

-- a value is read by the rules where it is by the code
pub ok_back : {X : Type 0} (r : Result X EntryRefusal) (v : X) → refused_as unlawful_of r ≡ Ok v → r ≡ Ok v
ok_back (Ok u) v e = ap (λ x. Ok x) (ok_same u v e)
ok_back (Err e) v p = absurd (clash (unlawful_of e) v p)

-- a refusal, if it is one, points before w
abbrev pub Near : {X : Type 0} → ℕ → Result X EntryRefusal → Type 0
Near w (Ok v) = Unit {0}
Near w (Err e) = (unlawful_of e).place < w

pub near_err : {X : Type 0} (w : ℕ) (r : Result X EntryRefusal) (x : Unlawful) → Near w r → refused_as unlawful_of r ≡ Err x → x.place < w
near_err w (Ok v) x h p = absurd (clash x v (sym p))
near_err w (Err e) x h p = let q = err_same (unlawful_of e) x p in rw (← q) h

-- a list by its elements
abbrev pub table : ℕ → (ℕ → ℕ) → List ℕ
table zero f = []
table (suc n) f = f 0 ∷ table n (λ k. f (suc k))

spell : (xs : List ℕ) → xs ≡ table (length xs) (λ k. slice_index xs k)
spell [] = refl
spell (x ∷ xs) = ap (λ ys. x ∷ ys) (spell xs)

pub spell_at : (n : ℕ) (xs : List ℕ) → length xs ≡ n → xs ≡ table n (λ k. slice_index xs k)
spell_at n xs e = rw (← e) (spell xs)

pub below_all : (xs : List ℕ) → AllByRecursion (λ x. x < 256) xs → (i : ℕ) → slice_index xs i < 256
below_all [] h i = lit< tt
below_all (x ∷ xs) h zero = h.0
below_all (x ∷ xs) h (suc i) = below_all xs h.1 i
