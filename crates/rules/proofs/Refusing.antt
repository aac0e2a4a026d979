-- Steps that may be refused: an answer from the steps, and what an answer says of the steps.
-- Assumes nothing.
use Rattle.std.proofs.Common.{◌≡◌, ℕ, Bool, true, false, IfOk, Some, None, Ok, Err, Option, Result, refl, ap, ◌∙◌, subst, arith}
use Rattle.rules.specs.Results.{◌>>=◌, require, none_of, refused_as}

-- forwards: the answer of a step and of what follows
pub then_ok : {A B X : Type 0} (m : Result A X) (a : A) (f : A → Result B X) (r : Result B X) → m ≡ Ok a → f a ≡ r → (m >>= f) ≡ r
then_ok m a f r e h = ap (λ x. x >>= f) e ∙ h

pub then_err : {A B X : Type 0} (m : Result A X) (x : X) (f : A → Result B X) → m ≡ Err x → (m >>= f) ≡ Err x
then_err m x f e = ap (λ y. y >>= f) e

pub passes : {B X : Type 0} (b : Bool) (x : X) (f : Unit {0} → Result B X) (r : Result B X) → b ≡ true → f tt ≡ r →
    (require b x >>= f) ≡ r
passes b x f r e h = ap (λ c. require c x >>= f) e ∙ h

pub stops : {B X : Type 0} (b : Bool) (x : X) (f : Unit {0} → Result B X) → b ≡ false → (require b x >>= f) ≡ Err x
stops b x f e = ap (λ c. require c x >>= f) e

-- backwards: of an answer something holds
pub by_test : {B X : Type 0} (b : Bool) (x : X) (f : Unit {0} → Result B X) (P : B → Type 0) →
    (b ≡ true → IfOk (f tt) P) → IfOk (require b x >>= f) P
by_test true x f P h = h refl
by_test false x f P h = tt

pub by_step : {A B X : Type 0} (m : Result A X) (f : A → Result B X) (P : B → Type 0) →
    ((a : A) → m ≡ Ok a → IfOk (f a) P) → IfOk (m >>= f) P
by_step (Ok a) f P h = h a refl
by_step (Err x) f P h = tt

pub by_made : {A B X : Type 0} (m : Result A X) (f : A → Result B X) (Q : A → Type 0) (P : B → Type 0) → IfOk m Q →
    ((a : A) → Q a → IfOk (f a) P) → IfOk (m >>= f) P
by_made (Ok a) f Q P q h = h a q
by_made (Err x) f Q P q h = tt

pub made_at : {A X : Type 0} (m : Result A X) (P : A → Type 0) (a : A) → IfOk m P → m ≡ Ok a → P a
made_at {A} {X} m P a h e = subst (λ (r : Result A X). IfOk r P) e h

pub made_with : {A X : Type 0} (m : Result A X) (P Q : A → Type 0) → IfOk m P → ((a : A) → P a → Q a) → IfOk m Q
made_with (Ok a) P Q h f = f a h
made_with (Err x) P Q h f = tt

pub required : {X : Type 0} (b : Bool) (x : X) (t : Unit {0}) → require b x ≡ Ok t → b ≡ true
required true x t e = refl
required false x t e = let z : ◌≡◌ {A = ℕ} 0 1 = cc in absurd (omega arith)

pub refused_ok : {A X Y : Type 0} (f : X → Y) (m : Result A X) (a : A) → refused_as f m ≡ Ok a → m ≡ Ok a
refused_ok f (Ok b) a e = cc
refused_ok f (Err x) a e = let z : ◌≡◌ {A = ℕ} 0 1 = cc in absurd (omega arith)

pub none_ok : {A X : Type 0} (o : Option A) (f : A → X) (t : Unit {0}) → none_of o f ≡ Ok t → o ≡ None
none_ok None f t e = refl
none_ok (Some a) f t e = let z : ◌≡◌ {A = ℕ} 0 1 = cc in absurd (omega arith)
