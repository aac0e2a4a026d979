-- Steps that may be refused, one after the other: the first refusal is the answer.
-- Assumes nothing.
use Rattle.std.specs.Prelude.{Bool, true, false, cond, List, [], ◌∷◌, Some, None, Ok, Err, Option, Result}

infixl 1 ◌>>=◌
-- the next step, at what this one gives
abbrev pub ◌>>=◌ : {A B X : Type 0} → Result A X → (A → Result B X) → Result B X
Ok a >>= f = f a
Err x >>= f = Err x

-- refused with x unless the test holds
abbrev pub require : {X : Type 0} → Bool → X → Result (Unit {0}) X
require true x = Ok tt
require false x = Err x

-- refused if there is something, by what it is
abbrev pub none_of : {A X : Type 0} → Option A → (A → X) → Result (Unit {0}) X
none_of None f = Ok tt
none_of (Some a) f = Err (f a)

-- the same with another refusal
abbrev pub refused_as : {A X Y : Type 0} → (X → Y) → Result A X → Result A Y
refused_as f (Ok a) = Ok a
refused_as f (Err x) = Err (f x)

-- the first element that passes a test
abbrev pub first : {A : Type 0} → (A → Bool) → List A → Option A
first p [] = None
first p (x ∷ xs) = let later = first p xs in cond (p x) (Some x) later

-- an answer without its value
abbrev pub forgotten : {A X : Type 0} → Result A X → Result (Unit {0}) X
forgotten (Ok a) = Ok tt
forgotten (Err x) = Err x
