-- How many things have a property.
-- Assumes nothing.
use Rattle.std.specs.Prelude.{◌≡◌, ℕ, ◌↔◌, List, [], ◌∷◌, length}
use Rattle.rules.specs.Stamps.{◌∈◌}

-- no element stands twice
abbrev pub Distinct : {A : Type 0} → List A → Type 0
Distinct [] = Unit {0}
Distinct (x ∷ xs) = (x ∈ xs → ⊥) × Distinct xs

-- m things have the property P: there is a list of just these, each once, of length m
pub record HowMany {A : Type 0} (P : A → Type 0) (m : ℕ) : Type 0 where
  pub list : List A
  pub once : Distinct list
  pub these : (x : A) → x ∈ list ↔ P x
  pub long : length list ≡ m
