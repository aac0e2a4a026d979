-- What stands before the first of two parts.
use Rattle.std.proofs.Common.{◌≡◌, ℕ, List, [], ◌++◌, Some, None, Option, refl, ap, append_assoc}
use Rattle.text.specs.Splits.{Parts, with_front}

-- nothing before the first part
pub front_none : (o : Option Parts) → with_front [] o ≡ o
front_none None = refl
front_none (Some p) = refl

-- one text before another
pub front_more : (xs ys : List ℕ) (o : Option Parts) → with_front (xs ++ ys) o ≡ with_front xs (with_front ys o)
front_more xs ys None = refl
front_more xs ys (Some p) = ap (λ zs. Some (zs, p.1)) (append_assoc xs ys p.0)
