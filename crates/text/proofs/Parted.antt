-- A text in two parts, at the first place of a byte.
use Rattle.std.proofs.Common.{◌≡◌, ℕ, suc, ◌+◌, Bool, cond, List, [], ◌∷◌, take, drop, Some, None, Option, ◌==◌, refl, ap, arith}
use Rattle.std.proofs.lemmas.Bool.Decides.{nat_tests}
use Rattle.std.specs.List.{position}
use Rattle.std.specs.Option.{option_map}
use Rattle.text.specs.Splits.{Parts, with_front, split_at}

-- the first place in a text with a byte in front
position_cons : (p : ℕ → Bool) (c : ℕ) (cs : List ℕ) → position p (c ∷ cs) ≡ cond (p c) (Some 0) (option_map suc (position p cs))
position_cons p c cs = grind (arith, nat_tests)

-- the two parts of a text at a place
abbrev pub parts_at : List ℕ → ℕ → Parts
parts_at cs i = (take i cs, drop (i + 1) cs)

front_more : (c : ℕ) (cs : List ℕ) (o : Option ℕ) →
    with_front (c ∷ []) (option_map (parts_at cs) o) ≡ option_map (parts_at (c ∷ cs)) (option_map suc o)
front_more c cs None = refl
front_more c cs (Some i) = let e : suc (i + 1) ≡ suc i + 1 = omega arith in ap (λ n. Some (c ∷ take i cs, drop n (c ∷ cs))) e

-- the parts are those at the first place of the byte
pub split_is : (m : ℕ) (cs : List ℕ) → split_at m cs ≡ option_map (parts_at cs) (position (λ c. c == m) cs)
split_is m [] = refl
split_is m (c ∷ cs) =
    let e = position_cons (λ x. x == m) c cs in
    let f = front_more c cs (position (λ x. x == m) cs) in
    grind (arith, split_is m cs)
