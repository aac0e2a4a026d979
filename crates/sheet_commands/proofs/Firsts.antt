-- The first words of a line, each by whether its place is among those asked for.
use Rattle.std.proofs.Common.{◌≡◌, ℕ, zero, suc, ◌+◌, ◌-◌, inl, inr, cond, List, [], ◌∷◌, nat_lt, sym, refl, ap, ◌∙◌, arith}
use Rattle.std.proofs.lemmas.Bool.{cases_lt}
use Rattle.std.proofs.lemmas.Bool.Decides.{nat_tests}
use Rattle.text.specs.Words.{word, behind}
use Rattle.sheet_commands.specs.Words.{words_up_to}

-- n words from place i on, where the first m are asked for
abbrev pub words_tested : (m i n : ℕ) → List ℕ → List (List ℕ)
words_tested m i zero cs = []
words_tested m i (suc n) cs = cond (nat_lt i m) (word cs) [] ∷ words_tested m (i + 1) n (cond (nat_lt i m) (behind cs) cs)

pub up_to_tested : (n m i : ℕ) (cs : List ℕ) → words_up_to (m - i) n cs ≡ words_tested m i n cs
up_to_tested zero m i cs = refl
up_to_tested (suc n) m i cs =
    elim (cases_lt i m) [
      | inl h ↦
          let e : m - i ≡ suc (m - (i + 1)) = omega arith in
          let r = up_to_tested n m (i + 1) (behind cs) in
          ap (λ k. words_up_to k (suc n) cs) e ∙ grind (arith, nat_tests)
      | inr h ↦
          let e : m - i ≡ zero = omega arith in
          let f : m - (i + 1) ≡ zero = omega arith in
          let r = ap (λ k. words_up_to k n cs) (sym f) ∙ up_to_tested n m (i + 1) cs in
          ap (λ k. words_up_to k (suc n) cs) e ∙ grind (arith, nat_tests)
    ]
