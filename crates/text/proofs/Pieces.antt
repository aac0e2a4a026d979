-- The first word and what stands behind it are the two parts of a text.
use Rattle.std.proofs.Common.{◌≡◌, sym, ℕ, suc, ◌+◌, ◌≤◌, Bool, not, List, [], ◌∷◌, length, take, drop, refl, ap, ◌∙◌, arith}
use Rattle.std.proofs.lemmas.List.Sums.{prefix_len-le-length}
use Rattle.std.proofs.lemmas.Bool.{cond_both}
use Rattle.std.proofs.lemmas.Bool.Decides.{nat_tests}
use Rattle.std.proofs.lemmas.List.Recursion.{is_position_or_len}
use Rattle.std.specs.List.{position, position_or_len}
use Rattle.std.specs.Option.{unwrap_or}
use Rattle.text.specs.Words.{blank, trimmed, front_word, past_word}

pub word_front : (cs : List ℕ) → take (length (front_word cs)) cs ≡ front_word cs
word_front [] = refl
word_front (c ∷ cs) =
    cond_both (blank c) [] (c ∷ front_word cs) (λ xs. take (length xs) (c ∷ cs) ≡ xs) (λ _. refl) (λ _. ap (λ xs. c ∷ xs) (word_front cs))

pub word_back : (cs : List ℕ) → drop (length (front_word cs)) cs ≡ past_word cs
word_back [] = refl
word_back (c ∷ cs) = grind (arith, word_back cs)

-- the first place that passes, or the length where none does
first_or_length : (p : ℕ → Bool) (cs : List ℕ) → unwrap_or (position p cs) (length cs) ≡ position_or_len p cs
first_or_length p cs = grind (arith, nat_tests, prefix_len-le-length (λ c. not (p c)) cs)

-- the word ends at the first blank
pub word_end : (cs : List ℕ) → unwrap_or (position blank cs) (length cs) ≡ length (front_word cs)
word_end cs =
    first_or_length blank cs
    ∙ sym
    (is_position_or_len (λ xs. length (front_word xs)) blank refl
    (λ x xs. grind arith) cs)

pub word_within : (cs : List ℕ) → length (front_word cs) ≤ length cs
word_within cs = omega (arith, word_end cs, first_or_length blank cs, prefix_len-le-length (λ c. not (blank c)) cs)

-- what is left begins at the first byte that is no blank
pub trim_at : (cs : List ℕ) → drop (unwrap_or (position (λ c. not (blank c)) cs) (length cs)) cs ≡ trimmed cs
trim_at cs = ap (λ n. drop n cs) (first_or_length (λ c. not (blank c)) cs) ∙ from cs
  where
    from : (cs : List ℕ) → drop (position_or_len (λ c. not (blank c)) cs) cs ≡ trimmed cs
    from [] = refl
    from (c ∷ cs) =
        let k = position_or_len (λ x. not (blank x)) cs in
        let n : 1 + k ≡ suc k = omega arith in
        let e : drop (1 + k) (c ∷ cs) ≡ drop k cs = ap (λ i. drop i (c ∷ cs)) n in
        grind (arith, from cs)
