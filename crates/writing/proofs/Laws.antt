-- Writing over a buffer, part behind part.
use Rattle.std.proofs.Common.{◌≡◌, ℕ, ◌+◌, ◌≤◌, List, [], ◌++◌, length, take, drop, sym, ap, ◌∙◌, add-zero, arith}
use Rattle.std.proofs.lemmas.List.{drop-drop, append_assoc, length-append, length-take, length-drop, take_at, drop_at, take-append-drop}
use Rattle.writing.specs.Filled.{over}

pub length_over : (xs ws : List ℕ) (i : ℕ) → i + length ws ≤ length xs → length (over xs i ws) ≡ length xs
length_over xs ws i h = simp (length-append, length-take, length-drop) (omega arith)

-- nothing written
pub over_none : (xs : List ℕ) (i : ℕ) → over xs i [] ≡ xs
over_none xs i = simp add-zero (take-append-drop i xs)

-- one part written behind another
pub over_more : (xs ws vs : List ℕ) (i k : ℕ) → i + length ws ≤ length xs → k ≡ i + length ws
    → over (over xs i ws) k vs ≡ over xs i (ws ++ vs)
over_more xs ws vs i k h e =
    let n : length (take i xs ++ ws) ≡ k = length-append (take i xs) ws ∙ (simp length-take (omega arith)) in
    let w : over xs i ws ≡ (take i xs ++ ws) ++ drop k xs = rw e (sym (append_assoc (take i xs) ws (drop (i + length ws) xs))) in
    let t : take k (over xs i ws) ≡ take i xs ++ ws = rw w (take_at (take i xs ++ ws) (drop k xs) k n) in
    let d : drop k (over xs i ws) ≡ drop k xs = rw w (drop_at (take i xs ++ ws) (drop k xs) k n) in
    let d₂ : drop (k + length vs) (over xs i ws) ≡ drop (i + length (ws ++ vs)) xs =
    sym (drop-drop (length vs) k (over xs i ws)) ∙ ap (drop (length vs)) d ∙ drop-drop (length vs) k xs
    ∙ ap (λ m. drop m xs) (let q = length-append ws vs in omega arith) in
    (λ j. t j ++ (vs ++ d₂ j))
    ∙ append_assoc (take i xs) ws (vs ++ drop (i + length (ws ++ vs)) xs)
    ∙ ap (λ ys. take i xs ++ ys) (sym (append_assoc ws vs (drop (i + length (ws ++ vs)) xs)))
