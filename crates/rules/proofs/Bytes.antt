-- Numbers in bytes, and the bytes of a list of things one after the other.
-- Assumes nothing.
use Rattle.std.proofs.Common.{◌≡◌, ℕ, ◌+◌, ◌*◌, ◌/◌, ◌%◌, ◌<◌, List, [], ◌∷◌, ◌++◌, length, drop, sym, refl, ap, ◌∙◌, add-zero, add_assoc, arith}
use Rattle.std.proofs.lemmas.List.{get_or-drop, append_assoc, drop-drop, drop_at}
use Rattle.std.specs.List.{flat_map}
use Rattle.rules.specs.Numbers.{be32, at32}

pub at32-drop : (bs : List ℕ) (a i : ℕ) → at32 (drop a bs) i ≡ at32 bs (a + i)
at32-drop bs a i = simp (get_or-drop, add_assoc)

pub at32-be32 : (n : ℕ) (rest : List ℕ) → n < 4294967296 → at32 (be32 n ++ rest) 0 ≡ n
at32-be32 n rest h =
    let p : n / 65536 ≡ n / 256 / 256 = omega arith in
    let q : n / 16777216 ≡ n / 256 / 256 / 256 = omega arith in
    let a : n ≡ n / 256 * 256 + n % 256 = omega arith in
    let b : n / 256 ≡ n / 256 / 256 * 256 + n / 256 % 256 = omega arith in
    let c : n / 256 / 256 ≡ n / 256 / 256 / 256 * 256 + n / 256 / 256 % 256 = omega arith in
    let d : n / 256 / 256 / 256 % 256 ≡ n / 256 / 256 / 256 = omega arith in
    rw (q, p, d) (omega arith)

pub at32_here : (bs : List ℕ) (a n : ℕ) (rest : List ℕ) → drop a bs ≡ be32 n ++ rest → n < 4294967296 → at32 bs a ≡ n
at32_here bs a n rest e h =
    ap (at32 bs) (sym (add-zero a)) ∙ sym (at32-drop bs a 0) ∙ ap (λ xs. at32 xs 0) e ∙ at32-be32 n rest h

pub joined_append : {X A : Type 0} (f : X → List A) (xs ys : List X) → flat_map f (xs ++ ys) ≡ flat_map f xs ++ flat_map f ys
joined_append f [] ys = refl
joined_append f (x ∷ xs) ys = ap (λ zs. f x ++ zs) (joined_append f xs ys) ∙ sym (append_assoc (f x) (flat_map f xs) (flat_map f ys))

-- past a front
pub drop_front : {A : Type 0} (xs ys : List A) (n m : ℕ) → length xs ≡ n → drop (n + m) (xs ++ ys) ≡ drop m ys
drop_front xs ys n m e = sym (drop-drop m n (xs ++ ys)) ∙ ap (drop m) (drop_at xs ys n e)
