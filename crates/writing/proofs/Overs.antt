-- What writes of a byte and of a part leave, and parts behind one another.
use Rattle.std.proofs.Common.{◌≡◌, ℕ, suc, ◌+◌, ◌-◌, ◌<◌, ◌≤◌, List, [], ◌∷◌, ◌++◌, length, take, drop, set, ap, ◌∙◌, arith}
use Rattle.std.proofs.lemmas.List.{append_assoc, drop-drop, length-append, set_split}
use borrow.Rule.Slice.PartMut.{put_mid}
use Rattle.writing.specs.Filled.{over}
use Rattle.writing.proofs.Laws.{length_over, over_more}

-- what a part that was written over leaves
pub put_is : (xs ys ws : List ℕ) (i k : ℕ) → ys ≡ ws → k ≡ i + length ws - i → put_mid i k xs ys ≡ over xs i ws
put_is xs ys ws i k e h =
    let p : k ≡ length ws = omega arith in
    rw (e, p, drop-drop)

-- one byte written
pub set_over : (xs : List ℕ) (i b : ℕ) → i < length xs → set xs i b ≡ over xs i (b ∷ [])
set_over xs i b h = set_split xs i b h ∙ ap (λ k. take i xs ++ b ∷ drop k xs) (let e : suc i ≡ i + 1 = omega arith in e)

-- one byte written behind others
pub set_behind : (xs ws : List ℕ) (i k b : ℕ) → i + length ws < length xs → k ≡ i + length ws → set (over xs i ws) k b ≡ over xs i (ws ++ b ∷ [])
set_behind xs ws i k b h e =
    let n = length_over xs ws i (omega arith) in
    set_over (over xs i ws) k b (omega arith) ∙ over_more xs ws (b ∷ []) i k (omega arith) e

-- a part written over behind others
pub put_behind : (xs ws ys vs : List ℕ) (i k m : ℕ) → i + length ws ≤ length xs → k ≡ i + length ws → ys ≡ vs → m ≡ k + length vs - k
    → put_mid k m (over xs i ws) ys ≡ over xs i (ws ++ vs)
put_behind xs ws ys vs i k m h e p q = put_is (over xs i ws) ys vs k m p q ∙ over_more xs ws vs i k h e

-- head, table and records, one behind another
pub three : (out head table records : List ℕ) (a b : ℕ) → a ≡ length head → b ≡ a + length table → b + length records ≤ length out →
    over (over (over out 0 head) a table) b records ≡ over out 0 (head ++ (table ++ records))
three out head table records a b e f l =
    let p = length-append head table in
    let q : over (over out 0 head) a table ≡ over out 0 (head ++ table) = over_more out head table 0 a (omega arith) (omega arith) in
    (λ j. over (q j) b records)
    ∙ over_more out (head ++ table) records 0 b (omega arith) (omega arith)
    ∙ ap (over out 0) (append_assoc head table records)
