-- A row and a table with one number, or one row, changed.
use Rattle.std.proofs.Common.{◌≡◌, ℕ, zero, suc, ◌-◌, ◌<◌, ◌≤◌, max, cond, eqb, List, length, get_or, set, sym, refl, ap, ◌∙◌, inl, inr, arith, get_or-set_other, get_or-set_same}
use Rattle.std.proofs.lemmas.List.{get_or_past, get_or_default, get_or-replicate}
use Rattle.std.proofs.lemmas.Bool.{cases_eq, cases_lt, eq-eqb, ne_eqb, cond-true, cond-false}
use Rattle.rules.specs.Tables.{Table}
use Rattle.tables.specs.declared.table.Row.{Row}
use Rattle.tables.specs.Numbers.{blank, number_in, in_row, in_rows, row_with}

-- the empty row
pub row_blank : in_row blank ≡ (λ _. 0)
row_blank = λ j u. at u j
  where
    at : (u : ℕ) → in_row blank u ≡ 0
    at zero = refl
    at (suc u) =
        elim (cases_lt u 8) [
          | inl l ↦ get_or-replicate 8 u 0 0 l
          | inr g ↦ get_or_past blank.numbers u 0 g
        ]

-- one number of a row
set_row : (ns : List ℕ) (u n : ℕ) → 1 ≤ u → u ≤ length ns → (w : ℕ) → number_in (set ns (u - 1) n) w ≡ cond (eqb w u) n (number_in ns w)
set_row ns zero n a b w = absurd (omega arith)
set_row ns (suc u) n a b zero = sym (cond-false (eqb 0 (suc u)) n 0 (ne_eqb 0 (suc u) (omega arith)))
set_row ns (suc u) n a b (suc w) =
    let e : suc u - 1 ≡ u = omega arith in
    ap (λ k. get_or (set ns k n) w 0) e
    ∙ elim (cases_eq w u) [
      | inl q ↦
          ap (λ k. get_or (set ns u n) k 0) q ∙ get_or-set_same ns u n 0 (omega arith)
          ∙ sym (cond-true (eqb (suc w) (suc u)) n (get_or ns w 0) (eq-eqb (suc w) (suc u) (ap suc q)))
      | inr d ↦
          get_or-set_other ns u w n 0 d
          ∙ sym (cond-false (eqb (suc w) (suc u)) n (get_or ns w 0) (ne_eqb (suc w) (suc u) (λ q. d (omega arith))))
    ]

-- a row with one number set
pub row_set : (ns : List ℕ) (u n : ℕ) → 1 ≤ u → u ≤ length ns → number_in (set ns (u - 1) n) ≡ row_with (number_in ns) u n
row_set ns u n a b = λ j w. set_row ns u n a b w j

-- a table with one row set
pub rows-set : (rs : List Row) (k : ℕ) (r : Row) → 1 ≤ k → k ≤ length rs →
    in_rows (set rs (k - 1) r) ≡ (λ a w. cond (eqb a k) (in_row r w) (in_rows rs a w))
rows-set rs k r a b = λ j x w. at k x w a b j
  where
    at : (k a w : ℕ) → 1 ≤ k → k ≤ length rs → in_rows (set rs (k - 1) r) a w ≡ cond (eqb a k) (in_row r w) (in_rows rs a w)
    at zero a w ka kb = absurd (omega arith)
    at (suc k) zero w ka kb = sym (cond-false (eqb 0 (suc k)) (in_row r w) 0 (ne_eqb 0 (suc k) (omega arith)))
    at (suc k) (suc a) w ka kb =
        let q : suc k - 1 ≡ k = omega arith in
        ap (λ i. in_row (get_or (set rs i r) a blank) w) q
        ∙ elim (cases_eq a k) [
          | inl p ↦
              ap (λ i. in_row (get_or (set rs k r) i blank) w) p
              ∙ ap (λ (z : Row). in_row z w) (get_or-set_same rs k r blank (omega arith))
              ∙ sym (cond-true (eqb (suc a) (suc k)) _ _ (eq-eqb (suc a) (suc k) (ap suc p)))
          | inr d ↦
              ap (λ (z : Row). in_row z w) (get_or-set_other rs k a r blank d)
              ∙ sym (cond-false (eqb (suc a) (suc k)) _ _ (ne_eqb (suc a) (suc k) (λ x. d (omega arith))))
        ]

-- a row that is made from row k and put there
pub at_row : (T : Table) (F : (ℕ → ℕ) → ℕ → ℕ) (k : ℕ) →
    ◌≡◌ {A = Table} (λ a w. cond (eqb a k) (F (T k) w) (T a w)) (λ a w. cond (eqb a k) (F (T a) w) (T a w))
at_row T F k = λ j a w. at a w j
  where
    at : (a w : ℕ) → cond (eqb a k) (F (T k) w) (T a w) ≡ cond (eqb a k) (F (T a) w) (T a w)
    at a w =
        elim (cases_eq a k) [
          | inl p ↦ ap (λ i. cond (eqb a k) (F (T i) w) (T a w)) (sym p)
          | inr d ↦ cond-false (eqb a k) _ _ (ne_eqb a k d) ∙ sym (cond-false (eqb a k) _ _ (ne_eqb a k d))
        ]

-- a row that is raised
pub row_max : (ns os rs : List ℕ) → length ns ≡ 8 → length os ≡ 8 → length rs ≡ 8 →
    ((u : ℕ) → u < 8 → get_or rs u 0 ≡ max (get_or ns u 0) (get_or os u 0)) → (w : ℕ) → number_in rs w ≡ max (number_in ns w) (number_in os w)
row_max ns os rs a b c f zero = refl
row_max ns os rs a b c f (suc w) =
    elim (cases_lt w 8) [
      | inl l ↦ f w l
      | inr g ↦
          let p = get_or_past ns w 0 (omega arith) in
          let q = get_or_past os w 0 (omega arith) in
          let r = get_or_past rs w 0 (omega arith) in omega arith
    ]

-- a row of a table
pub row_is : (rs : List Row) (k : ℕ) (d : Row) → 1 ≤ k → k ≤ length rs → in_row (get_or rs (k - 1) d) ≡ in_rows rs k
row_is rs zero d a b = absurd (omega arith)
row_is rs (suc k) d a b =
    let q : suc k - 1 ≡ k = omega arith in
    ap (λ i. in_row (get_or rs i d)) q ∙ ap in_row (get_or_default rs k d blank (omega arith))
