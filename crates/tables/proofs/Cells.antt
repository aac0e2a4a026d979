-- The numbers of rows and tables: what one change leaves.
use Rattle.std.proofs.Common.{◌≡◌, ℕ, zero, suc, ◌+◌, ◌<◌, max, Bool, true, false, cond, eqb, ltb, List, replicate, length, get_or, set, Some, None, sym, refl, ap, ◌∙◌, inl, inr, arith, get_or-set_other, get_or-set_same}
use Rattle.std.proofs.lemmas.List.{get_or_past, get_or_default}
use Rattle.std.proofs.lemmas.Bool.{cases_eq, cases_lt, cases_order, lt-ltb, le-ltb, eq-eqb, ne_eqb, ltb-true, ltb-false, cond-true, cond-false}
use Rattle.rules.specs.Tables.{Table}
use Rattle.tables.specs.declared.table.Row.{Row}
use Rattle.tables.specs.declared.table.TimeTable.{TimeTable}
use Rattle.tables.specs.Numbers.{index_of, blank, number_in, in_row, in_rows, row_raised, rows_raised, number}

pub row_past : (ns : List ℕ) (u : ℕ) → length ns < u → number_in ns u ≡ 0
row_past ns zero h = refl
row_past ns (suc u) h = get_or_past ns u 0 (omega arith)

blank_past : (u : ℕ) → number_in blank.numbers u ≡ 0
blank_past zero = refl
blank_past (suc zero) = refl
blank_past (suc (suc zero)) = refl
blank_past (suc (suc (suc zero))) = refl
blank_past (suc (suc (suc (suc zero)))) = refl
blank_past (suc (suc (suc (suc (suc zero))))) = refl
blank_past (suc (suc (suc (suc (suc (suc zero)))))) = refl
blank_past (suc (suc (suc (suc (suc (suc (suc zero))))))) = refl
blank_past (suc (suc (suc (suc (suc (suc (suc (suc zero)))))))) = refl
blank_past (suc (suc (suc (suc (suc (suc (suc (suc (suc u))))))))) = row_past blank.numbers (suc (suc (suc (suc (suc (suc (suc (suc (suc u))))))))) (omega arith)

-- a row of no site
pub rows_past : (rs : List Row) (k u : ℕ) → length rs < k → in_rows rs k u ≡ 0
rows_past rs zero u h = refl
rows_past rs (suc k) u h = ap (λ (r : Row). number_in r.numbers u) (get_or_past rs k blank (omega arith)) ∙ blank_past u

-- the row of a site that has no index
pub rows_outside : (rs : List Row) (k : ℕ) → length rs ≡ 8 → None ≡ index_of k → (λ _. 0) ≡ in_rows rs k
rows_outside rs zero l e = refl
rows_outside rs (suc k) l e = by (ltb k 8) refl e
  where
    by : (b : Bool) → ltb k 8 ≡ b → None ≡ cond b (Some k) None → (λ _. 0) ≡ in_rows rs (suc k)
    by true q e = let z : ◌≡◌ {A = ℕ} 0 1 = cc in absurd (omega arith)
    by false q e = λ j u. sym (rows_past rs (suc k) u (omega (arith, ltb-false k 8 q))) j

-- rows of which each credits nothing
pub rows_blank : (r : Row) (n : ℕ) → in_row r ≡ (λ _. 0) → in_rows (replicate n r) ≡ (λ _ _. 0)
rows_blank r n e = λ j k u. row k u j
  where
    each : (n i u : ℕ) → in_row (get_or (replicate n r) i blank) u ≡ 0
    each zero i u = blank_past u
    each (suc n) zero u = λ j. e j u
    each (suc n) (suc i) u = each n i u

    row : (k u : ℕ) → in_rows (replicate n r) k u ≡ 0
    row zero u = refl
    row (suc k) u = each n k u

-- a site that has an index
pub index_is : (k i : ℕ) → Some i ≡ index_of k → (k ≡ suc i) × (i < 8)
index_is zero i e = let z : ◌≡◌ {A = ℕ} 0 1 = cc in absurd (omega arith)
index_is (suc k) i e = by (ltb k 8) refl e
  where
    by : (b : Bool) → ltb k 8 ≡ b → Some i ≡ cond b (Some k) None → (suc k ≡ suc i) × (i < 8)
    by true q e = let s : i ≡ k = cc in (ap suc (sym s), omega (arith, ltb-true k 8 q))
    by false q e = let z : ◌≡◌ {A = ℕ} 0 1 = cc in absurd (omega arith)

-- the table in which row i is another, by what was made of the row that stood there
pub row_changed : (rs : List Row) (k i : ℕ) (d r : Row) (F : (ℕ → ℕ) → ℕ → ℕ) → (k ≡ suc i) × (i < 8) → length rs ≡ 8 → in_row r ≡ F (in_row (get_or rs i d)) →
    in_rows (set rs i r) ≡ (λ a w. cond (eqb a k) (F (in_rows rs a) w) (in_rows rs a w))
row_changed rs k i d r F q long e = λ j a w. at a w j
  where
    at : (a w : ℕ) → in_rows (set rs i r) a w ≡ cond (eqb a k) (F (in_rows rs a) w) (in_rows rs a w)
    at zero w = sym (cond-false (eqb 0 k) _ _ (ne_eqb 0 k (λ z. omega arith)))
    at (suc a) w =
        elim (cases_eq a i) [
          | inl p ↦
              ap (λ n. in_row (get_or (set rs i r) n blank) w) p
              ∙ ap (λ (z : Row). in_row z w) (get_or-set_same rs i r blank (omega arith))
              ∙ (λ j. e j w)
              ∙ ap (λ (z : Row). F (in_row z) w) (get_or_default rs i d blank (omega arith))
              ∙ ap (λ n. F (in_row (get_or rs n blank)) w) (sym p)
              ∙ sym (cond-true (eqb (suc a) k) _ _ (eq-eqb (suc a) k (omega arith)))
          | inr n ↦
              ap (λ (z : Row). in_row z w) (get_or-set_other rs i a r blank n)
              ∙ sym (cond-false (eqb (suc a) k) _ _ (ne_eqb (suc a) k (λ x. n (omega arith))))
        ]

-- one row more
pub raised_more : (T S : Table) (k : ℕ) → row_raised (rows_raised T k S) k (S k) ≡ rows_raised T (k + 1) S
raised_more T S k = λ j a u. at a u j
  where
    at : (a u : ℕ) → row_raised (rows_raised T k S) k (S k) a u ≡ rows_raised T (k + 1) S a u
    at a u =
        elim (cases_order a k) [
          | inl e ↦
              cond-true (eqb a k) _ _ (eq-eqb a k e)
              ∙ ap (λ z. max z (S k u)) (cond-false (ltb a k) (max (T a u) (S a u)) (T a u) (le-ltb a k (omega arith)))
              ∙ ap (λ z. max (T a u) (S z u)) (sym e)
              ∙ sym (cond-true (ltb a (k + 1)) (max (T a u) (S a u)) (T a u) (lt-ltb a (k + 1) (omega arith)))
          | inr o ↦
              elim o [
                | inl l ↦
                    cond-false (eqb a k) _ _ (ne_eqb a k (λ e. omega arith))
                    ∙ cond-true (ltb a k) (max (T a u) (S a u)) (T a u) (lt-ltb a k l)
                    ∙ sym (cond-true (ltb a (k + 1)) (max (T a u) (S a u)) (T a u) (lt-ltb a (k + 1) (omega arith)))
                | inr l ↦
                    cond-false (eqb a k) _ _ (ne_eqb a k (λ e. omega arith))
                    ∙ cond-false (ltb a k) (max (T a u) (S a u)) (T a u) (le-ltb a k (omega arith))
                    ∙ sym (cond-false (ltb a (k + 1)) (max (T a u) (S a u)) (T a u) (le-ltb a (k + 1) (omega arith)))
              ]
        ]

-- all rows
pub raised_all : (t o : TimeTable) (k : ℕ) → k ≡ 9 → rows_raised (number t) k (number o) ≡ (λ a u. max (number t a u) (number o a u))
raised_all t o k e = λ j a u. at a u j
  where
    at : (a u : ℕ) → rows_raised (number t) k (number o) a u ≡ max (number t a u) (number o a u)
    at a u =
        elim (cases_lt a k) [
          | inl l ↦ cond-true (ltb a k) _ _ (lt-ltb a k l)
          | inr g ↦
              cond-false (ltb a k) (max (number t a u) (number o a u)) (number t a u) (le-ltb a k g)
              ∙ (let p = rows_past t.rows a u (omega (arith, t.long)) in
              let q = rows_past o.rows a u (omega (arith, o.long)) in omega arith)
        ]
