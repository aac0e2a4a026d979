-- A row and a table that are read number after number.
use Rattle.std.proofs.Common.{◌≡◌, ℕ, zero, suc, ◌+◌, ◌<◌, max, false, cond, ◌&&◌, eqb, ltb, leb, sym, refl, ap, ◌∙◌, inl, inr, arith}
use Rattle.std.proofs.lemmas.Bool.{cases_lt, cases_order, lt-ltb, le-ltb, lt-leb, eq-eqb, ne_eqb, cond-true, cond-false, and_left, and_right}
use Rattle.rules.specs.Stamps.{within}
use Rattle.rules.specs.Tables.{Table, restricted}
use Rattle.tables.specs.Numbers.{row_with, row_raised, rows_raised}
use Rattle.tables.proofs.Cells.{raised_more}

-- the numbers below u
abbrev pub row_front : (ℕ → ℕ) → ℕ → ℕ → ℕ
row_front r u = λ w. cond (ltb w u) (r w) 0

outside : (N a : ℕ) → N < a → within N a ≡ false
outside N a h = and_right (leb 1 a) (leb a N) (lt-leb a N h)

module _ (N : ℕ) (T : Table) where
  above_row : (a u : ℕ) → N < a → restricted N T a u ≡ 0
  above_row a u h = cond-false (within N a && within N u) (T a u) 0 (and_left (within N a) (within N u) (outside N a h))

  above_column : (a u : ℕ) → N < u → restricted N T a u ≡ 0
  above_column a u h = cond-false (within N a && within N u) (T a u) 0 (and_right (within N a) (within N u) (outside N u h))

  no_row : (u : ℕ) → restricted N T 0 u ≡ 0
  no_row u = refl

  no_column : (a : ℕ) → restricted N T a 0 ≡ 0
  no_column a = cond-false (within N a && within N 0) (T a 0) 0 (and_right (within N a) (within N 0) refl)

  -- a row
  pub row_begins : (a : ℕ) → (λ _. 0) ≡ row_front (restricted N T a) 1
  row_begins a = λ j w. at w j
    where
      at : (w : ℕ) → 0 ≡ row_front (restricted N T a) 1 w
      at zero = sym (cond-true (ltb 0 1) (restricted N T a 0) 0 refl ∙ no_column a)
      at (suc w) = sym (cond-false (ltb (suc w) 1) (restricted N T a (suc w)) 0 (le-ltb (suc w) 1 (omega arith)))

  pub row_ends : (a u : ℕ) → N < u → row_front (restricted N T a) u ≡ restricted N T a
  row_ends a u h = λ j w. at w j
    where
      at : (w : ℕ) → row_front (restricted N T a) u w ≡ restricted N T a w
      at w =
          elim (cases_lt w u) [
            | inl l ↦ cond-true (ltb w u) (restricted N T a w) 0 (lt-ltb w u l)
            | inr g ↦ cond-false (ltb w u) (restricted N T a w) 0 (le-ltb w u g) ∙ sym (above_column a w (omega arith))
          ]

  -- a table
  pub table_begins : ◌≡◌ {A = Table} (λ _ _. 0) (rows_raised (λ _ _. 0) 1 (restricted N T))
  table_begins = λ j a u. at a u j
    where
      at : (a u : ℕ) → 0 ≡ rows_raised (λ _ _. 0) 1 (restricted N T) a u
      at zero u = refl
      at (suc a) u = sym (cond-false (ltb (suc a) 1) (max 0 (restricted N T (suc a) u)) 0 (le-ltb (suc a) 1 (omega arith)))

  pub table_ends : (k : ℕ) → N < k → rows_raised (λ _ _. 0) k (restricted N T) ≡ restricted N T
  table_ends k h = λ j a u. at a u j
    where
      at : (a u : ℕ) → rows_raised (λ _ _. 0) k (restricted N T) a u ≡ restricted N T a u
      at a u =
          elim (cases_lt a k) [
            | inl l ↦
                cond-true (ltb a k) (max 0 (restricted N T a u)) 0 (lt-ltb a k l)
                ∙ (let x : ℕ = restricted N T a u in let e : max 0 x ≡ x = omega arith in e)
            | inr g ↦
                cond-false (ltb a k) (max 0 (restricted N T a u)) 0 (le-ltb a k g) ∙ sym (above_row a u (omega arith))
          ]

-- one number more
pub row_more : (r : ℕ → ℕ) (u : ℕ) → row_with (row_front r u) u (r u) ≡ row_front r (u + 1)
row_more r u = λ j w. at w j
  where
    at : (w : ℕ) → row_with (row_front r u) u (r u) w ≡ row_front r (u + 1) w
    at w =
        elim (cases_order w u) [
          | inl e ↦
              cond-true (eqb w u) (r u) _ (eq-eqb w u e)
              ∙ ap r (sym e)
              ∙ sym (cond-true (ltb w (u + 1)) (r w) 0 (lt-ltb w (u + 1) (omega arith)))
          | inr o ↦
              cond-false (eqb w u) (r u) _ (ne_eqb w u (λ e. elim o [ inl l ↦ omega arith | inr l ↦ omega arith ]))
              ∙ elim o [
                | inl l ↦
                    cond-true (ltb w u) (r w) 0 (lt-ltb w u l)
                    ∙ sym (cond-true (ltb w (u + 1)) (r w) 0 (lt-ltb w (u + 1) (omega arith)))
                | inr l ↦
                    cond-false (ltb w u) (r w) 0 (le-ltb w u (omega arith))
                    ∙ sym (cond-false (ltb w (u + 1)) (r w) 0 (le-ltb w (u + 1) (omega arith)))
              ]
        ]

pub row_step : (f g r : ℕ → ℕ) (u n : ℕ) → f ≡ row_front r u → n ≡ r u → g ≡ row_with f u n → g ≡ row_front r (u + 1)
row_step f g r u n front number set = set ∙ (λ j. row_with (front j) u (number j)) ∙ row_more r u

-- one row more
pub table_step : (S S' T : Table) (k : ℕ) (r : ℕ → ℕ) → S ≡ rows_raised (λ _ _. 0) k T → r ≡ T k → S' ≡ row_raised S k r → S' ≡ rows_raised (λ _ _. 0) (k + 1) T
table_step S S' T k r front row raised = raised ∙ (λ j. row_raised (front j) k (row j)) ∙ raised_more (λ _ _. 0) T k
