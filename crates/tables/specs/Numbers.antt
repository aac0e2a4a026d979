-- The numbers of rows and tables, by site and origin from 1 on, and 0 outside.
-- Assumes nothing.
use Rattle.std.specs.Prelude.{ℕ, zero, suc, max, cond, List, [], ◌∷◌, Some, None, Option, ◌==◌, nat_lt, slice_index, slice_index_or, refl}
use Rattle.rules.specs.Tables.{Table}
use Rattle.tables.specs.declared.table.Row.{Row}
use Rattle.tables.specs.declared.table.TimeTable.{TimeTable}

-- the index of a site in an array of eight, and none outside
abbrev pub index_of : ℕ → Option ℕ
index_of zero = None
index_of (suc k) = cond (nat_lt k 8) (Some k) None

-- the row of a site that is credited with nothing
abbrev pub blank : Row
blank = record { numbers = 0 ∷ 0 ∷ 0 ∷ 0 ∷ 0 ∷ 0 ∷ 0 ∷ 0 ∷ []; long = refl }

-- the number for an origin
abbrev pub number_in : List ℕ → ℕ → ℕ
number_in ns zero = 0
number_in ns (suc u) = slice_index ns u

abbrev pub in_row : Row → ℕ → ℕ
in_row r = number_in r.numbers

-- the number for a site and an origin
abbrev pub in_rows : List Row → Table
in_rows rs zero u = 0
in_rows rs (suc k) u = in_row (slice_index_or rs k blank) u

abbrev pub number : TimeTable → Table
number t = in_rows t.rows

-- the row with the number for u set to n
abbrev pub row_with : (ℕ → ℕ) → (u n : ℕ) → ℕ → ℕ
row_with r u n = λ w. cond (w == u) n (r w)

-- the larger numbers of two rows
abbrev pub larger : (ℕ → ℕ) → (ℕ → ℕ) → ℕ → ℕ
larger r s = λ u. max (r u) (s u)

-- the table with row k raised to a row
abbrev pub row_raised : Table → ℕ → (ℕ → ℕ) → Table
row_raised T k r = λ a u. cond (a == k) (max (T a u) (r u)) (T a u)

-- the table with the rows below k raised to another's
abbrev pub rows_raised : Table → ℕ → Table → Table
rows_raised T k S = λ a u. cond (nat_lt a k) (max (T a u) (S a u)) (T a u)
