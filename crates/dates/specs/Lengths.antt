-- How long the months and years are.
-- Assumes nothing.
use Rattle.std.specs.Prelude.{ℕ, zero, suc, ◌+◌, ◌%◌, Bool, cond, not, ◌&&◌, ◌||◌, ◌==◌}

-- a year with a 29 February
abbrev pub leap : ℕ → Bool
leap y = y % 4 == 0 && (not (y % 100 == 0) || y % 400 == 0)

-- how many days month m of year y has
abbrev pub days_of_month : (y m : ℕ) → ℕ
days_of_month y m =
    cond (m == 2) (cond (leap y) 29 28) (cond (m == 4 || (m == 6 || (m == 9 || m == 11))) 30 31)

-- f 0 and so on, the first k of them, in all
abbrev pub total : (ℕ → ℕ) → ℕ → ℕ
total f zero = 0
total f (suc k) = total f k + f k

-- how many days the months of year y before month m + 1 have
abbrev pub months_before : (y m : ℕ) → ℕ
months_before y m = total (λ k. days_of_month y (k + 1)) m

abbrev pub days_of_year : ℕ → ℕ
days_of_year y = months_before y 12

-- how many days the k years from 2000 on have
abbrev pub years_before : ℕ → ℕ
years_before k = total (λ j. days_of_year (2000 + j)) k
