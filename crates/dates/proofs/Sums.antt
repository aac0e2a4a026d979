-- Running totals: a step, and that a place in one of the parts has one part and one place in it.
use Rattle.std.proofs.Common.{◌≡◌, ℕ, zero, suc, ◌+◌, ◌-◌, ◌<◌, ◌≤◌, map, ◌*◌, sym, add_comm, refl, ap, ◌∙◌, add-one, arith}
use Rattle.std.proofs.lemmas.Bool.Decides.{nat_tests}
use Rattle.std.proofs.lemmas.List.FromFn.{sum_by-map-range_with_len_more}
use Rattle.std.specs.List.{sum, range_with_len}
use Rattle.dates.specs.Lengths.{days_of_month, total, months_before, days_of_year, years_before}

module _ (f : ℕ → ℕ) where
  pub total_at : (a b : ℕ) → b ≡ a + 1 → total f b ≡ total f a + f a
  total_at a b e = rw (e, add-one)

  -- a part ends before a later one begins
  pub total_below : (i j : ℕ) → i < j → total f i + f i ≤ total f j
  total_below i zero h = absurd (omega arith)
  total_below i (suc j) h = grind (arith, total_below i j)

  pub one_part : (i j r s : ℕ) → r < f i → s < f j → total f i + r ≡ total f j + s → i ≡ j
  one_part i j r s a b e = grind (arith, total_below i j, total_below j i)

  pub one_place : (i j r s : ℕ) → r < f i → s < f j → total f i + r ≡ total f j + s → (i ≡ j) × (r ≡ s)
  one_place i j r s a b e = let p = one_part i j r s a b e in let q = ap (total f) p in (p, omega arith)

pub months_more : (y m : ℕ) → 1 ≤ m → months_before y m ≡ months_before y (m - 1) + days_of_month y m
months_more y m h =
    let p : m ≡ m - 1 + 1 = omega arith in
    let q : m - 1 + 1 ≡ m = omega arith in
    total_at (λ k. days_of_month y (k + 1)) (m - 1) m p ∙ ap (λ k. months_before y (m - 1) + days_of_month y k) q

pub years_more : (y : ℕ) → 2000 ≤ y → years_before (y + 1 - 2000) ≡ years_before (y - 2000) + days_of_year y
years_more y h =
    let p : y + 1 - 2000 ≡ y - 2000 + 1 = omega arith in
    let q : 2000 + (y - 2000) ≡ y = omega arith in
    total_at (λ j. days_of_year (2000 + j)) (y - 2000) (y + 1 - 2000) p ∙ ap (λ k. years_before (y - 2000) + days_of_year k) q

-- a running total is the sum over a range
pub total_sum : (f : ℕ → ℕ) (a k : ℕ) → sum (map f (range_with_len a k)) ≡ total (λ j. f (a + j)) k
total_sum f a zero = refl
total_sum f a (suc k) =
    ap (λ n. sum (map f (range_with_len a n))) (sym (add-one k))
    ∙ sum_by-map-range_with_len_more (λ x. x) f a k (a + k) refl
    ∙ ap (λ n. n + f (a + k)) (total_sum f a k)

pub total_within : (f : ℕ → ℕ) (b k : ℕ) → ((j : ℕ) → f j ≤ b) → total f k ≤ k * b
total_within f b zero h = omega arith
total_within f b (suc k) h = let i = total_within f b k h in let j = h k in omega arith

pub months_sum : (y k : ℕ) → sum (map (days_of_month y) (range_with_len 1 k)) ≡ months_before y k
months_sum y k = total_sum (days_of_month y) 1 k ∙ (λ i. total (λ j. days_of_month y (add_comm 1 j i)) k)

pub years_sum : (k : ℕ) → sum (map days_of_year (range_with_len 2000 k)) ≡ years_before k
years_sum k = total_sum days_of_year 2000 k

pub most_days : (y m : ℕ) → days_of_month y m ≤ 31
most_days y m = grind (arith, nat_tests)

pub months_within : (y k : ℕ) → months_before y k ≤ k * 31
months_within y k = total_within (λ j. days_of_month y (j + 1)) 31 k (λ j. most_days y (j + 1))

pub years_within : (k : ℕ) → years_before k ≤ k * 366
years_within k = total_within (λ j. days_of_year (2000 + j)) 366 k (λ j. year_within (2000 + j))
  where
    year_within : (y : ℕ) → days_of_year y ≤ 366
    year_within y = grind (arith, nat_tests)
