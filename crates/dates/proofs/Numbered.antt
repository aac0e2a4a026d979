-- Dates and the numbers of their days: each good date has one number, and the dates are counted without a gap.
use Rattle.std.proofs.Common.{◌≡◌, ℕ, zero, suc, ◌+◌, ◌-◌, ◌<◌, ◌≤◌, true, ltb, sym, refl, ap, ◌∙◌, subst, add-zero, arith, ltb-false, ltb-true}
use Rattle.std.proofs.lemmas.Bool.{cond_both}
use Rattle.std.proofs.lemmas.Bool.Decides.{nat_tests}
use Rattle.dates.specs.declared.date.Date.{Date}
use Rattle.dates.specs.Lengths.{days_of_month, months_before, days_of_year, years_before}
use Rattle.dates.specs.Days.{date, next_date, date_of_day, known, past, number}
use Rattle.dates.proofs.Sums.{total_below, one_place, months_more, years_more}

-- the year is not before 2000, and has the month and the day
pub record Good (t : Date) : Type 0 where
  pub year : 2000 ≤ t.year
  pub month : (1 ≤ t.month) × (t.month ≤ 12)
  pub day : (1 ≤ t.day) × (t.day ≤ days_of_month t.year t.month)

-- t is a good date, of day n
abbrev pub Numbered : Date → ℕ → Type 0
Numbered t n = Good t × (number t ≡ n)

pub some_days : (y m : ℕ) → 1 ≤ days_of_month y m
some_days y m = grind (arith, nat_tests)

next_day : (t : Date) (n : ℕ) → Numbered t n → t.day < days_of_month t.year t.month →
    Numbered (date t.year t.month (t.day + 1)) (suc n)
next_day t n h l =
    let g = h.0 in
    let d = g.day in
    let e = h.1 in
    let s : t.day + 1 - 1 ≡ suc (t.day - 1) = omega arith in (
      record { year = g.year; month = g.month; day = (omega arith, omega arith) },
      ap (λ k. years_before (t.year - 2000) + (months_before t.year (t.month - 1) + k)) s ∙ (omega arith),
    )

next_month : (t : Date) (n : ℕ) → Numbered t n → days_of_month t.year t.month ≤ t.day → t.month < 12 →
    Numbered (date t.year (t.month + 1) 1) (suc n)
next_month t n h l m =
    let g = h.0 in
    let d = g.day in
    let k = g.month in
    let e = h.1 in
    let p = months_more t.year t.month k.0 in
    let s : t.month + 1 - 1 ≡ t.month = omega arith in (
      record { year = g.year; month = (omega arith, omega arith); day = (omega arith, some_days t.year (t.month + 1)) },
      ap (λ j. years_before (t.year - 2000) + (months_before t.year j + 0)) s ∙ (omega arith),
    )

next_year : (t : Date) (n : ℕ) → Numbered t n → days_of_month t.year t.month ≤ t.day → 12 ≤ t.month →
    Numbered (date (t.year + 1) 1 1) (suc n)
next_year t n h l m =
    let g = h.0 in
    let d = g.day in
    let e = h.1 in
    let last : t.month ≡ 12 = omega (arith, g.month.1) in
    let p = years_more t.year g.year in
    let q = months_more t.year 12 (omega arith) in
    let k : months_before t.year (t.month - 1) + days_of_month t.year t.month ≡ months_before t.year 11 + days_of_month t.year 12 =
    ap (λ i. months_before t.year (i - 1) + days_of_month t.year i) last in (
      record { year = omega arith; month = (omega arith, omega arith); day = (omega arith, omega arith) },
      add-zero (years_before (t.year + 1 - 2000)) ∙ (omega (arith, p, q, k, e)),
    )

pub next_numbered : (t : Date) (n : ℕ) → Numbered t n → Numbered (next_date t) (suc n)
next_numbered t n h =
    cond_both (ltb t.day (days_of_month t.year t.month)) _ _ (λ u. Numbered u (suc n)) (λ e. next_day t n h (ltb-true _ _ e)) λ e.
    cond_both (ltb t.month 12) _ _ (λ u. Numbered u (suc n)) (λ k. next_month t n h (ltb-false _ _ e) (ltb-true _ _ k))
    (λ k. next_year t n h (ltb-false _ _ e) (ltb-false _ _ k))

pub numbered : (n : ℕ) → Numbered (date_of_day n) n
numbered zero = (record { year = omega arith; month = (omega arith, omega arith); day = (omega arith, omega arith) }, refl)
numbered (suc n) = next_numbered (date_of_day n) n (numbered n)

pub within_year : (t : Date) → Good t → past t < days_of_year t.year
within_year t g =
    let k = g.month in
    let s : t.month - 1 + 1 ≡ t.month = omega arith in
    let b = total_below (λ j. days_of_month t.year (j + 1)) (t.month - 1) 12 (omega arith) in
    let c = ap (days_of_month t.year) s in
    omega (arith, b, c, g.day)

pub same_number : (a b : Date) → Good a → Good b → number a ≡ number b → a ≡ b
same_number a b g h e =
    let ya : 2000 + (a.year - 2000) ≡ a.year = omega (arith, g.year) in
    let yb : 2000 + (b.year - 2000) ≡ b.year = omega (arith, h.year) in
    let p =
    one_place (λ j. days_of_year (2000 + j)) (a.year - 2000) (b.year - 2000) (past a) (past b)
    (subst (λ y. past a < days_of_year y) (sym ya) (within_year a g)) (subst (λ y. past b < days_of_year y) (sym yb) (within_year b h)) e in
    let y : a.year ≡ b.year = omega (arith, p.0, g.year, h.year) in
    let ma : a.month - 1 + 1 ≡ a.month = omega (arith, g.month) in
    let mb : b.month - 1 + 1 ≡ b.month = omega (arith, h.month) in
    let q =
    one_place (λ j. days_of_month a.year (j + 1)) (a.month - 1) (b.month - 1) (a.day - 1) (b.day - 1)
    (subst (λ m. a.day - 1 < days_of_month a.year m) (sym ma) (omega (arith, g.day)))
    (subst (λ m. b.day - 1 < days_of_month a.year m) (sym mb) (omega (arith, h.day, ap (λ z. days_of_month z b.month) y)))
    (p.1 ∙ ap (λ z. months_before z (b.month - 1) + (b.day - 1)) (sym y)) in
    let m : a.month ≡ b.month = omega (arith, q.0, g.month, h.month) in
    let d : a.day ≡ b.day = omega (arith, q.1, g.day.0, h.day.0) in
    λ i. date (y i) (m i) (d i)

-- the date of a number
pub date_is : (t : Date) (n : ℕ) → Numbered t n → t ≡ date_of_day n
date_is t n h = let k = numbered n in same_number t (date_of_day n) h.0 k.0 (h.1 ∙ sym k.1)

-- a date that is known is good, and its day's number is that of a known day
pub record Known (t : Date) : Type 0 where
  pub good : Good t
  pub most : t.year ≤ 2099

pub known_is : (t : Date) → known t ≡ true → Known t
known_is t e =
    record {
      good = record {
        year = grind (arith, nat_tests);
        month = (grind (arith, nat_tests), grind (arith, nat_tests));
        day = (grind (arith, nat_tests), grind (arith, nat_tests));
      };
      most = grind (arith, nat_tests);
    }

pub is_known : (t : Date) → Known t → known t ≡ true
is_known t k = grind (arith, nat_tests, k.good.year, k.good.month, k.good.day, k.most)

-- the last day of 2099
pub known_small : (t : Date) → Known t → number t ≤ 36524
known_small t k =
    let y : 2000 + (t.year - 2000) ≡ t.year = omega (arith, k.good.year) in
    let p = within_year t k.good in
    let q = total_below (λ j. days_of_year (2000 + j)) (t.year - 2000) 100 (omega (arith, k.most)) in
    let w : years_before 100 ≡ 36525 = refl in
    omega (arith, q, p, ap days_of_year y, w)

pub small_known : (n : ℕ) → n ≤ 36524 → Known (date_of_day n)
small_known n h =
    let k = numbered n in
    let w : years_before 99 + days_of_year 2099 ≡ 36525 = refl in
    record {
      good = k.0;
      most = grind (arith, total_below (λ j. days_of_year (2000 + j)) 99 ((date_of_day n).year - 2000), k.1, w, h);
    }
