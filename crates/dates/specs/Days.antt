-- Days by number and by date: day 0 is 1 January 2000, and each day is followed by the next date.
-- Assumes nothing.
use Rattle.std.specs.Prelude.{◌≡◌, ℕ, zero, suc, ◌+◌, ◌-◌, ◌/◌, ◌%◌, ◌≤◌, Bool, cond, ◌&&◌, List, ◌∷◌, ◌++◌, Some, None, decimal, Option, ◌≢◌, nat_le, nat_lt}
use Rattle.dates.specs.declared.date.Date.{Date}
use Rattle.dates.specs.Lengths.{days_of_month, months_before, years_before}

abbrev pub date : (y m d : ℕ) → Date
date y m d = record { year = y; month = m; day = d }

-- the date of the next day
abbrev pub next_date : Date → Date
next_date t =
    cond (nat_lt t.day (days_of_month t.year t.month)) (date t.year t.month (t.day + 1))
    (cond (nat_lt t.month 12) (date t.year (t.month + 1) 1) (date (t.year + 1) 1 1))

-- the date of day n
abbrev pub date_of_day : ℕ → Date
date_of_day zero = date 2000 1 1
date_of_day (suc n) = next_date (date_of_day n)

-- there is such a date, and its year is from 2000 to 2099
abbrev pub known : Date → Bool
known t =
    nat_le 2000 t.year
    && (nat_le t.year 2099
    && (nat_le 1 t.month && (nat_le t.month 12 && (nat_le 1 t.day && nat_le t.day (days_of_month t.year t.month)))))

-- the last day that a calendar knows, 31 December 2099
abbrev pub last_day : ℕ
last_day = 36524

-- how many days of its year are past at a date, and how many days have passed since day 0
abbrev pub past : Date → ℕ
past t = months_before t.year (t.month - 1) + (t.day - 1)

abbrev pub number : Date → ℕ
number t = years_before (t.year - 2000) + past t

-- the day with this date, if a calendar knows it
abbrev pub day_at : Date → Option ℕ
day_at t = cond (known t) (Some (number t)) None

-- that is: the day whose date it is, and none only where no known day has that date
abbrev pub DayOf : Date → Option ℕ → Type 0
DayOf t (Some n) = (n ≤ last_day) × (date_of_day n ≡ t)
DayOf t None = (n : ℕ) → n ≤ last_day → date_of_day n ≢ t

-- a number below 100 in two digits
abbrev pub two_digits : ℕ → List ℕ
two_digits n = decimal (n / 10) ++ decimal (n % 10)

-- a date in text, as 2024-08-22
abbrev pub date_text : Date → List ℕ
date_text t = decimal t.year ++ (45 ∷ (two_digits t.month ++ (45 ∷ two_digits t.day)))
