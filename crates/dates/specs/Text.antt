-- The text form of a date: year, month and day in decimal digits, with a hyphen between them.
-- Assumes nothing.
use Rattle.std.specs.Prelude.{ℕ, cond, List, Some, None, Option, nat_lt}
use Rattle.text.specs.Decimals.{decimal_of, capped}
use Rattle.text.specs.Splits.{split_at}
use Rattle.dates.specs.declared.date.Date.{Date}
use Rattle.dates.specs.Days.{date}

-- y at what o holds, if it holds something
abbrev pub with_some : {A B : Type 0} → Option A → (A → Option B) → Option B
with_some None y = None
with_some (Some a) y = y a

-- a number that fits a byte
abbrev pub in_byte : ℕ → Option ℕ
in_byte n = cond (nat_lt n 256) (Some n) None

-- year, month and day; none for another form, or for a month or a day that no byte holds
abbrev pub date_read : List ℕ → Option Date
date_read bs =
    with_some (split_at 45 bs) λ p.
    with_some (split_at 45 p.1) λ q.
    with_some (capped (decimal_of p.0)) λ y.
    with_some (capped (decimal_of q.0)) λ m.
    with_some (in_byte m) λ month.
    with_some (capped (decimal_of q.1)) λ d.
    with_some (in_byte d) λ day.
    Some (date y month day)
