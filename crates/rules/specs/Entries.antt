-- The calendar: entries under the stamps of their bookings, in stamp order, and how many there may be.
-- Assumes nothing.
use Rattle.std.specs.Prelude.{ℕ, min, Bool, false, ◌||◌, List, [], ◌∷◌, length, Result, nat_le}
use Rattle.rules.specs.Results.{require}
use Rattle.rules.specs.Refusals.{Refusal, calendar_full}
use Rattle.rules.specs.Stamps.{Stamped, same, insert, without}

-- how many entries a calendar over so many places can hold
abbrev pub room : ℕ → ℕ
room places = min places 4096

module _ {A : Type 0} where
  -- x joins, in place of what stands under its stamp
  abbrev pub join : Stamped A → List (Stamped A) → List (Stamped A)
  join x xs = insert x (without x.0 x.1 xs)

  -- the entry under u.n leaves
  abbrev pub leave : (u n : ℕ) → List (Stamped A) → List (Stamped A)
  leave u n xs = without u n xs

  -- an entry stands under u.n
  abbrev pub holds : (u n : ℕ) → List (Stamped A) → Bool
  holds u n [] = false
  holds u n (x ∷ xs) = same u n x.0 x.1 || holds u n xs

  -- there are at most D entries: else 22 with how many there are
  abbrev pub entries_within : ℕ → List (Stamped A) → Result (Unit {0}) Refusal
  entries_within D xs = require (nat_le (length xs) D) (calendar_full (length xs))
