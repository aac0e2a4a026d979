-- Entries in plain rows. Every row keeps one: bytes that are no entry stand for the kind's sample.
-- Assumes nothing.
use Rattle.std.specs.Prelude.{ℕ, Bool, cond, List, [], map, Some, None, Option}
use Rattle.rules.specs.Records.{Entry}
use Rattle.kinds.specs.Formats.{Format, padded}
use Rattle.places.specs.Ranks.{possible}
use Rattle.places.specs.Values.{value_in}
use Rattle.calendars.specs.declared.row.Row.{Row}

abbrev pub site_of : Row → ℕ
site_of r = r.site

abbrev pub number_of : Row → ℕ
number_of r = r.number

-- a row of zeros
abbrev pub blank : Row
blank = record { site = 0; number = 0; bytes = [] }

-- the stamp can exist
abbrev pub sound : Row → Bool
sound r = possible r.site r.number

-- the entry that a row keeps
abbrev pub entry_in : {V : Type 0} → Format V → Row → Entry V
entry_in f r = (r.site, r.number, value_in f r.bytes)

-- the entries that rows keep
abbrev pub entries_in : {V : Type 0} → Format V → List Row → List (Entry V)
entries_in f rs = map (entry_in f) rs

-- the entry that a row keeps, if its stamp can exist
abbrev pub entry_read : {V : Type 0} → Format V → Row → Option (Entry V)
entry_read f r = cond (sound r) (Some (entry_in f r)) None

-- the row that keeps a value under u.n
abbrev pub row_of : {V : Type 0} → Format V → (u n : ℕ) → V → Row
row_of f u n v = record { site = u; number = n; bytes = padded (f.encoded v) }
