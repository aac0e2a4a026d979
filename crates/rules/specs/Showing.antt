-- Showing: the questions to a site. They change nothing.
-- Assumes nothing.
use Rattle.std.specs.Prelude.{ℕ, length, Option}
use Rattle.rules.specs.Stamps.{least, after}
use Rattle.rules.specs.Records.{Record, Entry}
use Rattle.rules.specs.Stores.{count_of}
use Rattle.rules.specs.Tables.{restricted}
use Rattle.rules.specs.Sites.{Setting, State}

module _ {E : Type 0} (S : Setting E) (s : State E) where
  -- the table's number for site k and origin u, and 0 outside the group
  abbrev pub shown : (k u : ℕ) → ℕ
  shown k u = restricted S.sites s.table k u

module _ {E : Type 0} (s : State E) where
  -- the first record of the log, or none
  abbrev pub first_record : Option (Record E)
  first_record = least s.log

  -- the log's record after the stamp u.n, which it need not hold, or none
  abbrev pub record_after : (u n : ℕ) → Option (Record E)
  record_after u n = after u n s.log

  -- how many records the log has
  abbrev pub record_count : ℕ
  record_count = length s.log

  -- how many of them are of origin u
  abbrev pub record_count_of : ℕ → ℕ
  record_count_of u = count_of u s.log

  -- the first entry of the calendar, or none
  abbrev pub first_entry : Option (Entry E)
  first_entry = least s.entries

  -- the calendar's entry after the stamp u.n, which it need not hold, or none
  abbrev pub entry_after : (u n : ℕ) → Option (Entry E)
  entry_after u n = after u n s.entries

  -- how many entries the calendar has
  abbrev pub entry_count : ℕ
  entry_count = length s.entries
