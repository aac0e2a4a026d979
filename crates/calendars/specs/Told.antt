-- The code's entries, as the rules have them.
-- Assumes nothing.
use Rattle.std.specs.Prelude.{Some, None, Option}
use Rattle.rules.specs.Records as rules
use Rattle.calendars.specs.declared.entry.Entry.{Entry}

-- an answer that is an entry, or none
abbrev pub shown : {V : Type 0} → Option (Entry V) → Option (rules.Entry V)
shown None = None
shown (Some e) = Some (e.at.site, e.at.number, e.value)
