-- What a calendar's rows hold after a call.
-- Assumes nothing.
use Rattle.std.specs.Prelude.{ℕ, List, Ok, Err, Result}
use Rattle.kinds.specs.Formats.{Format}
use Rattle.places.specs.declared.rows.Rows.{Rows}
use Rattle.places.specs.Edits.{memory_put, memory_without}
use Rattle.calendars.specs.declared.row.Row.{Row}
use Rattle.calendars.specs.declared.refusal.CalendarRefusal.{CalendarRefusal}
use Rattle.calendars.specs.Rows.{site_of, number_of, row_of}

-- joining: the entry's row over the one of its stamp, or else at its place; or all as it was
abbrev pub rows_joined : {V : Type 0} {most : _} {stamped : _} → Format V → (u n : ℕ) → V → Result (Unit {0}) CalendarRefusal → Rows Row most stamped → List Row
rows_joined f u n v (Err x) m = m.rows.now
rows_joined f u n v (Ok t) m = memory_put site_of number_of m.len (row_of f u n v) m.rows.now

-- leaving: the row of that stamp stands behind those that stay
abbrev pub rows_left : {most : _} {stamped : _} → (u n : ℕ) → Rows Row most stamped → List Row
rows_left u n m = memory_without site_of number_of m.len u n m.rows.now
