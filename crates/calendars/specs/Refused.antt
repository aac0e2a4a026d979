-- The refusals of a calendar, as the rules have them, and in words.
-- Assumes nothing.
use Rattle.std.specs.Prelude.{ℕ, List, codes, Result}
use Rattle.rules.specs.Refusals.{Refusal, calendar_full, no_entry}
use Rattle.rules.specs.Results.{refused_as}
use Rattle.refusals.specs.Shown.{ground_text}
use Rattle.calendars.specs.declared.refusal.CalendarRefusal.{CalendarRefusal}
use Rattle.calendars.specs.declared.refusal.CalendarRefusal.TheVariants.{Full, NoEntry}

-- 22 with how many entries there would be, 23 with the number of the stamp
abbrev pub refusal_of : CalendarRefusal → Refusal
refusal_of (Full n) = calendar_full n
refusal_of (NoEntry n) = no_entry n

-- an answer, as the rules have it
abbrev pub answered : Result (Unit {0}) CalendarRefusal → Result (Unit {0}) Refusal
answered r = refused_as refusal_of r

abbrev pub words_of : CalendarRefusal → List ℕ
words_of (Full n) = codes "the calendar has no room"
words_of (NoEntry n) = codes "no entry that can be struck has the stamp"

abbrev pub calendar_refusal_text : CalendarRefusal → List ℕ
calendar_refusal_text x = ground_text (refusal_of x) (words_of x)
