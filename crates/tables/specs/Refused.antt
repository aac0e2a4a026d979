-- The refusal of a seat, as the rules have it, and in words.
-- Assumes nothing.
use Rattle.std.specs.Prelude.{ℕ, List, codes}
use Rattle.rules.specs.Refusals.{Refusal, bad_site}
use Rattle.refusals.specs.Shown.{ground_text}
use Rattle.tables.specs.declared.refusal.SeatRefusal.{SeatRefusal}
use Rattle.tables.specs.declared.refusal.SeatRefusal.TheVariants.{Sites, Own}

-- 1, which carries 0 for the group's size and 1 for the site
abbrev pub refusal_of : SeatRefusal → Refusal
refusal_of Sites = bad_site 0
refusal_of Own = bad_site 1

abbrev pub words_of : SeatRefusal → List ℕ
words_of Sites = codes "a group has 2 to 8 sites"
words_of Own = codes "the site is not one of the group's"

abbrev pub seat_refusal_text : SeatRefusal → List ℕ
seat_refusal_text x = ground_text (refusal_of x) (words_of x)
