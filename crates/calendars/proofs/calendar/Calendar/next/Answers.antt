use Rattle.std.proofs.Common.{◌≡◌, true, drop, sym, ap, ◌∙◌, subst}
use Rattle.std.specs.List.{list_all}
use Rattle.rules.specs.Stamps.{least}
use Rattle.places.specs.declared.key.Key.{Key}
use Rattle.places.specs.Ranks.{rank}
use Rattle.places.specs.Used.{in_use}
use Rattle.places.proofs.Tests.{all_drop}
use Rattle.places.proofs.Looked.{after_map}
use Rattle.calendars.specs.Rows.{site_of, number_of, sound, entry_in, entries_in}
use Rattle.calendars.proofs.calendar.Calendar.next.Goals as goal

pub first_of-requires : goal.first_of-requires
first_of-requires g c =
    let s = c.args.self.now in
    let rs = in_use s.rows in
    subst (λ zs. list_all sound zs ≡ true) (sym c.rows_from.ensures)
    (all_drop sound (rank site_of number_of c.above.result.site c.above.result.number rs) rs s.stamped)

pub returns : goal.returns
returns g c =
    let rs = in_use c.args.self.now.rows in
    let f = g.V.Kind.format in
    c.first_of.ensures
    ∙ ap (λ zs. least (entries_in f zs)) c.rows_from.ensures
    ∙ ap (λ (k : Key). least (entries_in f (drop (rank site_of number_of k.site k.number rs) rs))) c.above.ensures
    ∙ after_map (entry_in f) c.args.at.site c.args.at.number rs
