use Rattle.std.proofs.Common.{◌≡◌, true, sym, ap, ◌∙◌, subst}
use Rattle.std.specs.List.{list_all}
use Rattle.places.specs.declared.key.Key.{Key}
use Rattle.places.specs.Edits.{without}
use Rattle.places.specs.Used.{in_use}
use Rattle.calendars.specs.Rows.{site_of, number_of, sound, entries_in}
use Rattle.places.proofs.Edited.{all_without}
use Rattle.calendars.proofs.Rowed.{left_over}
use Rattle.calendars.proofs.calendar.Calendar.leave.Goals as goal

pub invariant_of-self : goal.invariant_of-self
invariant_of-self g c =
    let s = c.args.self.now in
    let key = c.from.result in
    record { stamped = subst (λ zs. list_all sound zs ≡ true) (sym c.remove.ensures.used) (all_without site_of number_of sound (in_use s.rows) s.stamped key.site key.number) }

pub returns-clause-entries : goal.returns-clause-entries
returns-clause-entries g c =
    let s = c.args.self.now in
    let f = g.V.Kind.format in
    let rs = in_use s.rows in
    ap (entries_in f) c.remove.ensures.used
    ∙ ap (λ (k : Key). entries_in f (without site_of number_of k.site k.number rs)) c.from.ensures
    ∙ left_over f rs s.rows.ascending c.args.at.site c.args.at.number
