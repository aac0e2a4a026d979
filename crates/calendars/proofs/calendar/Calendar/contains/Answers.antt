use Rattle.std.proofs.Common.{ap, ◌∙◌}
use Rattle.places.specs.declared.key.Key.{Key}
use Rattle.places.specs.Edits.{has}
use Rattle.places.specs.Used.{in_use}
use Rattle.calendars.specs.Rows.{site_of, number_of}
use Rattle.calendars.proofs.Rowed.{holds_there}
use Rattle.calendars.proofs.calendar.Calendar.contains.Goals as goal

pub returns : goal.returns
returns g c =
    let s = c.args.self.now in
    let rs = in_use s.rows in
    let at = c.args.at in
    c.contains.ensures ∙ ap (λ (k : Key). has site_of number_of k.site k.number rs) c.from.ensures
    ∙ holds_there g.V.Kind.format rs s.rows.ascending at.site at.number
