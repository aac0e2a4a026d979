use Rattle.std.proofs.Common.{◌∙◌}
use Rattle.tables.proofs.table.TimeTable.number.Goals as goal

pub returns : goal.returns
returns c = c.number.ensures ∙ (λ j. c.row.ensures j c.args.u)
