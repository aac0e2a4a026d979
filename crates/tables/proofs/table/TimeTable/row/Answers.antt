use Rattle.std.proofs.Common.{◌∙◌, arith}
use Rattle.tables.proofs.Cells.{rows_outside}
use Rattle.tables.proofs.table.TimeTable.row.Goals as goal

pub returns-in-None : goal.returns-in-None
returns-in-None c = c.empty.ensures ∙ rows_outside c.args.self.now.rows c.args.k (omega arith) c.in-None.ensures
