use Rattle.tables.proofs.Cells.{rows_blank}
use Rattle.tables.proofs.table.TimeTable.empty.Goals as goal

pub returns : goal.returns
returns c = rows_blank c.empty.result 8 c.empty.ensures
