use Rattle.std.proofs.Common.{arith}
use Rattle.tables.specs.Numbers.{in_row, larger}
use Rattle.tables.proofs.Cells.{index_is, row_changed}
use Rattle.tables.proofs.table.TimeTable.raise_row.Goals as goal

pub returns-in-Some-clause-inside : goal.returns-in-Some-clause-inside
returns-in-Some-clause-inside c = λ _.
    row_changed c.args.self.now.rows c.args.k c.in-Some.index _ c.raise.new.self (λ r. larger r (in_row c.args.other.now))
    (index_is _ _ c.in-Some.ensures) (omega arith) c.raise.ensures
