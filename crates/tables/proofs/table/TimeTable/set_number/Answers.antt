use Rattle.std.proofs.Common.{arith}
use Rattle.tables.specs.Numbers.{row_with}
use Rattle.tables.proofs.Cells.{index_is, row_changed}
use Rattle.tables.proofs.table.TimeTable.set_number.Goals as goal

pub returns-in-Some-clause-inside : goal.returns-in-Some-clause-inside
returns-in-Some-clause-inside c = λ _ h.
    row_changed c.args.self.now.rows c.args.k c.in-Some.index _ c.set_number.new.self (λ r. row_with r c.args.u c.args.n)
    (index_is _ _ c.in-Some.ensures) (omega arith) (c.set_number.ensures.inside h)
