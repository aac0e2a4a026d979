use Rattle.std.proofs.Common.{◌∙◌, arith}
use Rattle.tables.specs.Numbers.{number, row_raised}
use Rattle.tables.proofs.Cells.{raised_more, raised_all}
use Rattle.tables.proofs.table.TimeTable.merge.Goals as goal

pub loop-k-preserved : goal.loop-k-preserved
loop-k-preserved c =
    let k = c.loop-k.k in
    c.raise_row.ensures.inside (omega arith, omega arith)
    ∙ (λ j. row_raised (c.loop-k.invariant j) k (c.row.ensures j))
    ∙ raised_more (number c.args.self.now) (number c.args.other.now) k

pub returns : goal.returns
returns c =
    c.raise_row-2.ensures.inside (omega (arith, c.args.seat.member, c.args.seat.group))
    ∙ (λ j.
    row_raised ((c.loop-k.invariant ∙ raised_all c.args.self.now c.args.other.now c.loop-k.k (omega arith)) j) c.args.seat.own
    (c.row-2.ensures j))
