use Rattle.std.proofs.Common.{◌+◌, ◌∙◌, arith}
use Rattle.rules.specs.Numbers.{at32}
use Rattle.rules.specs.Sheets.{place_of}
use Rattle.sheets.specs.Front.{front_table}
use Rattle.sheets.proofs.Fronts.{table_begins, table_step, table_ends}
use Rattle.sheets.proofs.front.Front.table.Goals as goal

pub loop-k-init : goal.loop-k-init
loop-k-init c =
    let N = c.args.self.now.seat.sites in
    c.empty-table.ensures ∙ table_begins N (λ k u. at32 c.args.self.now.bytes.now (place_of N k u))

pub loop-k-preserved : goal.loop-k-preserved
loop-k-preserved c =
    table_step _ _ (front_table c.args.self.now) c.loop-k.k _ c.loop-k.invariant c.row.ensures
    (c.raise_row.ensures.inside (omega arith, omega (arith, c.args.self.now.seat.group)))

pub returns-2 : goal.returns-2
returns-2 c =
    let N = c.args.self.now.seat.sites in
    table_step _ _ (front_table c.args.self.now) c.loop-k.k _ c.loop-k.invariant c.row.ensures
    (c.raise_row.ensures.inside (omega arith, omega (arith, c.args.self.now.seat.group)))
    ∙ table_ends N (λ k u. at32 c.args.self.now.bytes.now (place_of N k u)) (c.loop-k.k + 1) (omega arith)
