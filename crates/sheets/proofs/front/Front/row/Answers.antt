use Rattle.std.proofs.Common.{◌+◌, ◌∙◌, arith}
use Rattle.rules.specs.Numbers.{at32}
use Rattle.rules.specs.Sheets.{place_of}
use Rattle.sheets.specs.Front.{front_table}
use Rattle.sheets.proofs.Fronts.{row_begins, row_step, row_ends}
use Rattle.sheets.proofs.front.Front.row.Goals as goal

pub loop-u-init : goal.loop-u-init
loop-u-init c =
    let N = c.args.self.now.seat.sites in
    c.empty-row.ensures ∙ row_begins N (λ k u. at32 c.args.self.now.bytes.now (place_of N k u)) c.args.k

pub loop-u-preserved : goal.loop-u-preserved
loop-u-preserved c =
    row_step _ _ (front_table c.args.self.now c.args.k) c.loop-u.u _ c.loop-u.invariant c.number.ensures
    (c.set_number.ensures.inside (omega arith, omega (arith, c.args.self.now.seat.group)))

pub returns-2 : goal.returns-2
returns-2 c =
    let N = c.args.self.now.seat.sites in
    row_step _ _ (front_table c.args.self.now c.args.k) c.loop-u.u _ c.loop-u.invariant c.number.ensures
    (c.set_number.ensures.inside (omega arith, omega (arith, c.args.self.now.seat.group)))
    ∙ row_ends N (λ k u. at32 c.args.self.now.bytes.now (place_of N k u)) c.args.k (c.loop-u.u + 1) (omega arith)
