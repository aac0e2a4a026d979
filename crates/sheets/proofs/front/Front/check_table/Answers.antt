use Rattle.std.proofs.Common.{◌≡◌, Err, sym, ◌∙◌, rules, tests, arith}
use Rattle.std.proofs.lemmas.Result.{err_from_is_err_and}
use Rattle.std.specs.Result.{result_from_control_flow, IsErr, IsErrAnd}
use Rattle.rules.specs.Sheets.{place_of}
use Rattle.rules.specs.Reading.{bad_number}
use Rattle.readers.specs.declared.refusal.SheetRefusal.TheVariants.{Table}
use Rattle.sheets.specs.Front.{front_table}
use Rattle.sheets.specs.Judged.{ground_of, row_judged}
use Rattle.sheets.proofs.Ranges.{tried_all}
use Rattle.sheets.proofs.Steps.{rows_tried}
use Rattle.sheets.proofs.front.Front.check_table.Goals as goal

pub returns : goal.returns
returns c =
    let S = front_table c.args.self.now in
    let N = c.args.self.now.seat.sites in
    let w = c.args.self.now.writer in
    tried_all _ c.new.result 1 N c.new.ensures.start c.new.ensures.end c.new.ensures.exhausted (λ k. row_judged N w S k) (λ v z. v ≡ result_from_control_flow z) (λ e r. IsErr r × IsErrAnd r (λ y. y ≡ e.0))
    (λ v e. e)
    (λ v r e b q. let k = err_from_is_err_and r q.1 in (k.0, b ∙ (λ j. Err (sym k.2 j)), k.1))
    (λ x v q k. search (rules, tests))
    c.try_for_each.result N (omega arith) c.try_for_each.ensures.runs
    ∙ sym (rows_tried (bad_number S w) (λ x. Table (place_of N x.0 x.1) (ground_of S w x)) N 1 N)
