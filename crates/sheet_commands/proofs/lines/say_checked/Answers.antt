use Rattle.std.proofs.Common.{◌++◌, None, codes, decimal, sym, ap, ◌∙◌}
use Rattle.rules.specs.Reading.{read}
use Rattle.rules.proofs.Refusing.{made_at, made_with}
use Rattle.rules.proofs.Fitting.{Said, read_fits}
use Rattle.kinds.specs.Formats.{rule_of}
use Rattle.sheet_commands.specs.Lines.{rows_text, records_text}
use Rattle.sheet_commands.proofs.lines.say_checked.Goals as goal

pub returns : goal.returns
returns g c = λ p e w t.
    let K = rule_of g.V.Kind.format in
    let words = g.V.InWords.words in
    let N = c.args.seat.sites in
    let i = c.args.seat.own in
    let bs = c.args.bytes.now in
    let F = (made_at (read K N i None bs) (Said K N i bs None) p (read_fits K N i bs None) e).0 in
    let rows = c.in_ok-rows.ensures ∙ ap (λ T. rows_text T N) (sym t) in
    let records = c.in_ok-records.ensures ∙ ap (records_text words) (c.new.ensures.read None p e w t) in
    made_with c.format.result _ _ c.format.ensures.ok
    (λ s q. q
    ∙ (λ j. codes "sheet from site " ++ (decimal (sym w j) ++ (codes " for site " ++ (decimal (sym F.addressee j) ++ (rows j ++ records j))))))
