use Rattle.std.proofs.Common.{None, sym, ◌∙◌}
use Rattle.rules.specs.Reading.{read}
use Rattle.rules.proofs.Refusing.{made_with}
use Rattle.kinds.specs.Formats.{rule_of}
use Rattle.tables.specs.Numbers.{number}
use Rattle.sheet_commands.specs.Lines.{told_of}
use Rattle.sheet_commands.proofs.Said.{read_from}
use Rattle.sheet_commands.proofs.lines.say_sheet.Goals as goal

pub returns-in-Ok : goal.returns-in-Ok
returns-in-Ok g c =
    let N = c.args.seat.sites in
    let h = c.in-Ok.ensures in
    let m = read (rule_of g.V.Kind.format) N c.args.seat.own None c.args.bytes.now in
    let p = read_from m c.in-Ok.checked.writer (number c.in-Ok.checked.table) h.rules in
    made_with c.say_checked.result _ _ (c.say_checked.ensures p.0 p.1 p.2 p.3)
    (λ s q. q ∙ (λ j. told_of g.V.InWords.words N (h.value j) (sym p.1 j)))
