use Rattle.std.proofs.Common.{arith}
use Rattle.std.proofs.lemmas.Bool.Decides.{nat_tests}
use Rattle.std.proofs.lemmas.Grind.{common_steps}
use Rattle.sheet_commands.proofs.Firsts.{up_to_tested}
use Rattle.sheet_commands.proofs.words.words_up_to.Goals as goal

pub returns : goal.returns
returns c =
    let e = up_to_tested 6 c.args.most 0 c.args.line.now in
    grind (arith, nat_tests, common_steps)
