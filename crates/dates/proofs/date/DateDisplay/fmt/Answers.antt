use Rattle.std.proofs.Common.{arith}
use Rattle.dates.proofs.Written.{two_written}
use Rattle.dates.proofs.date.DateDisplay.fmt.Goals as goal

pub returns-clause-writes : goal.returns-clause-writes
returns-clause-writes g c =
    let t = c.args.self.now in
    rw (c.laid_out.ensures, c.laid_out-2.ensures, two_written t.month (omega arith), two_written t.day (omega arith)) at c.write.ensures.writes
