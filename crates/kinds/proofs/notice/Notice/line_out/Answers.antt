use Rattle.std.proofs.Common.{sym}
use Rattle.kinds.specs.Noticed.{line_out_ok}
use Rattle.kinds.proofs.notice.Notice.line_out.Goals as goal

pub returns : goal.returns
returns c = sym (line_out_ok _)
