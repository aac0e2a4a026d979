use Rattle.std.proofs.Common.{sym, ◌∙◌}
use Rattle.kinds.specs.Notices.{sample_notice}
use Rattle.kinds.specs.Decide.{ok_same}
use Rattle.kinds.specs.Noticed.{line_out_ok}
use Rattle.kinds.proofs.notice.make.NoticeKind.sample.Goals as goal

pub returns : goal.returns
returns c = ok_same _ sample_notice (sym (line_out_ok _) ∙ line_out_ok _)
