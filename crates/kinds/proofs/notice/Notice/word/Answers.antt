use Rattle.std.proofs.Common.{sym, refl}
use Rattle.kinds.specs.Noticed.{word_ok}
use Rattle.kinds.proofs.notice.Notice.word.Goals as goal

pub returns-in-None : goal.returns-in-None
returns-in-None c = sym (word_ok _ c.args.a c.args.b c.args.c c.args.d refl)
