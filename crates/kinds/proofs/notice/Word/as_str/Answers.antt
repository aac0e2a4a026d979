use Rattle.std.proofs.Common.{arith, rules}
use Rattle.std.specs.Str.{IsUtf8}
use Rattle.std.proofs.lemmas.Str.{IsUtf8-from_ascii}
use Rattle.kinds.specs.Noticed.{letter_small}
use Rattle.kinds.proofs.notice.Word.as_str.Goals as goal

pub unwrap-requires : goal.unwrap-requires
unwrap-requires c =
    let w = c.args.self.now in
    let u : IsUtf8 w.letters = IsUtf8-from_ascii w.letters (λ i. let h = letter_small w i in omega arith) in
    search rules
