use Rattle.std.proofs.Common.{◌≡◌, rules, length, ap, ◌∙◌}
use borrow.Author.Tests.{tests}
use Rattle.std.proofs.lemmas.Iterator.{YieldsList-from_slice}
use Rattle.std.proofs.lemmas.Iterator.Search.{position_from_yields_List}
use Rattle.std.specs.List.{position}
use Rattle.std.specs.Option.{unwrap_or}
use Rattle.text.specs.Words.{blank}
use Rattle.text.proofs.Pieces.{word_end}
use Rattle.text.proofs.words.word_length.Goals as goal

pub returns : goal.returns
returns c =
    let s = c.args.text.now in
    let e : c.position.result ≡ position blank s =
    position_from_yields_List blank _ _ c.position.result c.position.ensures.ran (YieldsList-from_slice s (cc)) (λ x b q k. search (rules, tests)) in
    c.unwrap_or.ensures ∙ ap (λ o. unwrap_or o (length s)) e ∙ word_end s
