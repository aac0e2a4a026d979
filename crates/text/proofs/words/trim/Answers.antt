use Rattle.std.proofs.Common.{◌≡◌, rules, length, drop, not, ap, ◌∙◌}
use Rattle.std.proofs.lemmas.List.{take_rest}
use borrow.Author.Tests.{tests}
use Rattle.std.proofs.lemmas.Iterator.{YieldsList-from_slice}
use Rattle.std.proofs.lemmas.Iterator.Search.{position_from_yields_List}
use Rattle.std.specs.List.{position}
use Rattle.std.specs.Option.{unwrap_or}
use Rattle.text.specs.Words.{blank}
use Rattle.text.proofs.Pieces.{trim_at}
use Rattle.text.proofs.words.trim.Goals as goal

pub returns : goal.returns
returns c =
    let s = c.args.text.now in
    let e : c.position.result ≡ position (λ b. not (blank b)) s =
    position_from_yields_List (λ b. not (blank b)) _ _ c.position.result c.position.ensures.ran (YieldsList-from_slice s (cc)) (λ x b q k. search (rules, tests)) in
    take_rest s c.unwrap_or-front.result
    ∙ ap (λ n. drop n s) (c.unwrap_or-front.ensures ∙ ap (λ o. unwrap_or o (length s)) e)
    ∙ trim_at s
