use Rattle.std.proofs.Common.{◌≡◌, rules, ◌==◌, ◌+◌, take, Some, sym, ap, ◌∙◌}
use borrow.Author.Tests.{tests}
use Rattle.std.proofs.lemmas.Iterator.{YieldsList-from_slice}
use Rattle.std.proofs.lemmas.Iterator.Search.{position_from_yields_List}
use Rattle.std.proofs.lemmas.List.{take_rest}
use Rattle.std.specs.List.{position}
use Rattle.std.specs.Option.{option_map}
use Rattle.text.specs.Splits.{split_at}
use Rattle.text.proofs.Parted.{parts_at, split_is}
use Rattle.text.proofs.splits.split_once.Goals as goal
use Rattle.text.proofs.splits.split_once.Goals.{After-position}

-- the parts are those at the place that is found
parted : (c : After-position) → split_at c.args.mark c.args.text.now ≡ option_map (parts_at c.args.text.now) c.position.result
parted c =
    let s = c.args.text.now in
    let e : c.position.result ≡ position (λ b. b == c.args.mark) s =
    position_from_yields_List (λ b. b == c.args.mark) _ _ c.position.result c.position.ensures.ran (YieldsList-from_slice s (cc)) (λ x b q k. search (rules, tests)) in
    split_is c.args.mark s ∙ ap (option_map (parts_at s)) (sym e)

pub returns-in_err-i : goal.returns-in_err-i
returns-in_err-i c =
    let p = parted (goal.at.returns-in_err-i c).After-position in
    ap (option_map (λ q. (q.0.now, q.1.now))) c.from_residual.ensures ∙ sym (p ∙ ap (option_map (parts_at c.args.text.now)) c.in_err-i.was)

pub returns : goal.returns
returns c =
    let s = c.args.text.now in
    let i = c.in_ok-i.i in
    let p = parted (goal.at.returns c).After-position in
    ap (λ xs. Some (take i s, xs)) (take_rest s (i + 1)) ∙ sym (p ∙ ap (option_map (parts_at s)) c.in_ok-i.was)
