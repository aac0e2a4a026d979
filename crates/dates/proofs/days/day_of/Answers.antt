use Rattle.std.proofs.Common.{◌≡◌, ◌+◌, ◌-◌, true, false, sym, ap, ◌∙◌, arith}
use Rattle.dates.specs.Days.{known, date_of_day, number}
use Rattle.dates.proofs.Numbered.{known_is, is_known, known_small, small_known, date_is}
use Rattle.dates.proofs.days.day_of.Goals as goal

pub returns-then-not-is_known-clause-meaning : goal.returns-then-not-is_known-clause-meaning
returns-then-not-is_known-clause-meaning c = λ n h e.
    let k : known c.args.date ≡ true = ap known (sym e) ∙ is_known (date_of_day n) (small_known n h) in
    let f : false ≡ true = c.if-not-is_known.ensures ∙ k in
    cc

pub returns-clause-meaning : goal.returns-clause-meaning
returns-clause-meaning c =
    let t = c.args.date in
    let k = known_is t (sym c.if-not-is_known.ensures) in
    let small = known_small t k in
    let day = k.good.day in
    let e : number t ≡ c.before_year.result + c.before_month.result + c.from.result - 1 =
    omega (arith, c.before_year.ensures.value, c.before_month.ensures.value, c.from.ensures) in
    (omega arith, sym (date_is t _ (k.good, e)))
