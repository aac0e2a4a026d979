use Rattle.std.proofs.Common.{◌-◌, ◌^◌, rules, refl, ◌∙◌, arith}
use Rattle.std.proofs.lemmas.Iterator.{YieldsList-from_range, YieldsList-from_map}
use Rattle.std.proofs.lemmas.Iterator.Consumers.{sum_from_yields_List, fits_from_yields_list}
use Rattle.dates.specs.Lengths.{days_of_month}
use Rattle.dates.proofs.Sums.{months_sum, months_within}
use Rattle.dates.proofs.days.before_month.Goals as goal

pub sum-requires-clause-fits : goal.sum-requires-clause-fits
sum-requires-clause-fits c =
    let m = c.args.month in
    fits_from_yields_list c.map.result (2 ^ 32)
    (YieldsList-from_map _ (days_of_month c.args.year) (YieldsList-from_range 1 m (m - 1) c.map.ensures.source refl) c.map.ensures.closure (λ x r q k. search rules))
    (omega (arith, months_sum c.args.year (m - 1), months_within c.args.year (m - 1)))

pub returns-clause-value : goal.returns-clause-value
returns-clause-value c =
    let m = c.args.month in
    sum_from_yields_List c.map.result c.sum.result c.sum.ensures.ran
    (YieldsList-from_map _ (days_of_month c.args.year) (YieldsList-from_range 1 m (m - 1) c.map.ensures.source refl) c.map.ensures.closure (λ x r q k. search rules))
    ∙ months_sum c.args.year (m - 1)

pub returns-clause-bound : goal.returns-clause-bound
returns-clause-bound c = omega (arith, returns-clause-value c, months_within c.args.year (c.args.month - 1))
