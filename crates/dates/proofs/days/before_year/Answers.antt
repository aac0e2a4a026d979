use Rattle.std.proofs.Common.{◌-◌, ◌^◌, rules, refl, ◌∙◌, arith}
use Rattle.std.proofs.lemmas.Iterator.{YieldsList-from_range, YieldsList-from_map}
use Rattle.std.proofs.lemmas.Iterator.Consumers.{sum_from_yields_List, fits_from_yields_list}
use Rattle.dates.specs.Lengths.{days_of_year}
use Rattle.dates.proofs.Sums.{years_sum, years_within}
use Rattle.dates.proofs.days.before_year.Goals as goal

pub sum-requires-clause-fits : goal.sum-requires-clause-fits
sum-requires-clause-fits c =
    let y = c.args.year in
    fits_from_yields_list c.map.result (2 ^ 32)
    (YieldsList-from_map _ days_of_year (YieldsList-from_range 2000 y (y - 2000) c.map.ensures.source refl) c.map.ensures.closure (λ x r q k. search rules))
    (omega (arith, years_sum (y - 2000), years_within (y - 2000)))

pub returns-clause-value : goal.returns-clause-value
returns-clause-value c =
    let y = c.args.year in
    sum_from_yields_List c.map.result c.sum.result c.sum.ensures.ran
    (YieldsList-from_map _ days_of_year (YieldsList-from_range 2000 y (y - 2000) c.map.ensures.source refl) c.map.ensures.closure (λ x r q k. search rules))
    ∙ years_sum (y - 2000)

pub returns-clause-bound : goal.returns-clause-bound
returns-clause-bound c = omega (arith, returns-clause-value c, years_within (c.args.year - 2000))
