use Rattle.std.proofs.Common.{◌+◌, ◌-◌, ◌≤◌, sym, ap, ◌∙◌, subst}
use Rattle.dates.specs.Lengths.{days_of_month, months_before, years_before}
use Rattle.dates.proofs.Numbered.{date_is}
use Rattle.dates.proofs.days.date_of.Goals as goal

pub returns : goal.returns
returns c =
    let t = c.in_month.result in
    let y = c.in_month.ensures.year in
    let m = c.in_year-year.result.0 in
    date_is t c.args.day (
      record {
        year = subst (λ z. 2000 ≤ z) (sym y) c.in_year-year.ensures.from;
        month = c.in_month.ensures.month;
        day = (c.in_month.ensures.day.0, subst (λ z. t.day ≤ days_of_month z t.month) (sym y) c.in_month.ensures.day.1);
      },
      (λ i. years_before (y i - 2000) + (months_before (y i) (t.month - 1) + (t.day - 1)))
          ∙ ap (λ n. years_before (m - 2000) + n) c.in_month.ensures.sum
          ∙ c.in_year-year.ensures.sum,
    )
