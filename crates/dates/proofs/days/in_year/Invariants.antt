use Rattle.std.proofs.Common.{◌≡◌, ◌+◌, ◌-◌, ◌≤◌}
use Rattle.dates.specs.Lengths.{years_before}
use Rattle.dates.proofs.days.in_year.Given as goal

abbrev pub invariant-loop-rest : goal.invariant-loop-rest
invariant-loop-rest l = (years_before (l.year - 2000) + l.past ≡ l.day) × (2000 ≤ l.year) × (l.year + l.past ≤ 2000 + l.day)

abbrev pub decreases-loop-rest : goal.decreases-loop-rest
decreases-loop-rest l = l.past
