use Rattle.std.proofs.Common.{◌≡◌, ◌+◌, ◌-◌, ◌≤◌}
use Rattle.dates.specs.Lengths.{months_before}
use Rattle.dates.proofs.days.in_month.Given as goal

abbrev pub invariant-loop-rest : goal.invariant-loop-rest
invariant-loop-rest l = (months_before l.year (l.month - 1) + l.past ≡ l.initial.past) × (1 ≤ l.month) × (l.month ≤ 12)

abbrev pub decreases-loop-rest : goal.decreases-loop-rest
decreases-loop-rest l = l.past
