use Rattle.std.proofs.Common.{◌≡◌}
use Rattle.tables.specs.Numbers.{number, rows_raised}
use Rattle.tables.proofs.table.TimeTable.merge.Given as goal

abbrev pub invariant-loop-k : goal.invariant-loop-k
invariant-loop-k l = number l.self ≡ rows_raised (number l.initial.self) l.k (number l.other)
