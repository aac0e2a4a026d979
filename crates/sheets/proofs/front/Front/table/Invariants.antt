use Rattle.std.proofs.Common.{◌≡◌}
use Rattle.tables.specs.Numbers.{number, rows_raised}
use Rattle.sheets.specs.Front.{front_table}
use Rattle.sheets.proofs.front.Front.table.Given as goal

abbrev pub invariant-loop-k : goal.invariant-loop-k
invariant-loop-k l = number l.table ≡ rows_raised (λ _ _. 0) l.k (front_table l.self)
