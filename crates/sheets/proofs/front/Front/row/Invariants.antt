use Rattle.std.proofs.Common.{◌≡◌}
use Rattle.tables.specs.Numbers.{in_row}
use Rattle.sheets.specs.Front.{front_table}
use Rattle.sheets.proofs.Fronts.{row_front}
use Rattle.sheets.proofs.front.Front.row.Given as goal

abbrev pub invariant-loop-u : goal.invariant-loop-u
invariant-loop-u l = in_row l.row ≡ row_front (front_table l.self l.k) l.u
