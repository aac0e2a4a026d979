use Rattle.std.proofs.Common.{◌≡◌, ◌+◌, ◌-◌, ◌++◌, string_bytes}
use Rattle.std.specs.List.{flat_map}
use Rattle.rules.specs.Sheets.{run}
use Rattle.tables.specs.Numbers.{number}
use Rattle.sheet_commands.specs.Lines.{cell_text, row_line}
use Rattle.sheet_commands.proofs.lines.say_row.Given as goal

-- what is said, and what is left, give the whole
abbrev pub invariant-loop-u : goal.invariant-loop-u
invariant-loop-u l =
    string_bytes l.text ++ flat_map (cell_text (number l.table)) (run l.k l.u (l.fn.seat.sites + 1 - l.u))
    ≡ row_line (number l.table) l.fn.seat.sites l.k
