use Rattle.std.proofs.Common.{◌≡◌, ◌+◌, ◌-◌, ◌++◌, string_bytes}
use Rattle.tables.specs.Numbers.{number}
use Rattle.sheet_commands.specs.Lines.{rows_from, rows_text}
use Rattle.sheet_commands.proofs.lines.say_rows.Given as goal

-- what is said, and what is left, give the whole
abbrev pub invariant-loop-k : goal.invariant-loop-k
invariant-loop-k l = string_bytes l.text ++ rows_from (number l.table) l.fn.seat.sites l.k (l.fn.seat.sites + 1 - l.k) ≡ rows_text (number l.table) l.fn.seat.sites
