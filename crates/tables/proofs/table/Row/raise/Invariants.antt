use Rattle.std.proofs.Common.{◌≡◌, ℕ, ◌<◌, ◌≤◌, max, length, get_or}
use Rattle.tables.proofs.table.Row.raise.Given as goal

abbrev pub invariant-loop-index : goal.invariant-loop-index
invariant-loop-index l =
    (length l.number-items ≡ 8)
    × ((v : ℕ) → v < l.index → get_or l.number-items v 0 ≡ max (get_or l.initial.number-items v 0) (get_or l.other.numbers v 0))
    × ((v : ℕ) → l.index ≤ v → get_or l.number-items v 0 ≡ get_or l.initial.number-items v 0)
