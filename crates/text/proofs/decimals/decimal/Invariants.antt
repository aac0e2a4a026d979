use Rattle.std.proofs.Common.{◌≡◌, ◌≤◌, drop}
use Rattle.text.specs.Decimals.{read_on, most, capped}
use Rattle.text.proofs.decimals.decimal.Given as goal

-- what is left gives the whole
abbrev pub invariant-loop-c : goal.invariant-loop-c
invariant-loop-c l =
    (l.n ≤ most) × (capped (read_on l.n (drop l.c-index l.text)) ≡ capped (read_on 0 l.text))
