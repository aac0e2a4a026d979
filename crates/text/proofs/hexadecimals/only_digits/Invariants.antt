use Rattle.std.proofs.Common.{◌≡◌, ◌&&◌, drop}
use Rattle.std.specs.List.{list_all}
use Rattle.text.specs.Hexadecimals.{is_digit}
use Rattle.text.proofs.hexadecimals.only_digits.Given as goal

abbrev pub invariant-loop-c : goal.invariant-loop-c
invariant-loop-c l = (l.only && list_all is_digit (drop l.c-index l.part)) ≡ list_all is_digit l.part
