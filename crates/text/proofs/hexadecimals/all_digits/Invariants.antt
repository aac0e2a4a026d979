use Rattle.std.proofs.Common.{◌≡◌}
use Rattle.std.specs.List.{list_all}
use Rattle.std.specs.Slice.Iter.{chunks_rest}
use Rattle.text.specs.Hexadecimals.{is_digit}
use Rattle.text.proofs.hexadecimals.all_digits.Given as goal

abbrev pub invariant-loop-part : goal.invariant-loop-part
invariant-loop-part l =
    goal.iterator-loop-part.can_next l.part-iterator × goal.iterator-loop-part.is_finite l.part-iterator × (list_all is_digit (chunks_rest l.part-iterator) ≡ list_all is_digit l.text)
