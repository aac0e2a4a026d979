use Rattle.std.proofs.Common.{◌≡◌, ◌++◌, string_bytes}
use Rattle.sheet_commands.specs.Lines.{records_text}
use Rattle.sheet_commands.proofs.lines.say_records.Given as goal

-- what is said, and what is left, give the whole
abbrev pub invariant-loop-record : goal.invariant-loop-record
invariant-loop-record g l =
    (goal.iterator-loop-record g).can_next l.record-iterator
    × (goal.iterator-loop-record g).is_finite l.record-iterator
    × (string_bytes l.text ++ records_text g.V.InWords.words (g.R.RecordIterator.coming l.record-iterator)
    ≡ records_text g.V.InWords.words (g.R.RecordIterator.coming l.initial.record-iterator))
