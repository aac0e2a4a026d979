-- The code's answers of checking a sheet, as the rules have them.
-- Assumes nothing.
use Rattle.std.specs.Prelude.{ℕ, cond, Some, None, Ok, Err, Option, Result}
use Rattle.rules.specs.Refusals.{Refusal}
use Rattle.rules.specs.Tables.{Table}
use Rattle.rules.specs.Sheets.{Sheet}
use Rattle.rules.specs.Reading.{bad_number}
use Rattle.tables.specs.Numbers.{number}
use Rattle.readers.specs.declared.refusal.NumberGround.{NumberGround}
use Rattle.readers.specs.declared.refusal.SheetRefusal.{SheetRefusal}
use Rattle.sheets.specs.declared.checked.Checked.{Checked}
use Rattle.sheets.specs.Judged.{ground_of}

-- an answer by the writer and the table
abbrev pub checked_shown : Result Checked SheetRefusal → Result (ℕ × Table) SheetRefusal
checked_shown (Ok c) = Ok (c.writer, number c.table)
checked_shown (Err x) = Err x

-- what a reading says, without the records
abbrev pub without_records : {E : Type 0} → Result (Sheet E) Refusal → Result (ℕ × Table) Refusal
without_records (Ok p) = Ok (p.writer, p.table)
without_records (Err x) = Err x

-- what is wrong with a number, if anything is
abbrev pub ground_found : Table → ℕ → ℕ × ℕ → Option NumberGround
ground_found S k c = cond (bad_number S k c) (Some (ground_of S k c)) None
