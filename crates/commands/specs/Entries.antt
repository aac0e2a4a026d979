-- Entries that are written in words.
-- Assumes nothing.
use Rattle.std.specs.Prelude.{ℕ, min, List, length, Some, None, Ok, Option, Result, ◌==◌, slice_index, ok_or}
use Rattle.rules.specs.Results.{◌>>=◌, require, refused_as}
use Rattle.text.specs.Decimals.{decimal_of, capped}
use Rattle.text.specs.Hexadecimals.{hex_bytes_of}
use Rattle.dates.specs.Days.{day_at}
use Rattle.dates.specs.Text.{with_some, date_read}
use Rattle.kinds.specs.declared.booking.Booking.{Booking}
use Rattle.kinds.specs.declared.notice.Notice.{Notice}
use Rattle.kinds.specs.Bookings.{booking_from, work_of_name}
use Rattle.kinds.specs.Notices.{line_out_from, word_from}
use Rattle.kinds.specs.declared.refusal.EntryRefusal.{EntryRefusal}
use Rattle.kinds.specs.Formats.{Format}
use Rattle.sheet_commands.specs.declared.problem.BadWord.{BadWord}
use Rattle.sheet_commands.specs.declared.problem.BadWord.TheVariants.{Day, Work, Hexadecimal, Letters}
use Rattle.sheet_commands.specs.declared.problem.Problem.{Problem}
use Rattle.sheet_commands.specs.declared.problem.Problem.TheVariants.{Word, Refused}
use Rattle.sheet_commands.specs.Words.{number_read}

-- a day, by its number or its date
abbrev pub day_from : Option ℕ → List ℕ → Result ℕ BadWord
day_from (Some n) w = Ok (min n 65535)
day_from None w = ok_or (with_some (date_read w) day_at) Day

abbrev pub day_read : List ℕ → Result ℕ BadWord
day_read w = day_from (capped (decimal_of w)) w

-- a booking: line, first day, last day, work, crew
abbrev pub booking_read : (line first last work crew : List ℕ) → Result Booking (Problem EntryRefusal)
booking_read line first last work crew = do
  l ← refused_as Word (number_read line)
  f ← refused_as Word (day_read first)
  t ← refused_as Word (day_read last)
  w ← ok_or (work_of_name work) (Word Work)
  c ← refused_as Word (number_read crew)
  refused_as Refused (booking_from (min l 65535) f t (Some w) (min c 255))

-- a notice that a line is out on a day
abbrev pub line_out_read : (line day : List ℕ) → Result Notice (Problem EntryRefusal)
line_out_read line day = do
  l ← refused_as Word (number_read line)
  d ← refused_as Word (day_read day)
  refused_as Refused (line_out_from (min l 65535) d)

-- a notice of four letters
abbrev pub word_read : List ℕ → Result Notice (Problem EntryRefusal)
word_read w = do
  _ ← require (length w == 4) (Word Letters)
  refused_as Refused (word_from (slice_index w 0) (slice_index w 1) (slice_index w 2) (slice_index w 3))

-- the entry of a kind that bytes stand for, if there are any
abbrev pub entry_of : {E : Type 0} → Format E → Option (List ℕ) → Result E (Problem EntryRefusal)
entry_of f bytes = do
  bs ← ok_or bytes (Word Hexadecimal)
  refused_as Refused (f.decoded bs)

-- the entry whose bytes are written in hexadecimal digits
abbrev pub entry_read : {E : Type 0} → Format E → List ℕ → Result E (Problem EntryRefusal)
entry_read f digits = entry_of f (hex_bytes_of digits)
