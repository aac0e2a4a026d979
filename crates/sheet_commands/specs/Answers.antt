-- What is printed for a command that looks at a sheet.
-- Assumes nothing.
use Rattle.std.specs.Prelude.{ℕ, min, Bool, cond, not, ◌&&◌, List, length, Some, None, Ok, Err, codes, Option, Result, ◌==◌}
use Rattle.std.specs.Str.{bytes_eq}
use Rattle.rules.specs.Results.{◌>>=◌, refused_as}
use Rattle.text.specs.Hexadecimals.{hex_bytes_of}
use Rattle.text.specs.Words.{word, behind}
use Rattle.kinds.specs.Bookings.{bookings, booking_text}
use Rattle.kinds.specs.Notices.{notices, notice_text}
use Rattle.tables.specs.declared.seat.Seat.{Seat}
use Rattle.tables.specs.Seats.{seat_ranged}
use Rattle.tables.specs.Refused.{seat_refusal_text}
use Rattle.tables.specs.declared.refusal.SeatRefusal.{SeatRefusal}
use Rattle.sheet_commands.specs.declared.problem.BadWord.TheVariants.{Hexadecimal}
use Rattle.sheet_commands.specs.declared.problem.Problem.{Problem}
use Rattle.sheet_commands.specs.declared.problem.Problem.TheVariants.{Word, Refused}
use Rattle.sheet_commands.specs.Problems.{word_text, problem_text}
use Rattle.sheet_commands.specs.Words.{number_read}
use Rattle.sheet_commands.specs.Lines.{said_of}

abbrev pub usage_text : List ℕ
usage_text = codes "usage: sheet N SITE KIND HEX, or sheet-file N SITE KIND PATH; KIND is booking or notice"

-- the seat that two words name: the group's size and the site; a number that is too large reads as 255, which no group has
abbrev pub seat_read : (sites own : List ℕ) → Result (ℕ × ℕ) (Problem SeatRefusal)
seat_read sites own = do
  n ← refused_as Word (number_read sites)
  i ← refused_as Word (number_read own)
  refused_as Refused (seat_ranged (min n 255) (min i 255))

abbrev pub seat_shown : Result Seat (Problem SeatRefusal) → Result (ℕ × ℕ) (Problem SeatRefusal)
seat_shown (Ok s) = Ok (s.sites, s.own)
seat_shown (Err x) = Err x

-- what is said of bytes for a seat and a kind
abbrev pub kind_said : (N i : ℕ) → (kind bytes : List ℕ) → List ℕ
kind_said N i kind bs =
    cond (bytes_eq kind (codes "booking")) (said_of bookings booking_text N i bs)
    (cond (bytes_eq kind (codes "notice")) (said_of notices notice_text N i bs) usage_text)

abbrev pub seat_said : Result (ℕ × ℕ) (Problem SeatRefusal) → (kind bytes : List ℕ) → List ℕ
seat_said (Ok s) kind bs = kind_said s.0 s.1 kind bs
seat_said (Err x) kind bs = problem_text seat_refusal_text x

abbrev pub sheet_said : (sites own kind bytes : List ℕ) → List ℕ
sheet_said sites own kind bs = seat_said (seat_read sites own) kind bs

-- the same for bytes that are written in hexadecimal digits
abbrev pub digits_said : (sites own kind : List ℕ) → Option (List ℕ) → List ℕ
digits_said sites own kind None = word_text Hexadecimal
digits_said sites own kind (Some bs) = sheet_said sites own kind bs

abbrev pub empty : List ℕ → Bool
empty bs = length bs == 0

-- four words, and no more
abbrev pub four_words : List ℕ → Bool
four_words cs = let d = behind (behind (behind cs)) in not (empty (word d)) && empty (word (behind d))

-- sheet N SITE KIND HEX, by what stands behind the first word
abbrev pub sheet_answer : List ℕ → List ℕ
sheet_answer cs =
    let b = behind cs in
    let c = behind b in
    cond (four_words cs) (digits_said (word cs) (word b) (word c) (hex_bytes_of (word (behind c)))) usage_text

-- the path of a whole line sheet-file N SITE KIND PATH
abbrev pub file_name_of : List ℕ → Option (List ℕ)
file_name_of line =
    let cs = behind line in
    cond (bytes_eq (word line) (codes "sheet-file")) (cond (four_words cs) (Some (word (behind (behind (behind cs))))) None) None

-- what is said for such a line when the file holds these bytes
abbrev pub file_answer : (line bytes : List ℕ) → List ℕ
file_answer line bs =
    let a = behind line in
    let b = behind a in
    sheet_said (word a) (word b) (word (behind b)) bs
