-- What is printed for a line of input.
-- Assumes nothing.
use Rattle.std.specs.Prelude.{ℕ, Bool, cond, not, ◌&&◌, ◌||◌, List, [], ◌++◌, Ok, Err, codes, decimal, Result}
use Rattle.std.specs.Str.{bytes_eq}
use Rattle.rules.specs.Stamps as rules
use Rattle.text.specs.Words.{word, behind}
use Rattle.events.specs.declared.refusal.StampTextRefusal.{StampTextRefusal}
use Rattle.events.specs.Refused.{stamp_text_refusal_text}
use Rattle.events.specs.Text.{stamp_read}
use Rattle.kinds.specs.Bookings.{bookings, booking_text}
use Rattle.kinds.specs.Notices.{notices, notice_text}
use Rattle.sheet_commands.specs.Answers as sheets
use Rattle.sheet_commands.specs.Answers.{empty, sheet_answer}
use Rattle.commands.specs.declared.usage.Usage.TheVariants as usages
use Rattle.commands.specs.Usages.{usage_text}
use Rattle.commands.specs.Names.{silent}
use Rattle.commands.specs.Entries.{booking_read, line_out_read, word_read, entry_read}
use Rattle.commands.specs.Texts.{bytes_text, said}

-- no word is left
abbrev pub no_word : List ℕ → Bool
no_word cs = empty (word cs)

-- entry KIND HEX: the entry in words
abbrev pub entry_said : (kind digits : List ℕ) → List ℕ
entry_said kind digits =
    cond (bytes_eq kind (codes "booking")) (said booking_text (entry_read bookings digits))
    (cond (bytes_eq kind (codes "notice")) (said notice_text (entry_read notices digits)) (usage_text usages.Entry))

abbrev pub entry_answer : List ℕ → List ℕ
entry_answer cs = cond (no_word (behind (behind cs))) (entry_said (word cs) (word (behind cs))) (usage_text usages.Entry)

-- booking LINE FIRST LAST WORK CREW: its bytes
abbrev pub booking_answer : List ℕ → List ℕ
booking_answer cs =
    let b = behind cs in
    let c = behind b in
    let d = behind c in
    let e = behind d in
    cond (empty (word e) || not (no_word (behind e))) (usage_text usages.Booking)
    (bytes_text bookings (booking_read (word cs) (word b) (word c) (word d) (word e)))

-- notice out LINE DAY, or notice word WORD: its bytes
abbrev pub notice_said : (form first second : List ℕ) → List ℕ
notice_said form first second =
    cond (bytes_eq form (codes "out")) (bytes_text notices (line_out_read first second))
    (cond (bytes_eq form (codes "word") && empty second) (bytes_text notices (word_read first)) (usage_text usages.Notice))

abbrev pub notice_answer : List ℕ → List ℕ
notice_answer cs =
    let b = behind cs in
    let c = behind b in
    cond (no_word (behind c)) (notice_said (word cs) (word b) (word c)) (usage_text usages.Notice)

-- stamp SITE.NUMBER: the stamp, checked
abbrev pub stamp_said : Result rules.Stamp StampTextRefusal → List ℕ
stamp_said (Ok s) = codes "site " ++ (decimal s.0 ++ (codes ", event " ++ decimal s.1))
stamp_said (Err x) = stamp_text_refusal_text x

abbrev pub stamp_answer : List ℕ → List ℕ
stamp_answer cs = cond (not (no_word (behind cs))) (usage_text usages.Stamp) (stamp_said (stamp_read (word cs)))

-- by the first word: one with a path is answered by what the file holds
abbrev pub answer_of : List ℕ → List ℕ
answer_of line =
    let w = word line in
    let cs = behind line in
    cond (bytes_eq w (codes "entry")) (entry_answer cs)
    (cond (bytes_eq w (codes "booking")) (booking_answer cs)
    (cond (bytes_eq w (codes "notice")) (notice_answer cs)
    (cond (bytes_eq w (codes "stamp")) (stamp_answer cs)
    (cond (bytes_eq w (codes "sheet")) (sheet_answer cs)
    (cond (bytes_eq w (codes "sheet-file")) sheets.usage_text
    (cond (bytes_eq w (codes "help")) (usage_text usages.All) (cond (silent w) [] (usage_text usages.Unknown))))))))
