-- Worked runs: three sites, bookings, and what each call answers and leaves.
-- Assumes nothing.
use Rattle.std.specs.Prelude.{◌≡◌, ℕ, ◌+◌, ◌-◌, ◌*◌, Bool, true, false, List, [], ◌∷◌, ◌++◌, map, length, take, Ok, Err, Result, slice_index}
use Rattle.std.proofs.Common.{lit≤}
use Rattle.rules.specs.Refusals.{bad_head, beyond_own_row, ends_early, bytes_behind, log_full, calendar_full, short_for_writing}
use Rattle.kinds.specs.declared.booking.Booking.{Booking}
use Rattle.kinds.specs.declared.booking.Work.TheVariants.{Trial}
use Rattle.kinds.specs.Bookings.{bookings}
use Rattle.kinds.specs.Formats.{rule_of}
use Rattle.rules.specs.Kinds.{Kind}
use Rattle.rules.specs.Stamps.{Stamped}
use Rattle.rules.specs.Records.{booked, struck, Entry}
use Rattle.rules.specs.Stores.{ring_limits}
use Rattle.rules.specs.Tables.{Table}
use Rattle.rules.specs.Sheets.{cells, written}
use Rattle.rules.specs.Sites.{Setting, State, fresh, book, strike, write, sheet_bytes, accept}

-- line 7 from day 9000 to 9002, trial, crew 5; and its bytes
abbrev pub trial : Booking
trial =
    record {
      line = 7;
      first = 9000;
      last = 9002;
      work = Trial;
      crew = 5;
      line_ok = (lit≤ tt, lit≤ tt);
      days_ok = (lit≤ tt, lit≤ tt);
      crew_ok = lit≤ tt;
    }

abbrev pub trial_bytes : List ℕ
trial_bytes = 0x00 ∷ 0x07 ∷ 0x23 ∷ 0x28 ∷ 0x23 ∷ 0x2A ∷ 0x02 ∷ 0x05 ∷ []

-- the kind of bookings
abbrev pub kind : Kind Booking
kind = rule_of bookings

-- site i of 3, with a ring and a calendar of so many places
abbrev pub site : (i ring_places calendar_places : ℕ) → Setting Booking
site i M D = record { sites = 3; own = i; kind = kind; limits = ring_limits M; room = D }

abbrev pub at : ℕ → Setting Booking
at i = site i 8 8

-- the table's rows of the sites 1 to 3, one after the other
abbrev pub rows : Table → List ℕ
rows T = map (λ c. T c.0 c.1) (cells 3)

-- the entries with their bytes
abbrev pub shown : List (Entry Booking) → List (Stamped (List ℕ))
shown es = map (λ e. (e.0, e.1, kind.encoded e.2)) es

-- bytes that are an entry
abbrev pub lawful : {X : Type 0} → Result Booking X → Bool
lawful (Ok b) = true
lawful (Err x) = false

-- site 1 after booking, and its sheet for 2
abbrev pub one : State Booking
one = (book (at 1) fresh trial).1

abbrev pub sheet : List ℕ
sheet = sheet_bytes (at 1) one 2

-- site 2 after accepting it, and again
abbrev pub two : State Booking
two = (accept (at 2) fresh sheet).1

abbrev pub two_again : State Booking
two_again = (accept (at 2) two sheet).1

-- site 3 after accepting site 2's sheet, and after striking
abbrev pub three : State Booking
three = (accept (at 3) fresh (sheet_bytes (at 2) two_again 3)).1

abbrev pub three_struck : State Booking
three_struck = (strike (at 3) three 1 1).1

-- site 1 after accepting site 3's sheet
abbrev pub one_last : State Booking
one_last = (accept (at 1) one (sheet_bytes (at 3) three_struck 1)).1

-- a sheet from 1 for 2 that credits 2 with 1.1, and has no records
abbrev pub crediting : List ℕ
crediting = written kind 3 1 2 (λ k u. slice_index (1 ∷ 0 ∷ 0 ∷ 1 ∷ 0 ∷ 0 ∷ 0 ∷ 0 ∷ 0 ∷ []) (3 * (k - 1) + (u - 1))) []

-- site i after booking once and twice
abbrev pub once : Setting Booking → State Booking
once S = (book S fresh trial).1

abbrev pub twice : Setting Booking → State Booking
twice S = (book S (once S) trial).1

-- one list of what each call answers and leaves; the runs 1 to 6 follow one another
pub record WorkedRuns : Type 0 where
  -- 1. a fresh site 1 books
  pub answer_1 : (book (at 1) fresh trial).0 ≡ Ok (1, 1)
  pub rows_1 : rows one.table ≡ 1 ∷ 0 ∷ 0 ∷ 0 ∷ 0 ∷ 0 ∷ 0 ∷ 0 ∷ 0 ∷ []
  pub log_1 : one.log ≡ (1, 1, booked trial) ∷ []
  pub entries_1 : shown one.entries ≡ (1, 1, trial_bytes) ∷ []
  -- 2. it writes for 2, into a buffer of 52 bytes
  pub write_2 :
      write (at 1) one 2 (map (λ c. 9) (cells 3) ++ map (λ c. 8) (cells 6) ++ 4 ∷ 5 ∷ 6 ∷ 7 ∷ 8 ∷ 9 ∷ 10 ∷ [])
      ≡ (Ok 50, sheet ++ 9 ∷ 10 ∷ [])
  pub sheet_2 :
      sheet
      ≡ 0x01 ∷ 0x03 ∷ 0x01 ∷ 0x02 ∷ 0x01
      ∷ 0 ∷ 0 ∷ 0 ∷ 1 ∷ 0 ∷ 0 ∷ 0 ∷ 0 ∷ 0 ∷ 0 ∷ 0 ∷ 0
      ∷ 0 ∷ 0 ∷ 0 ∷ 0 ∷ 0 ∷ 0 ∷ 0 ∷ 0 ∷ 0 ∷ 0 ∷ 0 ∷ 0
      ∷ 0 ∷ 0 ∷ 0 ∷ 0 ∷ 0 ∷ 0 ∷ 0 ∷ 0 ∷ 0 ∷ 0 ∷ 0 ∷ 0
      ∷ 0x01 ∷ trial_bytes
  -- 3. site 2 accepts
  pub answer_3 : (accept (at 2) fresh sheet).0 ≡ Ok (1, 0)
  pub rows_3 : rows two.table ≡ 1 ∷ 0 ∷ 0 ∷ 1 ∷ 0 ∷ 0 ∷ 0 ∷ 0 ∷ 0 ∷ []
  -- 4. and again: no change
  pub answer_4 : (accept (at 2) two sheet).0 ≡ Ok (0, 0)
  pub rows_4 : rows two_again.table ≡ rows two.table
  pub log_4 : two_again.log ≡ two.log
  pub entries_4 : two_again.entries ≡ two.entries
  -- 5. site 2 writes for 3, which accepts
  pub answer_5 : (accept (at 3) fresh (sheet_bytes (at 2) two_again 3)).0 ≡ Ok (1, 1)
  pub log_5 : three.log ≡ []
  pub entries_5 : shown three.entries ≡ (1, 1, trial_bytes) ∷ []
  -- 6. site 3 strikes 1.1 and writes for 1, which accepts
  pub answer_6 : (strike (at 3) three 1 1).0 ≡ Ok (3, 1)
  pub sheet_6 :
      sheet_bytes (at 3) three_struck 1
      ≡ 0x01 ∷ 0x03 ∷ 0x03 ∷ 0x01 ∷ 0x01
      ∷ 0 ∷ 0 ∷ 0 ∷ 1 ∷ 0 ∷ 0 ∷ 0 ∷ 0 ∷ 0 ∷ 0 ∷ 0 ∷ 0
      ∷ 0 ∷ 0 ∷ 0 ∷ 1 ∷ 0 ∷ 0 ∷ 0 ∷ 0 ∷ 0 ∷ 0 ∷ 0 ∷ 0
      ∷ 0 ∷ 0 ∷ 0 ∷ 1 ∷ 0 ∷ 0 ∷ 0 ∷ 0 ∷ 0 ∷ 0 ∷ 0 ∷ 1
      ∷ 0x02 ∷ 0x01 ∷ 0 ∷ 0 ∷ 0 ∷ 1 ∷ []
  pub length_6 : length (sheet_bytes (at 3) three_struck 1) ≡ 47
  pub accept_6 : (accept (at 1) one (sheet_bytes (at 3) three_struck 1)).0 ≡ Ok (1, 1)
  pub entries_6 : one_last.entries ≡ []
  pub log_6 : one_last.log ≡ (3, 1, struck 1 1) ∷ []
  -- 7. the sheet of 2 at site 3
  pub other_site_7 : (accept (at 3) three sheet).0 ≡ Err (bad_head 3)
  -- 8. a sheet that credits a fresh site 2 with what it lacks
  pub credits_8 : (accept (at 2) fresh crediting).0 ≡ Err (beyond_own_row 1)
  -- 9. the sheet of 2, cut to 49 bytes, and with a byte more
  pub cut_9 : (accept (at 2) fresh (take 49 sheet)).0 ≡ Err (ends_early 49)
  pub more_9 : (accept (at 2) fresh (sheet ++ 0 ∷ [])).0 ≡ Err (bytes_behind 50)
  -- 10. a ring of 2: the third booking; a calendar of 1: the second
  pub ring_10 : (book (site 1 2 8) (twice (site 1 2 8)) trial).0 ≡ Err (log_full 1)
  pub calendar_10 : (book (site 1 8 1) (once (site 1 8 1)) trial).0 ≡ Err (calendar_full 2)
  -- 11. line 999 is lawful, and 1000 is not; a sheet of 50 bytes does not fit 49
  pub line_999 : lawful (kind.decoded (0x03 ∷ 0xE7 ∷ 0x23 ∷ 0x28 ∷ 0x23 ∷ 0x2A ∷ 0x02 ∷ 0x05 ∷ [])) ≡ true
  pub line_1000 : kind.decoded (0x03 ∷ 0xE8 ∷ 0x23 ∷ 0x28 ∷ 0x23 ∷ 0x2A ∷ 0x02 ∷ 0x05 ∷ []) ≡ Err (record { place = 0 })
  pub write_11 : write (at 1) one 2 (take 49 sheet) ≡ (Err (short_for_writing 50), take 49 sheet)
