-- Why a call is turned away: each refusal has a number, one carried number, and the layer that found it.
-- Assumes nothing.
use Rattle.std.specs.Prelude.{ℕ, ◌+◌, Some, None, Option}

-- the layers; the last three are things that are made over what is supplied
pub data Layer : Type 0 where
  kind sheet store calendar channel site : Layer
  ring lists mailbox : Layer

-- why bytes are no entry: the smaller of their length and the width if these differ, else the place of the first bad field
pub record Unlawful : Type 0 where
  pub place : ℕ

-- a 7 that comes from an entry holds that entry's 2 inside it
pub record Refusal : Type 0 where
  pub number : ℕ
  pub carried : ℕ
  pub layer : Layer
  pub inner : Option Unlawful

-- a refusal with nothing inside
abbrev pub plain : (number carried : ℕ) → Layer → Refusal
plain n c l = record { number = n; carried = c; layer = l; inner = None }

-- N is not 2 to 8: 0; the site is not 1 to N: 1
abbrev pub bad_site : ℕ → Refusal
bad_site n = plain 1 n site

-- no entry
abbrev pub bad_entry : Unlawful → Refusal
bad_entry x = plain 2 x.place kind

-- no stamp, for its site: 0; for its number: 1
abbrev pub bad_stamp : ℕ → Refusal
bad_stamp n = plain 3 n site

-- the sheet ends early: its length
abbrev pub ends_early : ℕ → Refusal
ends_early n = plain 4 n sheet

-- the head: the first bad byte's place
abbrev pub bad_head : ℕ → Refusal
bad_head n = plain 5 n sheet

-- the table: the first bad number's place
abbrev pub bad_table : ℕ → Refusal
bad_table n = plain 6 n sheet

-- a record's first byte, or a struck stamp: the place of the bad byte, or of the number's first byte
abbrev pub bad_record : ℕ → Refusal
bad_record n = plain 7 n sheet

-- an entry whose bytes begin at a place: where its 2 points
abbrev pub bad_entry_at : ℕ → Unlawful → Refusal
bad_entry_at n x = record { number = 7; carried = n + x.place; layer = sheet; inner = Some x }

-- bytes behind the last record: the first one's place
abbrev pub bytes_behind : ℕ → Refusal
bytes_behind n = plain 8 n sheet

-- the buffer is too short to write a sheet: the sheet's length
abbrev pub short_for_writing : ℕ → Refusal
short_for_writing n = plain 9 n site

-- the buffer is too short to fetch a sheet: the sheet's length
abbrev pub short_for_fetching : ℕ → Refusal
short_for_fetching n = plain 9 n channel

-- the addressee is not another site of the group: the addressee
abbrev pub bad_addressee : ℕ → Refusal
bad_addressee k = plain 10 k site

-- too little is supplied for a ring, for lists or for a mailbox: how much is supplied
abbrev pub too_few : Layer → ℕ → Refusal
too_few l n = plain 12 n l

-- the sheet credits us with more than our own row: the lowest such origin
abbrev pub beyond_own_row : ℕ → Refusal
beyond_own_row u = plain 20 u site

-- the log would exceed a limit: the lowest origin that would have too many, else 0
abbrev pub log_full : ℕ → Refusal
log_full u = plain 21 u store

-- the calendar would have too many entries: how many
abbrev pub calendar_full : ℕ → Refusal
calendar_full n = plain 22 n calendar

-- no entry that can be struck has the stamp: the stamp's number
abbrev pub no_entry : ℕ → Refusal
no_entry n = plain 23 n calendar

-- the last event is used
abbrev pub events_used : Refusal
events_used = plain 24 1000000 site

-- the record's number is not above those held of its origin: the highest held
abbrev pub not_above : ℕ → Refusal
not_above n = plain 25 n store
