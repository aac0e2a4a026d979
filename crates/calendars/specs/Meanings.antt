-- What a calendar means: its entries and how many there may be, lawful.
-- Assumes nothing.
use Rattle.std.specs.Prelude.{ℕ, ◌≤◌, List, length, Ok, Err, Result}
use Rattle.rules.specs.Refusals.{Refusal}
use Rattle.rules.specs.Stamps.{◌∈◌, Ascending, Possible}
use Rattle.rules.specs.Records.{Entry}
use Rattle.rules.specs.Entries.{join, entries_within}

-- entries in stamp order, with stamps that can exist, and no more than there may be
pub record Lawful {V : Type 0} (entries : List (Entry V)) (room : ℕ) : Type 0 where
  pub ascending : Ascending entries
  pub possible : (e : Entry V) → e ∈ entries → Possible e.0 e.1
  pub within : length entries ≤ room
  pub bound : room ≤ 4096

pub record Meaning (V : Type 0) : Type 0 where
  pub entries : List (Entry V)
  pub room : ℕ
  pub lawful : Lawful entries room

-- what a call leaves: the changed entries, or the old ones if it is refused
abbrev pub left : {A B X : Type 0} → A → A → Result B X → A
left old new (Ok b) = new
left old new (Err x) = old

-- what joining answers: 22 if there would be too many
abbrev pub join_answer : {V : Type 0} → Meaning V → Entry V → Result (Unit {0}) Refusal
join_answer m e = entries_within m.room (join e m.entries)

-- the entries after it
abbrev pub join_entries : {V : Type 0} → Meaning V → Entry V → List (Entry V)
join_entries m e = left m.entries (join e m.entries) (join_answer m e)
