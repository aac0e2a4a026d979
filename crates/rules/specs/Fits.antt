-- What a sheet can say, and that bytes are read exactly if they are the sheet of something that can be said.
-- Assumes nothing.
use Rattle.std.specs.Prelude.{◌≡◌, ℕ, ◌≤◌, ◌↔◌, List, map, Some, None, Ok, Option}
use Rattle.rules.specs.Stamps.{◌∈◌, Within, Stamp}
use Rattle.rules.specs.Records.{struck, Record}
use Rattle.rules.specs.Kinds.{Bytes, Kind, LawfulKind}
use Rattle.rules.specs.Tables.{restricted}
use Rattle.rules.specs.Sheets.{Sheet, stamps, written}
use Rattle.rules.specs.Reading.{read}

-- the stamp of a record
abbrev pub stamp : {E : Type 0} → Record E → Stamp
stamp r = (r.0, r.1)

-- a sheet credits its addressee with no more than the addressee's own row has, where this is at hand
abbrev pub Reaches : (N : ℕ) (theirs : ℕ → ℕ) → Option (ℕ → ℕ) → Type 0
Reaches N theirs None = Unit {0}
Reaches N theirs (Some ours) = (u : ℕ) → Within N u → theirs u ≤ ours u

-- what a sheet for site i of N can say, whose own row may be at hand
pub record Fit {E : Type 0} (N i : ℕ) (own : Option (ℕ → ℕ)) (p : Sheet E) : Type 0 where
  pub addressee : p.addressee ≡ i
  pub writer : Within N p.writer
  pub other : i ≡ p.writer → ⊥
  -- the table has 0 outside the group; no row has more than the writer's, and each site's own number is the writer's
  pub outside : restricted N p.table ≡ p.table
  pub tops : (r u : ℕ) → Within N r → Within N u → p.table r u ≤ p.table p.writer u
  pub owned : (u : ℕ) → Within N u → p.table u u ≡ p.table p.writer u
  pub small : (u : ℕ) → Within N u → p.table p.writer u ≤ 1000000
  pub reached : Reaches N (p.table i) own
  -- the records are those of the events that the writer has and the table does not credit i with; they strike what the writer knows
  pub stamped : map stamp p.records ≡ stamps N p.writer i p.table
  pub strikes : (u n v m : ℕ) → (u, n, struck v m) ∈ p.records → Within N v × (1 ≤ m) × (m ≤ p.table p.writer v)

-- bytes are read exactly if they are the sheet of what can be said, and then as just that
abbrev pub SheetsReadExactly : Type 0 → Type 0
SheetsReadExactly E =
    (K : Kind E) → LawfulKind K → (N i : ℕ) (own : Option (ℕ → ℕ)) (bs : List ℕ) → Bytes bs → (p : Sheet E) →
    (read K N i own bs ≡ Ok p) ↔ (Fit N i own p × (bs ≡ written K N p.writer i p.table p.records))
