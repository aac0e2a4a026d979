-- What holds of every site, whatever it is handed, and what its sheets say.
-- Assumes nothing.
use Rattle.std.specs.Prelude.{◌≡◌, ℕ, ◌≤◌, ◌↔◌, List, length, Ok, Option, ◌≢◌}
use Rattle.rules.specs.Stamps.{◌∈◌, Within, Ascending}
use Rattle.rules.specs.Records.{Body, struck, Record, Entry}
use Rattle.rules.specs.Kinds.{LawfulKind}
use Rattle.rules.specs.Stores.{count_of}
use Rattle.rules.specs.Tables.{Credited}
use Rattle.rules.specs.Reading.{read}
use Rattle.rules.specs.Sites.{Setting, State, make, sheet_for, book, strike, after_writing, sheet_bytes, accept}
use Rattle.rules.specs.Fits.{Reaches, SheetsReadExactly}

-- two to eight sites, this one among them, and a lawful kind
pub record LawfulSetting {E : Type 0} (S : Setting E) : Type 0 where
  pub group : (2 ≤ S.sites) × (S.sites ≤ 8)
  pub member : Within S.sites S.own
  pub kind : LawfulKind S.kind

-- what holds of a site's state
pub record Sound {E : Type 0} (S : Setting E) (s : State E) : Type 0 where
  -- the table has 0 outside the group
  pub outside : (k u : ℕ) → (Within S.sites k × Within S.sites u → ⊥) → s.table k u ≡ 0
  -- no row has more than the own row, and each site is credited with all its own events that are known here
  pub tops : (k u : ℕ) → s.table k u ≤ s.table S.own u
  pub owned : (u : ℕ) → s.table u u ≡ s.table S.own u
  -- no event number is above 1,000,000
  pub small : (u : ℕ) → s.table S.own u ≤ 1000000
  -- the log has exactly one record of each event that the own row credits, and that not every row credits
  pub log_order : Ascending s.log
  pub logged : (u n : ℕ) →
      ((b : Body E) × ((u, n, b) ∈ s.log)) ↔ ((n ≤ s.table S.own u) × (Credited S.sites s.table u n → ⊥))
  -- a struck stamp is one of the group, and known here
  pub struck_known : (u n v m : ℕ) → (u, n, struck v m) ∈ s.log →
      Within S.sites v × (1 ≤ m) × (m ≤ s.table S.own v)
  -- the log is within the store's limits
  pub log_fits : length s.log ≤ S.limits.in_all
  pub origin_fits : (u : ℕ) → Within 8 u → count_of u s.log ≤ S.limits.of_one
  -- the calendar is in stamp order, and has no more entries than it can hold
  pub entries_order : Ascending s.entries
  pub entries_fit : length s.entries ≤ S.room

-- the setting of a call that is handed a calendar with so much room
abbrev pub with_room : {E : Type 0} → ℕ → Setting E → Setting E
with_room D S = record { sites = S.sites; own = S.own; kind = S.kind; limits = S.limits; room = D }

-- the state of a site that is handed a calendar with these entries
abbrev pub with_entries : {E : Type 0} → List (Entry E) → State E → State E
with_entries es s = record { table = s.table; log = s.log; entries = es }

-- a site is sound when it is made, whatever its store and its calendar held, and after each call, whatever bytes it is handed;
-- and it stays so when it is handed another calendar
pub record SitesStaySound (E : Type 0) : Type 0 where
  pub making : (S : Setting E) (rs : List (Record E)) (es : List (Entry E)) → Sound S (make rs es)
  pub handed : (S : Setting E) (s : State E) (D : ℕ) (es : List (Entry E)) → Sound S s → Ascending es → length es ≤ D →
      Sound (with_room D S) (with_entries es s)
  pub booking : (S : Setting E) → LawfulSetting S → (s : State E) (e : E) → Sound S s → Sound S (book S s e).1
  pub striking : (S : Setting E) → LawfulSetting S → (s : State E) (v m : ℕ) → 1 ≤ m → Sound S s → Sound S (strike S s v m).1
  pub writing : (S : Setting E) (s : State E) (k : ℕ) → Sound S s → Sound S (after_writing S s k)
  pub accepting : (S : Setting E) → LawfulSetting S → (s : State E) (bs : List ℕ) → Sound S s → Sound S (accept S s bs).1

-- what a sound site writes for i is read there as the writer, its table, and its log's records that the table does not credit i with
pub record SheetsTell (E : Type 0) : Type 0 where
  pub read_back : (S : Setting E) → LawfulSetting S → (s : State E) (i : ℕ) → Sound S s →
      Within S.sites i → (i ≢ S.own) → (ours : Option (ℕ → ℕ)) → Reaches S.sites (s.table i) ours →
      read S.kind S.sites i ours (sheet_bytes S s i) ≡ Ok (sheet_for S.sites S.own i s)
  -- two states have the same bytes for i exactly if these are the same
  pub apart : (S : Setting E) → LawfulSetting S → (s t : State E) (i : ℕ) → Sound S s → Sound S t →
      Within S.sites i → (i ≢ S.own) →
      sheet_bytes S s i ≡ sheet_bytes S t i ↔ sheet_for S.sites S.own i s ≡ sheet_for S.sites S.own i t
  -- bytes are read exactly if they are the sheet of something that a sheet can say
  pub exactly : SheetsReadExactly E
