-- Sheets: what a site writes for another, and its bytes.
--   byte 0: 1, the version; bytes 1 to 4: N, the writer, the addressee, the kind's code;
--   from 5: the table, row after row, four bytes a number; then the records, without their stamps.
-- Assumes nothing.
use Rattle.std.specs.Prelude.{ℕ, zero, suc, ◌+◌, ◌-◌, ◌*◌, List, [], ◌∷◌, ◌++◌}
use Rattle.std.specs.List.{flat_map}
use Rattle.rules.specs.Numbers.{be32}
use Rattle.rules.specs.Stamps.{Stamp}
use Rattle.rules.specs.Records.{Body, booked, struck, Record}
use Rattle.rules.specs.Kinds.{Kind}
use Rattle.rules.specs.Tables.{Table}

-- what a sheet says: from whom, for whom, the writer's whole table, and records
pub record Sheet (E : Type 0) : Type 0 where
  pub writer : ℕ
  pub addressee : ℕ
  pub table : Table
  pub records : List (Record E)

-- the stamps u.n, u.(n + 1) and so on, m of them
abbrev pub run : (u n m : ℕ) → List Stamp
run u n zero = []
run u n (suc m) = (u, n) ∷ run u (n + 1) m

-- for each of m sites, from u on, a run of its stamps: from which number on, and how many
abbrev pub runs : (from count : ℕ → ℕ) → (u m : ℕ) → List Stamp
runs from count u zero = []
runs from count u (suc m) = run u (from u) (count u) ++ runs from count (u + 1) m

-- the stamps of the records on a sheet from k for i with the table S: of each origin u the numbers S i u + 1 to S k u
abbrev pub stamps : (N k i : ℕ) → Table → List Stamp
stamps N k i S = runs (λ u. S i u + 1) (λ u. S k u - S i u) 1 N

-- the places of the table, row after row: site and origin
abbrev pub cells : ℕ → List (ℕ × ℕ)
cells N = runs (λ _. 1) (λ _. N) 1 N

-- at which byte the number for site k and origin u stands
abbrev pub place_of : (N k u : ℕ) → ℕ
place_of N k u = 5 + 4 * ((k - 1) * N + (u - 1))

-- at which byte the records begin
abbrev pub front_length : ℕ → ℕ
front_length N = 5 + 4 * (N * N)

-- the bytes of the table S in the group of N
abbrev pub table_bytes : ℕ → Table → List ℕ
table_bytes N S = flat_map (λ c. be32 (S c.0 c.1)) (cells N)

module _ {E : Type 0} (K : Kind E) where
  -- the bytes of what an event does: 1 and the entry's bytes, or 2, the struck site and four bytes of the struck number
  abbrev pub body_bytes : Body E → List ℕ
  body_bytes (booked e) = 1 ∷ K.encoded e
  body_bytes (struck v m) = 2 ∷ v ∷ be32 m

  -- the bytes of a record: it carries no stamp
  abbrev pub record_bytes : Record E → List ℕ
  record_bytes r = body_bytes r.2

  -- the bytes of the sheet from k for i in a group of N, with the table S and these records
  abbrev pub written : (N k i : ℕ) → Table → List (Record E) → List ℕ
  written N k i S rs = 1 ∷ N ∷ k ∷ i ∷ K.code ∷ (table_bytes N S ++ flat_map record_bytes rs)
