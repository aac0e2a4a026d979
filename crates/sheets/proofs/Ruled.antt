-- A sheet is judged as the rules judge it: the refusals differ only in what they say is wrong.
use Rattle.std.proofs.Common.{◌≡◌, ℕ, Bool, true, false, not, ◌&&◌, eqb, leb, List, [], ◌∷◌, length, get_or, Some, None, Ok, Err, Option, Result, refl, ◌∙◌, arith}
use Rattle.std.proofs.lemmas.Bool.{ltb-false, or_parts}
use Rattle.rules.specs.Results.{◌>>=◌, require, none_of, refused_as, first}
use Rattle.rules.specs.Refusals.{Refusal, ends_early, bad_table, bytes_behind}
use Rattle.rules.specs.Numbers.{at32}
use Rattle.rules.specs.Stamps.{Stamp, within}
use Rattle.rules.specs.Records.{Body, Record}
use Rattle.rules.specs.Tables.{Table}
use Rattle.rules.specs.Sheets.{Sheet, cells, stamps, place_of, front_length}
use Rattle.rules.specs.Reading.{table_at, bad_number, head_read, own_checked, ahead, record_at, records_at, records_read, read}
use Rattle.rules.proofs.Searching.{none_found}
use Rattle.rules.proofs.Sequences.{in_runs}
use Rattle.rules.proofs.Tables.{inside, same_restricted}
use Rattle.kinds.specs.Formats.{Format, rule_of}
use Rattle.readers.specs.declared.refusal.HeadByte.TheVariants.{Version, Sites, Writer, Addressee, Kind}
use Rattle.readers.specs.declared.refusal.SheetRefusal.{SheetRefusal}
use Rattle.readers.specs.declared.refusal.SheetRefusal.TheVariants.{EndsEarly, Head, Table as BadTable, BytesBehind, BeyondOwnRow}
use Rattle.readers.specs.Capped.{capped}
use Rattle.readers.specs.Judged.{record_judged}
use Rattle.readers.specs.Refused.{refusal_of}
use Rattle.readers.proofs.Ruled.{then_as, test_as, record_ruled}
use Rattle.sheets.specs.Judged.{head_judged, ground_of, own_judged, ends_judged, records_judged, sheet_judged}
use Rattle.sheets.specs.Told.{without_records}
use Rattle.sheets.proofs.Again.{uncapped}

head_ruled : (N i code : ℕ) (bs : List ℕ) → refused_as refusal_of (head_judged N i code bs) ≡ head_read N i code bs
head_ruled N i code bs =
    test_as refusal_of (leb 5 (length bs)) (EndsEarly (length bs)) _ _
    (test_as refusal_of (eqb (get_or bs 0 0) 1) (Head Version) _ _
    (test_as refusal_of (eqb (get_or bs 1 0) N) (Head Sites) _ _
    (test_as refusal_of (within N (get_or bs 2 0) && not (eqb (get_or bs 2 0) i)) (Head Writer) _ _
    (test_as refusal_of (eqb (get_or bs 3 0) i) (Head Addressee) _ _
    (test_as refusal_of (eqb (get_or bs 4 0) code) (Head Kind) _ _ refl)))))

none_as : {A X Y : Type 0} (g : X → Y) (o : Option A) (f : A → X) → refused_as g (none_of o f) ≡ none_of o (λ a. g (f a))
none_as g None f = refl
none_as g (Some a) f = refl

own_ruled : (N i : ℕ) (S : Table) (own : Option (ℕ → ℕ)) → refused_as refusal_of (own_judged N i S own) ≡ own_checked N i S own
own_ruled N i S None = refl
own_ruled N i S (Some ours) = none_as refusal_of (ahead N i S ours) (λ c. BeyondOwnRow c.1)

-- the place behind records
abbrev behind : {A X : Type 0} → Result (A × ℕ) X → Result ℕ X
behind (Ok r) = Ok r.1
behind (Err x) = Err x

module _ {E : Type 0} (f : Format E) (N : ℕ) (known : ℕ → ℕ) (bs : List ℕ) where
  behind_then : (s : Stamp) (r : Result (Body E × ℕ) Refusal) (m : ℕ → Result (List (Record E) × ℕ) Refusal) →
      (r >>= λ q. behind (m q.1)) ≡ behind (r >>= λ q. m q.1 >>= λ more. Ok ((s.0, s.1, q.0) ∷ more.0, more.1))
  behind_then s (Ok q) m = inner (m q.1)
    where
      inner : (o : Result (List (Record E) × ℕ) Refusal) → behind o ≡ behind (o >>= λ more. Ok ((s.0, s.1, q.0) ∷ more.0, more.1))
      inner (Ok more) = refl
      inner (Err x) = refl
  behind_then s (Err x) m = refl

  ends_ruled : (ss : List Stamp) (at : ℕ) → refused_as refusal_of (ends_judged f N known bs ss at) ≡ behind (records_at (rule_of f) N known bs ss at)
  ends_ruled [] at = refl
  ends_ruled (s ∷ ss) at =
      then_as refusal_of (record_judged f N known bs at) _ (record_at (rule_of f) N known bs at) (λ q. behind (records_at (rule_of f) N known bs ss q.1))
      (record_ruled f N known bs at) (λ r. ends_ruled ss r.1)
      ∙ behind_then s (record_at (rule_of f) N known bs at) (records_at (rule_of f) N known bs ss)

-- records that are judged, and what they give with the rest of a sheet
module _ {E : Type 0} (f : Format E) (N k i : ℕ) (S : Table) (bs : List ℕ) where
  abbrev said : List (Record E) → Result (Sheet E) Refusal
  said rs = Ok (record { writer = k; addressee = i; table = S; records = rs })

  abbrev pair : ℕ × Table
  pair = (k, S)

  ended : (m : Result (List (Record E) × ℕ) Refusal) →
      ((behind m >>= λ end. require (eqb end (length bs)) (bytes_behind end)) >>= λ _. Ok pair)
      ≡ without_records ((m >>= λ got. require (eqb got.1 (length bs)) (bytes_behind got.1) >>= λ _. Ok got.0) >>= said)
  ended (Ok got) = by (eqb got.1 (length bs))
    where
      by : (b : Bool) →
          (require b (bytes_behind got.1) >>= λ _. Ok pair)
          ≡ without_records ((require b (bytes_behind got.1) >>= λ _. Ok got.0) >>= said)
      by true = refl
      by false = refl
  ended (Err x) = refl

  records_ruled :
      refused_as refusal_of (records_judged f N (S k) bs (stamps N k i S) (front_length N) >>= λ _. Ok pair)
      ≡ without_records (records_read (rule_of f) N k i S bs >>= said)
  records_ruled =
      let ss = stamps N k i S in
      let at = front_length N in
      then_as refusal_of (records_judged f N (S k) bs ss at) (λ _. Ok pair)
      (behind (records_at (rule_of f) N (S k) bs ss at) >>= λ end. require (eqb end (length bs)) (bytes_behind end)) (λ _. Ok pair)
      (then_as refusal_of (ends_judged f N (S k) bs ss at) (λ end. require (eqb end (length bs)) (BytesBehind end))
      (behind (records_at (rule_of f) N (S k) bs ss at)) (λ end. require (eqb end (length bs)) (bytes_behind end))
      (ends_ruled f N (S k) bs ss at) (λ end. tested (eqb end (length bs)) end))
      (λ _. refl)
      ∙ ended (records_at (rule_of f) N (S k) bs ss at)
    where
      tested : (b : Bool) (end : ℕ) → refused_as refusal_of (require b (BytesBehind end)) ≡ require b (bytes_behind end)
      tested true end = refl
      tested false end = refl

without_then : {A E : Type 0} (m : Result A Refusal) (h : A → Result (Sheet E) Refusal) →
    (m >>= λ a. without_records (h a)) ≡ without_records (m >>= h)
without_then (Ok a) h = refl
without_then (Err x) h = refl

module _ {E : Type 0} (f : Format E) (N i : ℕ) (own : Option (ℕ → ℕ)) (bs : List ℕ) where
  -- a table without a bad number has none that is capped
  low : (k : ℕ) → first (bad_number (table_at N bs) k) (cells N) ≡ None → ◌≡◌ {A = Table} (λ a. capped (table_at N bs a)) (table_at N bs)
  low k e =
      let S = table_at N bs in
      let T : Table = λ r u. at32 bs (place_of N r u) in
      uncapped N S (same_restricted N S T (λ r u hr hu. inside N T r u hr hu))
      (λ r u hr hu.
      ltb-false 1000000 (S r u)
      (or_parts _ _
      (none_found (bad_number S k) (cells N) e (r, u) (in_runs (λ _. 1) (λ _. N) 1 N r u hr.0 (omega arith) hu.0 (omega arith)))).0)

  abbrev S : Table
  S = table_at N bs

  abbrev after_own : ℕ → Result (ℕ × Table) SheetRefusal
  after_own k = records_judged f N (capped (S k)) bs (stamps N k i (λ a. capped (S a))) (front_length N) >>= λ _. Ok (pair f N k i S bs)

  -- behind the head
  rest : (k : ℕ) (b : Bool) (o : Option (ℕ × ℕ)) → first (bad_number S k) (cells N) ≡ o →
      refused_as refusal_of
      (require b (EndsEarly (length bs)) >>= λ _.
      none_of o (λ c. BadTable (place_of N c.0 c.1) (ground_of S k c)) >>= λ _. own_judged N i S own >>= λ _. after_own k)
      ≡ without_records
      ((require b (ends_early (length bs)) >>= λ _. none_of o (λ c. bad_table (place_of N c.0 c.1)) >>= λ _. Ok S) >>= λ T.
      own_checked N i T own >>= λ _. records_read (rule_of f) N k i T bs >>= said f N k i T bs)
  rest k false o e = refl
  rest k true (Some c) e = refl
  rest k true None e =
      then_as refusal_of (own_judged N i S own) (λ _. after_own k) (own_checked N i S own)
      (λ _. without_records (records_read (rule_of f) N k i S bs >>= said f N k i S bs)) (own_ruled N i S own)
      (λ _.
      (λ j. refused_as refusal_of (records_judged f N (low k e j k) bs (stamps N k i (low k e j)) (front_length N) >>= λ _. Ok (pair f N k i S bs)))
      ∙ records_ruled f N k i S bs)
      ∙ without_then (own_checked N i S own) (λ _. records_read (rule_of f) N k i S bs >>= said f N k i S bs)

  pub sheet_ruled : refused_as refusal_of (sheet_judged f N i own bs) ≡ without_records (read (rule_of f) N i own bs)
  sheet_ruled =
      then_as refusal_of (head_judged N i f.code bs) _ (head_read N i f.code bs) _ (head_ruled N i f.code bs)
      (λ k. rest k (leb (front_length N) (length bs)) (first (bad_number S k) (cells N)) refl)
      ∙ without_then (head_read N i f.code bs) _
