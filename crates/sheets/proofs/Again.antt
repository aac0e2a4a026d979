-- What was read of a sheet is read again.
use Rattle.std.proofs.Common.{◌≡◌, ℕ, ◌≤◌, ◌&&◌, eqb, List, [], ◌∷◌, length, IfOk, Ok, Err, Option, Result, refl, ap, ◌∙◌, arith}
use Rattle.std.proofs.lemmas.Bool.{cond_both, and_parts}
use Rattle.rules.specs.Results.{◌>>=◌}
use Rattle.rules.specs.Refusals.{Refusal, bytes_behind}
use Rattle.rules.specs.Kinds.{Kind}
use Rattle.rules.specs.Stamps.{Stamp, Within, within}
use Rattle.rules.specs.Records.{Body, Record}
use Rattle.rules.specs.Tables.{Table, restricted}
use Rattle.rules.specs.Sheets.{Sheet, stamps, front_length}
use Rattle.rules.specs.Reading.{head_read, table_read, own_checked, record_at, records_at, records_read, read}
use Rattle.rules.proofs.Refusing.{by_test, by_step, made_at}
use Rattle.rules.proofs.Fitting.{Said, read_fits}
use Rattle.rules.proofs.Tables.{true_within}
use Rattle.readers.specs.Capped.{capped}
use Rattle.sheets.specs.Coming.{more, read_all}

module _ {E : Type 0} where
  abbrev rows_of : Result (List (Record E) × ℕ) Refusal → List (Record E)
  rows_of (Ok q) = q.0
  rows_of (Err x) = []

  abbrev put_on : Stamp → Body E × ℕ → List (Record E) × ℕ → Result (List (Record E) × ℕ) Refusal
  put_on s r q = Ok ((s.0, s.1, r.0) ∷ q.0, q.1)

  inner : (s : Stamp) (r : Body E × ℕ) (m : Result (List (Record E) × ℕ) Refusal) (b rs : List (Record E)) (end : ℕ) →
      ((qs : List (Record E)) (e : ℕ) → m ≡ Ok (qs, e) → b ≡ qs) →
      (m >>= put_on s r) ≡ Ok (rs, end) → ((s.0, s.1, r.0) ∷ b) ≡ rs
  inner s r (Ok q) b rs end f e = ap (λ (l : List (Record E)). (s.0, s.1, r.0) ∷ l) (f q.0 q.1 refl) ∙ ap rows_of e
  inner s r (Err x) b rs end f e = let z : ◌≡◌ {A = ℕ} 0 1 = cc in absurd (omega arith)

  outer : (s : Stamp) (o : Result (Body E × ℕ) Refusal) (f : ℕ → List (Record E)) (m : ℕ → Result (List (Record E) × ℕ) Refusal) (rs : List (Record E)) (end : ℕ) →
      ((at : ℕ) (qs : List (Record E)) (e : ℕ) → m at ≡ Ok (qs, e) → f at ≡ qs) →
      (o >>= λ r. m r.1 >>= put_on s r) ≡ Ok (rs, end) → more s f o ≡ rs
  outer s (Ok r) f m rs end g e = inner s r (m r.1) (f r.1) rs end (g r.1) e
  outer s (Err x) f m rs end g e = let z : ◌≡◌ {A = ℕ} 0 1 = cc in absurd (omega arith)

  again : (K : Kind E) (N : ℕ) (known : ℕ → ℕ) (bs : List ℕ) (ss : List Stamp) (at : ℕ) (rs : List (Record E)) (end : ℕ) →
      records_at K N known bs ss at ≡ Ok (rs, end) → read_all K N known bs ss at ≡ rs
  again K N known bs [] at rs end e = ap rows_of e
  again K N known bs (s ∷ ss) at rs end e =
      outer s (record_at K N known bs at) (read_all K N known bs ss) (records_at K N known bs ss) rs end (λ k qs f h. again K N known bs ss k qs f h) e

-- a table with no number above 1,000,000 in the group and 0 outside has none that is capped
pub uncapped : (N : ℕ) (S : Table) → restricted N S ≡ S → ((r u : ℕ) → Within N r → Within N u → S r u ≤ 1000000) →
    ◌≡◌ {A = Table} (λ a. capped (S a)) S
uncapped N S e h = λ j a u. at a u j
  where
    low : (a u : ℕ) → restricted N S a u ≤ 1000000
    low a u =
        cond_both (within N a && within N u) (S a u) 0 (λ x. x ≤ 1000000)
        (λ t. let p = and_parts (within N a) (within N u) t in h a u (true_within N a p.0) (true_within N u p.1))
        (λ _. omega arith)

    at : (a u : ℕ) → capped (S a) u ≡ S a u
    at a u = let l = low a u in let x = ap (λ (T : Table). T a u) e in omega arith

module _ {E : Type 0} (K : Kind E) (N i : ℕ) (own : Option (ℕ → ℕ)) (bs : List ℕ) where
  abbrev Again : Sheet E → Type 0
  Again p = read_all K N (p.table p.writer) bs (stamps N p.writer i p.table) (front_length N) ≡ p.records

  records_again : (k : ℕ) (S : Table) → IfOk (records_read K N k i S bs) (λ rs. read_all K N (S k) bs (stamps N k i S) (front_length N) ≡ rs)
  records_again k S =
      let P : List (Record E) → Type 0 = λ rs. read_all K N (S k) bs (stamps N k i S) (front_length N) ≡ rs in
      by_step (records_at K N (S k) bs (stamps N k i S) (front_length N)) _ P λ got e.
      by_test (eqb got.1 (length bs)) (bytes_behind got.1) _ P λ _.
      again K N (S k) bs (stamps N k i S) (front_length N) got.0 got.1 e

  read_made : IfOk (read K N i own bs) Again
  read_made =
      by_step (head_read N i K.code bs) _ Again λ k _.
      by_step (table_read N k bs) _ Again λ S _.
      by_step (own_checked N i S own) _ Again λ _ _.
      by_step (records_read K N k i S bs) _ Again λ rs e.
      made_at (records_read K N k i S bs) _ rs (records_again k S) e

  -- a walk over the stamps of the capped table reads the records of a sheet that can be read
  pub read_again : (p : Sheet E) → read K N i own bs ≡ Ok p →
      read_all K N (capped (p.table p.writer)) bs (stamps N p.writer i (λ a. capped (p.table a))) (front_length N) ≡ p.records
  read_again p e =
      let F = (made_at (read K N i own bs) (Said K N i bs own) p (read_fits K N i bs own) e).0 in
      let u = uncapped N p.table F.outside (λ r u hr hu. let a = F.tops r u hr hu in let b = F.small u hu in omega arith) in
      (λ j. read_all K N (u j p.writer) bs (stamps N p.writer i (u j)) (front_length N))
      ∙ made_at (read K N i own bs) Again p read_made e
