-- What a sheet can say is read back from its bytes.
-- Assumes nothing.
use Rattle.std.proofs.Common.{◌≡◌, ℕ, suc, ◌*◌, ◌≤◌, not, ◌&&◌, eqb, ltb, leb, List, [], ◌∷◌, ◌++◌, length, drop, Some, None, Ok, Option, sym, refl, ap, ◌∙◌, arith}
use mathlib.Core.List.{Memᴰ}
use Rattle.std.proofs.lemmas.List.{length-append, drop_at}
use Rattle.std.proofs.lemmas.Bool.{le-leb, le-ltb, eq-eqb, ne_eqb, and_from, not_from_false}
use Rattle.std.specs.List.{flat_map}
use Rattle.rules.specs.Results.{none_of}
use Rattle.rules.specs.Refusals.{bad_head, beyond_own_row, bytes_behind, ends_early}
use Rattle.rules.specs.Stamps.{within, Within}
use Rattle.rules.specs.Records.{Body, booked, struck}
use Rattle.rules.specs.Kinds.{Kind, LawfulKind}
use Rattle.rules.specs.Tables.{restricted}
use Rattle.rules.specs.Sheets.{run, stamps, table_bytes, front_length, record_bytes, written, Sheet}
use Rattle.rules.specs.Reading.{head_read, table_read, own_checked, records_at, records_read, read}
use Rattle.rules.specs.Fits.{Fit, Reaches}
use Rattle.rules.proofs.Refusing.{passes, then_ok}
use Rattle.rules.proofs.Searching.{first_none}
use Rattle.rules.proofs.Sequences.{run_in}
use Rattle.rules.proofs.Tables.{within_true, inside, rows_long, table_reads, same-table_bytes}
use Rattle.rules.proofs.Bodies.{Known, AllKnown, records_all}

head_reads : (N k i code : ℕ) (t : List ℕ) → Within N k → (i ≡ k → ⊥) → head_read N i code (1 ∷ N ∷ k ∷ i ∷ code ∷ t) ≡ Ok k
head_reads N k i code t hk other =
    let bs = 1 ∷ N ∷ k ∷ i ∷ code ∷ t in
    let long : 5 ≤ length bs = omega arith in
    passes (leb 5 (length bs)) (ends_early (length bs)) _ _ (le-leb 5 (length bs) long)
    (passes (eqb N N) (bad_head 1) _ _ (eq-eqb N N refl)
    (passes (within N k && not (eqb k i)) (bad_head 2) _ _
    (and_from (within N k) (not (eqb k i)) (within_true N k hk) (not_from_false (eqb k i) (ne_eqb k i (λ e. other (sym e)))))
    (passes (eqb i i) (bad_head 3) _ _ (eq-eqb i i refl) (passes (eqb code code) (bad_head 4) _ _ (eq-eqb code code refl) refl))))

pub own_passes : (N i : ℕ) (S : ℕ → ℕ → ℕ) (own : Option (ℕ → ℕ)) → Reaches N (S i) own → own_checked N i S own ≡ Ok tt
own_passes N i S None h = refl
own_passes N i S (Some ours) h =
    ap (λ o. none_of o (λ (c : ℕ × ℕ). beyond_own_row c.1))
    (first_none (λ c. ltb (ours c.1) (S c.0 c.1)) (run i 1 N)
    (λ c m.
    let w = run_in i 1 N c m in
    ap (λ a. ltb (ours c.1) (S a c.1)) w.0 ∙ le-ltb (ours c.1) (S i c.1) (h c.1 (w.1, omega arith))))

module _ {E : Type 0} where
  known_from : (N : ℕ) (known : ℕ → ℕ) (log : List (ℕ × ℕ × Body E)) →
      ((u n v m : ℕ) → Memᴰ (u, n, struck v m) log → Within N v × (1 ≤ m) × (m ≤ known v)) →
      (u n : ℕ) (b : Body E) → Memᴰ (u, n, b) log → Known N known b
  known_from N known log h u n (booked e) m = tt
  known_from N known log h u n (struck v k) m = h u n v k m

  all_known : (N : ℕ) (known : ℕ → ℕ) (rs : List (ℕ × ℕ × Body E)) →
      ((r : ℕ × ℕ × Body E) → Memᴰ r rs → Known N known r.2) → AllKnown N known rs
  all_known N known [] h = tt
  all_known N known (r ∷ rs) h = (h r (Memᴰ.head refl), all_known N known rs (λ x m. h x (Memᴰ.tail m)))

-- what can be said is read from its sheet
module _
    {E : Type 0} (K : Kind E) (L : LawfulKind K) (N i : ℕ) (own : Option (ℕ → ℕ)) (p : Sheet E) (F : Fit N i own p) where
  all_read :
      records_read K N p.writer i p.table (written K N p.writer i p.table p.records) ≡ Ok p.records
  all_read =
      let k = p.writer in
      let S = p.table in
      let bs = written K N k i S p.records in
      let tb = table_bytes N S in
      let js = flat_map (record_bytes K) p.records in
      let x = rows_long S N 1 N in
      let y = length-append tb js in
      let at : front_length N ≤ length bs = omega arith in
      let z : front_length N ≡ suc (suc (suc (suc (suc (4 * (N * N)))))) = omega arith in
      let d : drop (front_length N) bs ≡ js = ap (λ n. drop n bs) z ∙ drop_at tb js (4 * (N * N)) x in
      let g : AllKnown N (S k) p.records =
      all_known N (S k) p.records (λ r m. known_from N (S k) p.records F.strikes r.0 r.1 r.2 m) in
      let a = records_all K L N (S k) F.small bs p.records (front_length N) at d g in
      then_ok (records_at K N (S k) bs (stamps N k i S) (front_length N)) (p.records, length bs) _ _
      (ap (λ ss. records_at K N (S k) bs ss (front_length N)) (sym F.stamped) ∙ a)
      (passes (eqb (length bs) (length bs)) (bytes_behind (length bs)) _ _ (eq-eqb (length bs) (length bs) refl) refl)

  pub fit_read : read K N i own (written K N p.writer i p.table p.records) ≡ Ok p
  fit_read =
      let k = p.writer in
      let S = p.table in
      let bs = written K N k i S p.records in
      then_ok (head_read N i K.code bs) k _ _ (head_reads N k i K.code _ F.writer F.other)
      (then_ok (table_read N k bs) S _ _
      (table_reads N k S 1 N k i K.code (flat_map (record_bytes K) p.records) F.writer F.tops F.owned F.small
      ∙ ap Ok F.outside)
      (then_ok (own_checked N i S own) tt _ _ (own_passes N i S own F.reached)
      (then_ok (records_read K N k i S bs) p.records _ _ all_read
      (ap (λ a. Ok (record { writer = k; addressee = a; table = S; records = p.records })) (sym F.addressee)))))

-- a sheet of the restricted table is one of the table
pub restricted_written : {E : Type 0} (K : Kind E) (N k i : ℕ) (T : ℕ → ℕ → ℕ) (rs : List (ℕ × ℕ × Body E)) →
    written K N k i T rs ≡ written K N k i (restricted N T) rs
restricted_written K N k i T rs =
    ap (λ tb. 1 ∷ N ∷ k ∷ i ∷ K.code ∷ (tb ++ flat_map (record_bytes K) rs))
    (same-table_bytes N T (restricted N T) (λ r u hr hu. sym (inside N T r u hr hu)))
