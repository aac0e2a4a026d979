-- What is read can be said, whatever the bytes are.
-- Assumes nothing.
use Rattle.std.proofs.Common.{◌≡◌, ℕ, ◌+◌, ◌≤◌, Bool, false, not, ◌&&◌, ◌||◌, eqb, ltb, leb, List, [], ◌∷◌, map, length, get_or, IfOk, Some, None, Ok, Option, sym, refl, ap, subst, inl, inr, arith}
use mathlib.Core.List.Memᴰ
use mathlib.Core.List.{Memᴰ}
use Rattle.std.proofs.lemmas.Bool.{leb-true, ltb-false, eqb-true, eqb-false, and_parts, or_parts, and_cases, not-true, not-false}
use Rattle.rules.specs.Results.{refused_as, first}
use Rattle.rules.specs.Refusals.{ends_early, bad_head, bad_table, bad_record, bad_entry_at, bytes_behind, beyond_own_row}
use Rattle.rules.specs.Numbers.{at32}
use Rattle.rules.specs.Stamps.{Stamp, within, Within}
use Rattle.rules.specs.Records.{Body, struck, Record}
use Rattle.rules.specs.Kinds.{Kind}
use Rattle.rules.specs.Tables.{Table, restricted}
use Rattle.rules.specs.Sheets.{Sheet, run, cells, stamps, place_of, front_length}
use Rattle.rules.specs.Reading.{table_at, bad_number, head_read, table_checked, table_read, own_checked, Part, entry_part, stamp_part, part_at, body_of, record_at, records_at, records_read, read}
use Rattle.rules.specs.Fits.{stamp, Reaches, Fit}
use Rattle.rules.proofs.Refusing.{then_ok, by_test, by_step, by_made, made_at, none_ok}
use Rattle.rules.proofs.Searching.{none_found}
use Rattle.rules.proofs.Sequences.{in_run, in_runs}
use Rattle.rules.proofs.Tables.{true_within, inside, same_restricted}
use Rattle.rules.proofs.Bodies.{Known, AllKnown}
use Rattle.rules.proofs.Back.{own_passes}

-- a number that is not bad
good : (S : ℕ → ℕ → ℕ) (k r u : ℕ) → bad_number S k (r, u) ≡ false →
    (S r u ≤ 1000000) × (S r u ≤ S k u) × (r ≡ u → S r u ≡ S k u)
good S k r u e =
    let x = or_parts (ltb 1000000 (S r u)) (ltb (S k u) (S r u) || (eqb r u && not (eqb (S r u) (S k u)))) e in
    let y = or_parts (ltb (S k u) (S r u)) (eqb r u && not (eqb (S r u) (S k u))) x.1 in (
      ltb-false 1000000 (S r u) x.0,
      ltb-false (S k u) (S r u) y.0,
      λ q. elim (and_cases (eqb r u) (not (eqb (S r u) (S k u))) y.1) [
        | inl f ↦ absurd (eqb-false r u f q)
        | inr f ↦ eqb-true (S r u) (S k u) (not-false (eqb (S r u) (S k u)) f)
      ],
    )

-- an own row that the table does not exceed
own_back : (N i : ℕ) (S : ℕ → ℕ → ℕ) (own : Option (ℕ → ℕ)) (t : Unit {0}) → own_checked N i S own ≡ Ok t → Reaches N (S i) own
own_back N i S None t e = tt
own_back N i S (Some ours) t e = λ u h.
    let p : ℕ × ℕ → Bool = λ c. ltb (ours c.1) (S c.0 c.1) in
    ltb-false (ours u) (S i u)
    (none_found p (run i 1 N) (none_ok (first p (run i 1 N)) (λ c. beyond_own_row c.1) t e) (i, u) (in_run i 1 N u h.0 (omega arith)))

-- what is known of all is known of each
known_of : {E : Type 0} (N : ℕ) (known : ℕ → ℕ) (rs : List (ℕ × ℕ × Body E)) → AllKnown N known rs →
    (r : ℕ × ℕ × Body E) → Memᴰ r rs → Known N known r.2
known_of N known [] a r h = absurd (Memᴰ.not-nil h)
known_of {E} N known (x ∷ xs) a r h =
    elim (Memᴰ.cases_cons h) [
      | inl q ↦ subst (λ (y : ℕ × ℕ × Body E). Known N known y.2) (sym q) a.0
      | inr t ↦ known_of N known xs a.1 r t
    ]

module _ {E : Type 0} (K : Kind E) (N i : ℕ) (bs : List ℕ) where
  abbrev Head : ℕ → Type 0
  Head k = Within N k × (i ≡ k → ⊥) × (get_or bs 3 0 ≡ i)

  head_fits : IfOk (head_read N i K.code bs) Head
  head_fits =
      by_test (leb 5 (length bs)) (ends_early (length bs)) _ Head λ a.
      by_test (eqb (get_or bs 0 0) 1) (bad_head 0) _ Head λ b.
      by_test (eqb (get_or bs 1 0) N) (bad_head 1) _ Head λ c.
      by_test (within N (get_or bs 2 0) && not (eqb (get_or bs 2 0) i)) (bad_head 2) _ Head λ d.
      by_test (eqb (get_or bs 3 0) i) (bad_head 3) _ Head λ e.
      by_test (eqb (get_or bs 4 0) K.code) (bad_head 4) _ Head λ f.
      let k = get_or bs 2 0 in
      let w = and_parts (within N k) (not (eqb k i)) d in
      (true_within N k w.0, λ q. eqb-false k i (not-true (eqb k i) w.1) (sym q), eqb-true (get_or bs 3 0) i e)

  abbrev Tabled : ℕ → Table → Type 0
  Tabled k S =
      (restricted N S ≡ S)
      × ((r u : ℕ) → Within N r → Within N u → (S r u ≤ 1000000) × (S r u ≤ S k u) × (r ≡ u → S r u ≡ S k u))

  table_fits : (k : ℕ) → IfOk (table_read N k bs) (Tabled k)
  table_fits k =
      by_test (leb (front_length N) (length bs)) (ends_early (length bs)) _ (Tabled k) λ a.
      by_step (table_checked N k (table_at N bs)) _ (Tabled k) λ t e.
      let S = table_at N bs in
      let f = none_ok (first (bad_number S k) (cells N)) (λ c. bad_table (place_of N c.0 c.1)) t e in (
        same_restricted N S (λ r u. at32 bs (place_of N r u)) (λ r u hr hu. inside N (λ r u. at32 bs (place_of N r u)) r u hr hu),
        λ r u hr hu.
            good S k r u
            (none_found (bad_number S k) (cells N) f (r, u)
            (in_runs (λ _. 1) (λ _. N) 1 N r u hr.0 (omega arith) hu.0 (omega arith))),
      )

  module _ (known : ℕ → ℕ) where
    abbrev One : Body E × ℕ → Type 0
    One r = Known N known r.0

    body_fits : (p : Part) → IfOk (body_of K N known p) (λ b. Known N known b)
    body_fits (entry_part xs at) =
        by_step (refused_as (bad_entry_at at) (K.decoded xs)) _ (λ b. Known N known b) λ e q. tt
    body_fits (stamp_part xs at) =
        by_test (within N (get_or xs 0 0)) (bad_record at) _ (λ b. Known N known b) λ site.
        by_test (leb 1 (at32 xs 1) && leb (at32 xs 1) (known (get_or xs 0 0))) (bad_record (at + 1)) _ (λ b. Known N known b) λ num.
        let n = and_parts (leb 1 (at32 xs 1)) (leb (at32 xs 1) (known (get_or xs 0 0))) num in
        (true_within N (get_or xs 0 0) site, leb-true 1 (at32 xs 1) n.0, leb-true (at32 xs 1) (known (get_or xs 0 0)) n.1)

    record_fits : (at : ℕ) → IfOk (record_at K N known bs at) One
    record_fits at =
        by_step (part_at K.width bs at) _ One λ p _.
        by_made (body_of K N known p.0) _ (λ b. Known N known b) One (body_fits p.0) λ b k. k

    abbrev Several : List Stamp → List (Record E) × ℕ → Type 0
    Several ss r = (map stamp r.0 ≡ ss) × AllKnown N known r.0

    records_fit : (ss : List Stamp) (at : ℕ) → IfOk (records_at K N known bs ss at) (Several ss)
    records_fit [] at = (refl, tt)
    records_fit (s ∷ ss) at =
        by_made (record_at K N known bs at) _ One (Several (s ∷ ss)) (record_fits at) λ r p.
        by_made (records_at K N known bs ss r.1) _ (Several ss) (Several (s ∷ ss)) (records_fit ss r.1) λ more q.
        (ap (λ xs. s ∷ xs) q.0, (p, q.1))

  abbrev Recorded : ℕ → Table → List (Record E) → Type 0
  Recorded k S rs = (map stamp rs ≡ stamps N k i S) × AllKnown N (S k) rs

  read_records_fit : (k : ℕ) (S : Table) → IfOk (records_read K N k i S bs) (Recorded k S)
  read_records_fit k S =
      by_made (records_at K N (S k) bs (stamps N k i S) (front_length N)) _ (Several (S k) (stamps N k i S)) (Recorded k S)
      (records_fit (S k) (stamps N k i S) (front_length N)) λ got q.
      by_test (eqb got.1 (length bs)) (bytes_behind got.1) _ (Recorded k S) λ e. q

  module _ (own : Option (ℕ → ℕ)) where
    -- what is read can be said, its addressee stands in byte 3, and it is read without the own row too
    abbrev pub Said : Sheet E → Type 0
    Said p = Fit N i own p × (get_or bs 3 0 ≡ i) × (read K N i None bs ≡ Ok p)

    pub read_fits : IfOk (read K N i own bs) Said
    read_fits =
        by_step (head_read N i K.code bs) _ Said λ k hd.
        by_step (table_read N k bs) _ Said λ S tb.
        by_step (own_checked N i S own) _ Said λ t o.
        by_step (records_read K N k i S bs) _ Said λ rs rd.
        let h = made_at (head_read N i K.code bs) Head k head_fits hd in
        let T = made_at (table_read N k bs) (Tabled k) S (table_fits k) tb in
        let q = made_at (records_read K N k i S bs) (Recorded k S) rs (read_records_fit k S) rd in (
          record {
            addressee = refl;
            writer = h.0;
            other = h.1;
            outside = T.0;
            tops = λ r u hr hu. (T.1 r u hr hu).1;
            owned = λ u hu. (T.1 u u hu hu).2 refl;
            small = λ u hu. (T.1 k u h.0 hu).0;
            reached = own_back N i S own t o;
            stamped = q.0;
            strikes = λ u n v m g. known_of N (S k) rs q.1 (u, n, struck v m) g;
          },
          h.2,
          then_ok (head_read N i K.code bs) k _ _ hd
              (then_ok (table_read N k bs) S _ _ tb (then_ok (records_read K N k i S bs) rs _ _ rd refl)),
        )

  module _ (own : Option (ℕ → ℕ)) where
    -- what is read without an own row is read with one that it does not exceed
    abbrev Owned : Sheet E → Type 0
    Owned p = Reaches N (p.table i) own → read K N i own bs ≡ Ok p

    owned : IfOk (read K N i None bs) Owned
    owned =
        by_step (head_read N i K.code bs) _ Owned λ k hd.
        by_step (table_read N k bs) _ Owned λ S tb.
        by_step (records_read K N k i S bs) _ Owned λ rs rd f.
        then_ok (head_read N i K.code bs) k _ _ hd
        (then_ok (table_read N k bs) S _ _ tb
        (then_ok (own_checked N i S own) tt _ _ (own_passes N i S own f) (then_ok (records_read K N k i S bs) rs _ _ rd refl)))

    pub read_own : (p : Sheet E) → read K N i None bs ≡ Ok p → Reaches N (p.table i) own → read K N i own bs ≡ Ok p
    read_own p e = made_at (read K N i None bs) Owned p owned e
