-- The parts of a check make the whole.
use Rattle.std.proofs.Common.{◌≡◌, ℕ, List, length, nat_le, Ok, Err, Option, Result, sym, ap, ◌∙◌}
use Rattle.rules.specs.Results.{◌>>=◌, require, refused_as}
use Rattle.rules.specs.Tables.{Table}
use Rattle.rules.specs.Sheets.{stamps, front_length}
use Rattle.rules.specs.Reading.{table_at, read}
use Rattle.rules.proofs.Refusing.{then_ok, then_err}
use Rattle.kinds.specs.Formats.{Format, rule_of}
use Rattle.tables.specs.declared.seat.Seat.{Seat}
use Rattle.readers.specs.declared.refusal.SheetRefusal.{SheetRefusal}
use Rattle.readers.specs.declared.refusal.SheetRefusal.TheVariants.{EndsEarly}
use Rattle.readers.specs.Capped.{capped}
use Rattle.readers.specs.Refused.{refusal_of}
use Rattle.sheets.specs.declared.front.Front.{Front}
use Rattle.sheets.specs.Front.{front_table}
use Rattle.sheets.specs.Judged.{head_judged, table_judged, own_judged, records_judged, sheet_judged}
use Rattle.sheets.specs.Told.{without_records}
use Rattle.sheets.proofs.Ruled.{sheet_ruled}

module _ {E : Type 0} (f : Format E) (seat : Seat) (own : Option (ℕ → ℕ)) (bs : List ℕ) where
  abbrev N : ℕ
  N = seat.sites

  abbrev i : ℕ
  i = seat.own

  -- an answer that is judged as the rules have it
  abbrev pub Judged : Result (ℕ × Table) SheetRefusal → Type 0
  Judged r = (r ≡ sheet_judged f N i own bs) × (refused_as refusal_of r ≡ without_records (read (rule_of f) N i own bs))

  module _
      (k : ℕ) (head : Ok k ≡ head_judged N i f.code bs) (whole : Ok tt ≡ require (nat_le (front_length N) (length bs)) (EndsEarly (length bs)))
      (front : Front) (same : (front.seat ≡ seat) × (front.writer ≡ k) × (front.bytes.now ≡ bs)) where
    abbrev T : Table
    T = table_at N bs

    abbrev of_records : Table → Result (Unit {0}) SheetRefusal
    of_records S = records_judged f N (capped (S k)) bs (stamps N k i (λ a. capped (S a))) (front_length N)

    same_table : table_judged front.seat.sites front.writer (front_table front) ≡ table_judged N k T
    same_table = λ j. table_judged (same.0 j).sites (same.1 j) (table_at (same.0 j).sites (same.2 j))

    same_own : own_judged front.seat.sites front.seat.own (front_table front) own ≡ own_judged N i T own
    same_own = λ j. own_judged (same.0 j).sites (same.0 j).own (table_at (same.0 j).sites (same.2 j)) own

    behind : (r : Result (ℕ × Table) SheetRefusal) → (table_judged N k T >>= λ _. own_judged N i T own >>= λ _. of_records T >>= λ _. Ok (k, T)) ≡ r → Judged r
    behind r e =
        let s =
        sym (then_ok (head_judged N i f.code bs) k _ r (sym head)
        (then_ok (require (nat_le (front_length N) (length bs)) (EndsEarly (length bs))) tt _ r (sym whole) e)) in
        (s, ap (refused_as refusal_of) s ∙ sheet_ruled f N i own bs)

    pub bad_table : (x : SheetRefusal) → Err x ≡ table_judged front.seat.sites front.writer (front_table front) → Judged (Err x)
    bad_table x e = behind (Err x) (then_err (table_judged N k T) x _ (sym (e ∙ same_table)))

    module _ (table : Ok tt ≡ table_judged front.seat.sites front.writer (front_table front)) where
      own_next : (r : Result (ℕ × Table) SheetRefusal) → (own_judged N i T own >>= λ _. of_records T >>= λ _. Ok (k, T)) ≡ r → Judged r
      own_next r e = behind r (then_ok (table_judged N k T) tt _ r (sym (table ∙ same_table)) e)

      pub bad_own : (x : SheetRefusal) → Err x ≡ own_judged front.seat.sites front.seat.own (front_table front) own → Judged (Err x)
      bad_own x e = own_next (Err x) (then_err (own_judged N i T own) x _ (sym (e ∙ same_own)))

      module _ (row : Ok tt ≡ own_judged front.seat.sites front.seat.own (front_table front) own) (S : Table) (read_table : S ≡ front_table front) where
        same_read : S ≡ T
        same_read = read_table ∙ (λ j. table_at (same.0 j).sites (same.2 j))

        records_next : (r : Result (ℕ × Table) SheetRefusal) → (of_records T >>= λ _. Ok (k, T)) ≡ r → Judged r
        records_next r e = own_next r (then_ok (own_judged N i T own) tt _ r (sym (row ∙ same_own)) e)

        pub bad_records : (x : SheetRefusal) → Err x ≡ of_records S → Judged (Err x)
        bad_records x e = records_next (Err x) (then_err (of_records T) x _ (sym (e ∙ ap of_records same_read)))

        pub all_good : Ok tt ≡ of_records S → Judged (Ok (k, S))
        all_good e = records_next (Ok (k, S)) (then_ok (of_records T) tt _ (Ok (k, S)) (sym (e ∙ ap of_records same_read)) (λ j. Ok (k, sym same_read j)))
