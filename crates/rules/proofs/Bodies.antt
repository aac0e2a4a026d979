-- The records in the bytes of a sheet: they are read as they were written.
-- Assumes nothing.
use Rattle.std.proofs.Common.{◌≡◌, ℕ, suc, ◌+◌, ◌<◌, ◌≤◌, ◌&&◌, eqb, ltb, leb, List, [], ◌∷◌, ◌++◌, map, length, get_or, take, drop, Ok, sym, refl, ap, ◌∙◌, add-zero, arith}
use Rattle.std.proofs.lemmas.List.{length-append, length-drop, get_or-drop, drop-drop, take_at, drop_at}
use Rattle.std.proofs.lemmas.Bool.{le-leb, lt-ltb, eq-eqb, ne_eqb, and_from, cond-true, cond-false}
use Rattle.std.specs.List.{flat_map}
use Rattle.rules.specs.Results.{◌>>=◌, refused_as}
use Rattle.rules.specs.Refusals.{ends_early, bad_record, bad_entry_at}
use Rattle.rules.specs.Numbers.{be32, at32}
use Rattle.rules.specs.Stamps.{within, Within}
use Rattle.rules.specs.Records.{Body, booked, struck}
use Rattle.rules.specs.Kinds.{Kind, LawfulKind}
use Rattle.rules.specs.Sheets.{body_bytes, record_bytes}
use Rattle.rules.specs.Reading.{Part, entry_part, stamp_part, cut, part_at, body_of, record_at, records_at}
use Rattle.rules.specs.Fits.{stamp}
use Rattle.rules.proofs.Refusing.{passes, then_ok}
use Rattle.rules.proofs.Bytes.{at32_here}
use Rattle.rules.proofs.Tables.{within_true}

-- what stands at a place, from what the rest begins with
pub byte_here : (bs : List ℕ) (at x : ℕ) (rest : List ℕ) → drop at bs ≡ x ∷ rest → get_or bs at 0 ≡ x
byte_here bs at x rest e =
    ap (λ n. get_or bs n 0) (sym (add-zero at)) ∙ sym (get_or-drop at bs 0 0) ∙ ap (λ xs. get_or xs 0 0) e

pub drop_next : (bs : List ℕ) (at x : ℕ) (rest : List ℕ) → drop at bs ≡ x ∷ rest → drop (at + 1) bs ≡ rest
drop_next bs at x rest e = sym (drop-drop 1 at bs) ∙ ap (drop 1) e

pub length_here : (bs : List ℕ) (at : ℕ) (xs : List ℕ) → at ≤ length bs → drop at bs ≡ xs → length bs ≡ at + length xs
length_here bs at xs h e = let x = length-drop at bs in let y = ap length e in omega arith

-- a strike names a stamp that is known
abbrev pub Known : {E : Type 0} → ℕ → (ℕ → ℕ) → Body E → Type 0
Known N known (booked e) = Unit {0}
Known N known (struck v m) = Within N v × (1 ≤ m) × (m ≤ known v)

abbrev pub AllKnown : {E : Type 0} → ℕ → (ℕ → ℕ) → List (ℕ × ℕ × Body E) → Type 0
AllKnown N known [] = Unit {0}
AllKnown N known (r ∷ rs) = Known N known r.2 × AllKnown N known rs

-- the part that a record's bytes are
abbrev part_of : {E : Type 0} → Kind E → Body E → ℕ → Part
part_of K (booked e) at = entry_part (K.encoded e) at
part_of K (struck v m) at = stamp_part (v ∷ be32 m) at

module _
    {E : Type 0} (K : Kind E) (L : LawfulKind K) (N : ℕ) (known : ℕ → ℕ) (small : (v : ℕ) → Within N v → known v ≤ 1000000)
    (bs : List ℕ) where
  body_reads : (b : Body E) (at : ℕ) → Known N known b → body_of K N known (part_of K b at) ≡ Ok b
  body_reads (booked e) at g = ap (λ x. refused_as (bad_entry_at at) x >>= λ y. Ok (booked y)) (L.there e)
  body_reads (struck v m) at g =
      let s = small v g.0 in
      let y : at32 (v ∷ be32 m) 1 ≡ m = at32_here (v ∷ be32 m) 1 m [] refl (omega arith) in
      passes (within N v) (bad_record at) _ _ (within_true N v g.0)
      (passes (leb 1 (at32 (v ∷ be32 m) 1) && leb (at32 (v ∷ be32 m) 1) (known v)) (bad_record (at + 1)) _ _
      (ap (λ n. leb 1 n && leb n (known v)) y ∙ and_from (leb 1 m) (leb m (known v)) (le-leb 1 m g.1) (le-leb m (known v) g.2))
      (ap (λ n. Ok (struck v n)) y))

  cut_reads : (f : List ℕ → ℕ → Part) (at n : ℕ) (xs rest : List ℕ) → at ≤ length bs → length xs ≡ n → drop at bs ≡ xs ++ rest →
      cut bs f at n ≡ Ok (f xs at, at + n)
  cut_reads f at n xs rest h e d =
      let l = length_here bs at (xs ++ rest) h d in
      let m = length-append xs rest in
      let fits : at + n ≤ length bs = omega arith in
      passes (leb (at + n) (length bs)) (ends_early (length bs)) _ _ (le-leb (at + n) (length bs) fits)
      (ap (λ ys. Ok (f ys at, at + n)) (ap (take n) d ∙ take_at xs rest n e))

  part_reads : (at : ℕ) (b : Body E) (rest : List ℕ) → at ≤ length bs → drop at bs ≡ body_bytes K b ++ rest →
      part_at K.width bs at ≡ Ok (part_of K b (at + 1), at + length (body_bytes K b))
  part_reads at (booked e) rest h d =
      let l = length_here bs at (1 ∷ (K.encoded e ++ rest)) h d in
      let there : at < length bs = omega arith in
      let n = L.long e in
      let z : at + 1 + K.width ≡ at + suc (length (K.encoded e)) = omega arith in
      passes (ltb at (length bs)) (ends_early (length bs)) _ _ (lt-ltb at (length bs) there)
      (cond-true (eqb (get_or bs at 0) 1) _ _ (eq-eqb (get_or bs at 0) 1 (byte_here bs at 1 (K.encoded e ++ rest) d))
      ∙ cut_reads entry_part (at + 1) K.width (K.encoded e) rest (omega arith) n (drop_next bs at 1 (K.encoded e ++ rest) d)
      ∙ ap (λ n. Ok (entry_part (K.encoded e) (at + 1), n)) z)
  part_reads at (struck v m) rest h d =
      let l = length_here bs at (2 ∷ v ∷ (be32 m ++ rest)) h d in
      let there : at < length bs = omega arith in
      let x = byte_here bs at 2 (v ∷ (be32 m ++ rest)) d in
      let other : get_or bs at 0 ≡ 1 → ⊥ = omega arith in
      let z : at + 1 + 5 ≡ at + 6 = omega arith in
      passes (ltb at (length bs)) (ends_early (length bs)) _ _ (lt-ltb at (length bs) there)
      (cond-false (eqb (get_or bs at 0) 1) _ _ (ne_eqb (get_or bs at 0) 1 other)
      ∙ cond-true (eqb (get_or bs at 0) 2) _ _ (eq-eqb (get_or bs at 0) 2 x)
      ∙ cut_reads stamp_part (at + 1) 5 (v ∷ be32 m) rest (omega arith) refl (drop_next bs at 2 (v ∷ (be32 m ++ rest)) d)
      ∙ ap (λ n. Ok (stamp_part (v ∷ be32 m) (at + 1), n)) z)

  record_reads : (at : ℕ) (b : Body E) (rest : List ℕ) → at ≤ length bs → drop at bs ≡ body_bytes K b ++ rest → Known N known b →
      record_at K N known bs at ≡ Ok (b, at + length (body_bytes K b))
  record_reads at b rest h d g =
      then_ok (part_at K.width bs at) (part_of K b (at + 1), at + length (body_bytes K b)) _ _ (part_reads at b rest h d)
      (ap (λ m. m >>= λ c. Ok (c, at + length (body_bytes K b))) (body_reads b (at + 1) g))

  pub records_all : (rs : List (ℕ × ℕ × Body E)) (at : ℕ) → at ≤ length bs → drop at bs ≡ flat_map (record_bytes K) rs →
      AllKnown N known rs → records_at K N known bs (map stamp rs) at ≡ Ok (rs, length bs)
  records_all [] at h d g = let l = length_here bs at [] h d in let z : at ≡ length bs = omega arith in ap (λ n. Ok ([], n)) z
  records_all (r ∷ rs) at h d g =
      let size = length (body_bytes K r.2) in
      let l = length_here bs at (body_bytes K r.2 ++ flat_map (record_bytes K) rs) h d in
      let m = length-append (body_bytes K r.2) (flat_map (record_bytes K) rs) in
      let one = record_reads at r.2 (flat_map (record_bytes K) rs) h d g.0 in
      let next : drop (at + size) bs ≡ flat_map (record_bytes K) rs =
      sym (drop-drop size at bs) ∙ ap (drop size) d ∙ drop_at (body_bytes K r.2) (flat_map (record_bytes K) rs) size refl in
      let all = records_all rs (at + size) (omega arith) next g.1 in
      then_ok (record_at K N known bs at) (r.2, at + size) _ _ one
      (then_ok (records_at K N known bs (map stamp rs) (at + size)) (rs, length bs) _ _ all refl)
