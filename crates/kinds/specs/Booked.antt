-- Bookings and their bytes: values and lawful strings match one to one.
use Rattle.std.specs.Prelude.{◌≡◌, ℕ, zero, suc, ◌+◌, ◌*◌, ◌/◌, ◌%◌, ◌<◌, ◌≤◌, List, [], ◌∷◌, ◌++◌, length, Some, None, Ok, Option, slice_index, refl}
use Rattle.std.proofs.Common.{sym, ◌∙◌, ap, arith}
use Rattle.std.proofs.Math.Decide.{dec_le, ℕ_discrete}
use Rattle.rules.specs.Numbers.{be16, at16}
use Rattle.rules.specs.Kinds.{LawfulKind}
use Rattle.rules.specs.Results.{refused_as}
use Rattle.kinds.specs.declared.booking.Booking.{Booking}
use Rattle.kinds.specs.declared.booking.Work.{Work}
use Rattle.kinds.specs.declared.booking.Work.TheVariants.{Retrofit, Trial, Freeze}
use Rattle.kinds.specs.Formats.{rule_of}
use Rattle.kinds.specs.Refused.{unlawful_of}
use Rattle.kinds.specs.Bookings.{work_byte, work_of, booking_bytes, booking_from, booking_of, bookings}
use Rattle.kinds.specs.Decide.{le_yes, eq_yes, spell_at, below_all, choose_no, choose_inv, pick_inv, clash, ok_same, ok_back, choose_both, pick_both, Near, near_err}

pub be16_of : (a b : ℕ) → a < 256 → b < 256 → be16 (a * 256 + b) ≡ a ∷ b ∷ []
be16_of a b h k =
    let p : (a * 256 + b) / 256 % 256 ≡ a = omega arith in
    let q : (a * 256 + b) % 256 ≡ b = omega arith in
    cc

-- the fields of a booking make it again
pub from_ok : (v : Booking) → booking_from v.line v.first v.last (Some v.work) v.crew ≡ Ok v
from_ok v =
    let f : v.first ≤ 36524 = omega arith in
    rw (
      le_yes 1 v.line v.line_ok.0,
      le_yes v.line 999 v.line_ok.1,
      le_yes v.first 36524 f,
      le_yes v.first v.last v.days_ok.0,
      le_yes v.last 36524 v.days_ok.1,
      le_yes v.crew 99 v.crew_ok,
    )

from_same : (l l' f f' t t' : ℕ) (w w' : Option Work) (c c' : ℕ) → l ≡ l' → f ≡ f' → t ≡ t' → w ≡ w' → c ≡ c' →
    booking_from l f t w c ≡ booking_from l' f' t' w' c'
from_same l l' f f' t t' w w' c c' p q r s u = λ i. booking_from (p i) (q i) (r i) (s i) (u i)

pub of_from : (bs : List ℕ) → length bs ≡ 8 → booking_of bs ≡ booking_from (at16 bs 0) (at16 bs 2) (at16 bs 4) (work_of (slice_index bs 6)) (slice_index bs 7)
of_from bs e = rw (eq_yes (length bs) 8 e)

-- two bookings with the same fields are one
pub same_fields : (v u : Booking) → v.line ≡ u.line → v.first ≡ u.first → v.last ≡ u.last → v.work ≡ u.work → v.crew ≡ u.crew → v ≡ u
same_fields v u l f t w c = ok_same v u (sym (from_ok v) ∙ from_same _ _ _ _ _ _ _ _ _ _ l f t (ap (λ x. Some x) w) c ∙ from_ok u)

-- what a booking that was made has for fields
from_back : (l f t : ℕ) (w : Option Work) (c : ℕ) (v : Booking) → booking_from l f t w c ≡ Ok v →
    (v.line ≡ l) × (v.first ≡ f) × (v.last ≡ t) × (w ≡ Some v.work) × (v.crew ≡ c)
from_back l f t w c v e =
    let s₁ = choose_inv (dec_le 1 l) _ _ (Ok v) (clash _ v) e in
    let s₂ = choose_inv (dec_le l 999) _ _ (Ok v) (clash _ v) s₁.1 in
    let s₃ = choose_inv (dec_le f 36524) _ _ (Ok v) (clash _ v) s₂.1 in
    let s₄ = choose_inv (dec_le f t) _ _ (Ok v) (clash _ v) s₃.1 in
    let s₅ = choose_inv (dec_le t 36524) _ _ (Ok v) (clash _ v) s₄.1 in
    let s₆ = pick_inv w _ _ (Ok v) (clash _ v) s₅.1 in
    let s₇ = choose_inv (dec_le c 99) _ _ (Ok v) (clash _ v) s₆.2 in
    let p = ok_same _ v s₇.1 in (
      sym (ap (λ u. u.line) p),
      sym (ap (λ u. u.first) p),
      sym (ap (λ u. u.last) p),
      s₆.1 ∙ ap (λ u. Some u.work) p,
      sym (ap (λ u. u.crew) p),
    )

work_there : (w : Work) → work_of (work_byte w) ≡ Some w
work_there Retrofit = refl
work_there Trial = refl
work_there Freeze = refl

work_small : (w : Work) → work_byte w < 256
work_small Retrofit = omega arith
work_small Trial = omega arith
work_small Freeze = omega arith

some_same : (v u : Work) → Some v ≡ Some u → work_byte u ≡ work_byte v
some_same v u e = let p : v ≡ u = cc in sym (ap work_byte p)

none_some : {A : Type 0} (u : Work) → ◌≡◌ {A = Option Work} None (Some u) → A
none_some u e = cc

work_back : (n : ℕ) (w : Work) → work_of n ≡ Some w → work_byte w ≡ n
work_back zero w e = none_some w e
work_back (suc zero) w e = some_same Retrofit w e
work_back (suc (suc zero)) w e = some_same Trial w e
work_back (suc (suc (suc zero))) w e = some_same Freeze w e
work_back (suc (suc (suc (suc n)))) w e = none_some w e

booking_there : (v : Booking) → booking_of (booking_bytes v) ≡ Ok v
booking_there v =
    of_from (booking_bytes v) refl
    ∙ from_same _ _ _ _ _ _ _ _ _ _ (omega arith) (omega arith) (omega arith) (work_there v.work) refl
    ∙ from_ok v

booking_small : (v : Booking) (i : ℕ) → slice_index (booking_bytes v) i < 256
booking_small v i = let w = work_small v.work in below_all (booking_bytes v) (search arith) i

booking_back : (bs : List ℕ) (v : Booking) → ((i : ℕ) → slice_index bs i < 256) → booking_of bs ≡ Ok v → booking_bytes v ≡ bs
booking_back bs v h e =
    let s = choose_inv (ℕ_discrete (length bs) 8) _ _ (Ok v) (clash _ v) e in
    let b = from_back (at16 bs 0) (at16 bs 2) (at16 bs 4) (work_of (slice_index bs 6)) (slice_index bs 7) v s.1 in
    let p = work_back (slice_index bs 6) v.work b.3 in
    let p₁ = ap be16 b.0 ∙ be16_of (slice_index bs 0) (slice_index bs 1) (h 0) (h 1) in
    let p₂ = ap be16 b.1 ∙ be16_of (slice_index bs 2) (slice_index bs 3) (h 2) (h 3) in
    let p₃ = ap be16 b.2 ∙ be16_of (slice_index bs 4) (slice_index bs 5) (h 4) (h 5) in
    (λ i. p₁ i ++ p₂ i ++ p₃ i ++ p i ∷ b.4 i ∷ []) ∙ sym (spell_at 8 bs s.0)

booking_near : (bs : List ℕ) → length bs ≡ 8 → Near 8 (booking_of bs)
booking_near bs n =
    rw (of_from bs n)
    (choose_both (Near 8) (dec_le 1 (at16 bs 0)) _ _ (omega arith) λ _.
    choose_both (Near 8) (dec_le (at16 bs 0) 999) _ _ (omega arith) λ _.
    choose_both (Near 8) (dec_le (at16 bs 2) 36524) _ _ (omega arith) λ _.
    choose_both (Near 8) (dec_le (at16 bs 2) (at16 bs 4)) _ _ (omega arith) λ _.
    choose_both (Near 8) (dec_le (at16 bs 4) 36524) _ _ (omega arith) λ _.
    pick_both (Near 8) (work_of (slice_index bs 6)) _ _ (omega arith) λ _.
    choose_both (Near 8) (dec_le (slice_index bs 7) 99) _ _ (omega arith) λ _.
    tt
    )

pub bookings_lawful : LawfulKind (rule_of bookings)
bookings_lawful =
    record {
      code_byte = omega arith;
      width_range = omega arith;
      long = λ v. refl;
      bytes = booking_small;
      there = λ v. ap (refused_as unlawful_of) (booking_there v);
      back = λ bs v h e. booking_back bs v h (ok_back (booking_of bs) v e);
      short = λ bs e. ap (refused_as unlawful_of) (choose_no (ℕ_discrete (length bs) 8) _ _ e);
      near = λ bs x n e. near_err 8 (booking_of bs) x (booking_near bs n) e;
    }
