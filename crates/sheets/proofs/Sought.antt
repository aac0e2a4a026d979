-- Going through the stamps of a sheet's records, and through the records.
use Rattle.std.proofs.Common.{◌≡◌, ◌≢◌, ℕ, zero, suc, ◌+◌, ◌-◌, ◌<◌, ◌≤◌, min, eqb, List, [], ◌∷◌, ◌++◌, length, Some, None, Ok, Err, Option, Result, sym, refl, ap, ◌∙◌, inl, inr, arith}
use Rattle.std.proofs.lemmas.Bool.{cases_order, cond-true, cond-false, eq-eqb, ne_eqb}
use Rattle.std.specs.Result.{result_ok}
use Rattle.std.specs.Iterator.{YieldsFirstBy, MakesProgress, item_count}
use Rattle.rules.specs.Refusals.{Refusal}
use Rattle.rules.specs.Kinds.{Kind}
use Rattle.rules.specs.Stamps.{Stamp, Within}
use Rattle.rules.specs.Records.{Body}
use Rattle.rules.specs.Results.{refused_as}
use Rattle.rules.specs.Sheets.{run, runs}
use Rattle.rules.specs.Reading.{record_at}
use Rattle.rules.proofs.Tables.{within_true}
use Rattle.events.specs.declared.stamp.Stamp as events
use Rattle.events.specs.declared.record.Body as told
use Rattle.events.specs.declared.refusal.StampRefusal.{StampRefusal}
use Rattle.events.specs.Told.{stamp_of, stamp_shown, stamp_ranged}
use Rattle.tables.specs.Numbers.{row_with}
use Rattle.readers.specs.Capped.{capped}
use Rattle.readers.specs.declared.refusal.SheetRefusal.{SheetRefusal}
use Rattle.readers.specs.Refused.{refusal_of}
use Rattle.readers.specs.Told.{recorded, IfRefused}
use Rattle.sheets.specs.Coming.{read_all}

-- a step that gives the first of what is left is nearer the end
pub first_goes : {S A B : Type 0} (view : A → B) (rest : S → List B) (s t : S) (r : Option A) → YieldsFirstBy view rest s r t →
    MakesProgress (λ _. Unit {0}) (item_count rest) s r t
first_goes view rest s t None e = record { on = λ _. tt; keeps = tt; rests = λ _. tt }
first_goes view rest s t (Some x) e =
    let n = ap length e in record { on = λ _. (tt, tt, omega arith); keeps = tt; rests = λ _. tt }

-- two numbers in range are a stamp
pub stamp_made : (r : Result events.Stamp StampRefusal) (u n : ℕ) → Within 8 u → Within 1000000 n → stamp_shown r ≡ stamp_ranged u n →
    (s : events.Stamp) × (r ≡ Ok s) × (stamp_of s ≡ (u, n))
stamp_made r u n a b e = by r (e ∙ rw (within_true 8 u a, within_true 1000000 n b) refl)
  where
    by : (r : Result events.Stamp StampRefusal) → stamp_shown r ≡ Ok (u, n) → (s : events.Stamp) × (r ≡ Ok s) × (stamp_of s ≡ (u, n))
    by (Ok s) e = (s, refl, cc)
    by (Err x) e = let z : ◌≡◌ {A = ℕ} 0 1 = cc in absurd (omega arith)

module _ (known : ℕ → ℕ) where
  -- of each of m origins from u on, the stamps behind those that are done
  abbrev left : (done : ℕ → ℕ) (u m : ℕ) → List Stamp
  left done u m = runs (λ v. done v + 1) (λ v. known v - done v) u m

  skipped : (done : ℕ → ℕ) (u m : ℕ) → known u ≤ done u → left done u (suc m) ≡ left done (u + 1) m
  skipped done u m h =
      let e : known u - done u ≡ 0 = omega arith in
      ap (λ n. run u (done u + 1) n ++ left done (u + 1) m) e

  -- no stamp is left
  pub none_left : (done : ℕ → ℕ) (u m : ℕ) → ((v : ℕ) → u ≤ v → v < u + m → known v ≤ done v) → left done u m ≡ []
  none_left done u zero h = refl
  none_left done u (suc m) h =
      skipped done u m (h u (omega arith) (omega arith))
      ∙ none_left done (u + 1) m (λ v a b. h v (omega arith) (omega arith))

  module _ (done done' : ℕ → ℕ) (w : ℕ) (here : done' w ≡ done w + 1) (others : (v : ℕ) → v ≢ w → done' v ≡ done v) where
    beyond : (u m : ℕ) → w < u → left done u m ≡ left done' u m
    beyond u zero l = refl
    beyond u (suc m) l =
        let e = sym (others u (λ q. omega arith)) in
        λ j. run u (e j + 1) (known u - e j) ++ beyond (u + 1) m (omega arith) j

    taken : (m : ℕ) → done w < known w → left done w (suc m) ≡ (w, done w + 1) ∷ left done' w (suc m)
    taken m l =
        let e : known w - done w ≡ suc (known w - done' w) = omega arith in
        (λ j. run w (done w + 1) (e j) ++ beyond (w + 1) m (omega arith) j)
        ∙ (λ j. (w, done w + 1) ∷ (run w (sym here j + 1) (known w - done' w) ++ left done' (w + 1) m))

    -- the first stamp of the first origin of which one is left
    first_left : (u m : ℕ) → u ≤ w → w < u + m → ((v : ℕ) → u ≤ v → v < w → known v ≤ done v) → done w < known w →
        left done u m ≡ (w, done w + 1) ∷ left done' u m
    first_left u zero a b none some = absurd (omega arith)
    first_left u (suc m) a b none some =
        elim (cases_order u w) [
          | inl e ↦ rw e (taken m some)
          | inr o ↦ elim o [
            | inl l ↦
                skipped done u m (none u (omega arith) l)
                ∙ first_left (u + 1) m (omega arith) (omega arith) (λ v c d. none v (omega arith) d) some
                ∙ ap (λ ss. (w, done w + 1) ∷ ss)
                (sym (skipped done' u m (let n = none u (omega arith) l in let q = others u (λ p. omega arith) in omega arith)))
            | inr g ↦ absurd (omega arith)
          ]
        ]

-- a row in which the number of another origin is set
row_kept : (done done' : ℕ → ℕ) (w n : ℕ) → done' ≡ row_with done w n → (v : ℕ) → v ≢ w → capped done' v ≡ capped done v
row_kept done done' w n e v o =
    ap (λ (r : ℕ → ℕ). capped r v) e ∙ ap (λ x. min x 1000000) (cond-false (eqb v w) n (done v) (ne_eqb v w o))

-- of the origins before the one of which an event more is done still none is left
pub passed_still : (known done done' : ℕ → ℕ) (w n : ℕ) → ((v : ℕ) → 1 ≤ v → v < w → capped known v ≤ capped done v) → done' ≡ row_with done w n →
    (v : ℕ) → 1 ≤ v → v < w → capped known v ≤ capped done' v
passed_still known done done' w n none e v a b =
    let q : capped done' v ≡ capped done v = row_kept done done' w n e v (λ p. omega arith) in
    omega (arith, none v a b)

-- one event more of the first origin of which one is left
pub next_left : (known done done' : ℕ → ℕ) (N w n : ℕ) → Within N w → n ≡ done w → capped done w < capped known w →
    ((v : ℕ) → 1 ≤ v → v < w → capped known v ≤ capped done v) → done' ≡ row_with done w (n + 1) →
    left (capped known) (capped done) 1 N ≡ (w, n + 1) ∷ left (capped known) (capped done') 1 N
next_left known done done' N w n within here some none e =
    let at : done' w ≡ n + 1 = ap (λ (r : ℕ → ℕ). r w) e ∙ cond-true (eqb w w) (n + 1) (done w) (eq-eqb w w refl) in
    let c : capped done w ≡ n = omega arith in
    first_left (capped known) (capped done) (capped done') w (omega arith) (row_kept done done' w (n + 1) e) 1 N within.0 (omega arith) none some
    ∙ ap (λ x. (w, x + 1) ∷ left (capped known) (capped done') 1 N) c

-- a record that was read, and one that could not be
module _ {E : Type 0} where
  pub body_read : (r : Result (told.Body E) SheetRefusal) (b : told.Body E) → Some b ≡ result_ok r → r ≡ Ok b
  body_read (Ok c) b e = cc
  body_read (Err x) b e = let z : ◌≡◌ {A = ℕ} 0 1 = cc in absurd (omega arith)

  pub unread : (r : Result (told.Body E) SheetRefusal) (place : ℕ) (m : Result (Body E × ℕ) Refusal) (P : Type 0) → None ≡ result_ok r →
      refused_as refusal_of (recorded r place) ≡ m → IfRefused r P → (x : Refusal) × (m ≡ Err x) × P
  unread (Ok b) place m P n e h = let z : ◌≡◌ {A = ℕ} 0 1 = cc in absurd (omega arith)
  unread (Err x) place m P n e h = (refusal_of x, sym e, h)

module _ {E : Type 0} (K : Kind E) (N : ℕ) (known : ℕ → ℕ) (bs : List ℕ) where
  -- no record is read where one cannot be read
  pub none_read : (ss : List Stamp) (at : ℕ) (x : Refusal) → record_at K N known bs at ≡ Err x → read_all K N known bs ss at ≡ []
  none_read [] at x e = refl
  none_read (s ∷ ss) at x e = rw e refl
