-- Edits of entries in stamp order, at the places that the search finds.
-- Assumes nothing.
use Rattle.std.proofs.Common.{◌≡◌, ℕ, Bool, true, false, not, List, [], ◌∷◌, drop, set, sym, refl, ap, ◌∙◌, true≢false}
use Rattle.std.specs.List.{list_all, insert as inserted, remove}
use Rattle.rules.specs.Stamps.{Stamped, below, same, insert}
use Rattle.rules.specs.Entries.{join, leave, holds}
use Rattle.places.specs.Ranks.{ascends, rank}
use Rattle.places.proofs.Tests.{by_test, and_left, and_right, all_weaker, kept_all}
use Rattle.places.specs.Edits.{leads}
use Rattle.places.proofs.Order.{below_trans}
use Rattle.places.proofs.Edited.{above, apart, apart_up, not_back, like}

module _ {A : Type 0} where
  abbrev st : Stamped A → ℕ
  st x = x.0

  abbrev nm : Stamped A → ℕ
  nm x = x.1

  -- every element lies above u.m
  abbrev beyond : (u m : ℕ) → List (Stamped A) → Bool
  beyond u m zs = list_all (λ z. below u m z.0 z.1) zs

  none : (u m : ℕ) (zs : List (Stamped A)) → beyond u m zs ≡ true → leave u m zs ≡ zs
  none u m zs h = kept_all (λ z. not (same u m z.0 z.1)) zs
      (all_weaker (λ z. below u m z.0 z.1) (λ z. not (same u m z.0 z.1)) zs (λ z b. ap not (apart_up u m z.0 z.1 b)) h)

  front : (x : Stamped A) (zs : List (Stamped A)) → beyond x.0 x.1 zs ≡ true → insert x zs ≡ x ∷ zs
  front x [] h = refl
  front x (z ∷ zs) h = rw (and_left (below x.0 x.1 z.0 z.1) (beyond x.0 x.1 zs) h) refl

  not_held : (u m : ℕ) (zs : List (Stamped A)) → beyond u m zs ≡ true → holds u m zs ≡ false
  not_held u m [] h = refl
  not_held u m (z ∷ zs) h =
      rw (apart_up u m z.0 z.1 (and_left (below u m z.0 z.1) (beyond u m zs) h))
      (not_held u m zs (and_right (below u m z.0 z.1) (beyond u m zs) h))

  module _ (u m : ℕ) (z : Stamped A) (zs : List (Stamped A)) (asc : ascends st nm (z ∷ zs) ≡ true) where
    rest : ascends st nm zs ≡ true
    rest = and_right (list_all (λ w. below z.0 z.1 w.0 w.1) zs) (ascends st nm zs) asc

    over : list_all (λ w. below z.0 z.1 w.0 w.1) zs ≡ true
    over = and_left (list_all (λ w. below z.0 z.1 w.0 w.1) zs) (ascends st nm zs) asc

    past_same : same u m z.0 z.1 ≡ true → beyond u m zs ≡ true
    past_same t = all_weaker (λ w. below z.0 z.1 w.0 w.1) (λ w. below u m w.0 w.1) zs (λ w b. like u m z.0 z.1 w.0 w.1 t b) over

    past_above : below u m z.0 z.1 ≡ true → beyond u m zs ≡ true
    past_above t = all_weaker (λ w. below z.0 z.1 w.0 w.1) (λ w. below u m w.0 w.1) zs (λ w b. below_trans u m z.0 z.1 w.0 w.1 t b) over

  -- where the place of x holds its stamp, x is written over it
  pub join_over : (x : Stamped A) (zs : List (Stamped A)) → ascends st nm zs ≡ true → leads st nm x.0 x.1 (drop (rank st nm x.0 x.1 zs) zs) ≡ true
      → set zs (rank st nm x.0 x.1 zs) x ≡ join x zs
  join_over x [] asc = λ h. absurd (true≢false (sym h))
  join_over x (z ∷ zs) asc =
      by_test (below z.0 z.1 x.0 x.1)
      (λ t. rw (t, apart x.0 x.1 z.0 z.1 t, not_back x.0 x.1 z.0 z.1 t) (λ h. ap (λ ws. z ∷ ws) (join_over x zs (rest x.0 x.1 z zs asc) h)))
      (λ f. by_test (same x.0 x.1 z.0 z.1)
      (λ t.
      let b = past_same x.0 x.1 z zs asc t in
      rw (f, t) (λ h. sym (ap (insert x) (none x.0 x.1 zs b) ∙ front x zs b)))
      (λ g. rw (f, g) (λ h. absurd (true≢false (sym h)))))

  -- and else it goes before what stands there
  pub join_new : (x : Stamped A) (zs : List (Stamped A)) → ascends st nm zs ≡ true → leads st nm x.0 x.1 (drop (rank st nm x.0 x.1 zs) zs) ≡ false
      → inserted zs (rank st nm x.0 x.1 zs) x ≡ join x zs
  join_new x [] asc = λ h. refl
  join_new x (z ∷ zs) asc =
      by_test (below z.0 z.1 x.0 x.1)
      (λ t. rw (t, apart x.0 x.1 z.0 z.1 t, not_back x.0 x.1 z.0 z.1 t) (λ h. ap (λ ws. z ∷ ws) (join_new x zs (rest x.0 x.1 z zs asc) h)))
      (λ f. by_test (same x.0 x.1 z.0 z.1)
      (λ t. rw (f, t) (λ h. absurd (true≢false h)))
      (λ g.
      let o = above x.0 x.1 z.0 z.1 f g in
      rw (f, g, o) (λ h. ap (λ ws. x ∷ (z ∷ ws)) (sym (none x.0 x.1 zs (past_above x.0 x.1 z zs asc o))))))

  -- where the place of u.m holds it, it is taken out there
  pub leave_at : (u m : ℕ) (zs : List (Stamped A)) → ascends st nm zs ≡ true → leads st nm u m (drop (rank st nm u m zs) zs) ≡ true
      → remove zs (rank st nm u m zs) ≡ leave u m zs
  leave_at u m [] asc = λ h. refl
  leave_at u m (z ∷ zs) asc =
      by_test (below z.0 z.1 u m)
      (λ t. rw (t, apart u m z.0 z.1 t) (λ h. ap (λ ws. z ∷ ws) (leave_at u m zs (rest u m z zs asc) h)))
      (λ f. by_test (same u m z.0 z.1)
      (λ t. rw (f, t) (λ h. sym (none u m zs (past_same u m z zs asc t))))
      (λ g. rw (f, g) (λ h. absurd (true≢false (sym h)))))

  -- and else nothing has it
  pub leave_none : (u m : ℕ) (zs : List (Stamped A)) → ascends st nm zs ≡ true → leads st nm u m (drop (rank st nm u m zs) zs) ≡ false → leave u m zs ≡ zs
  leave_none u m [] asc = λ h. refl
  leave_none u m (z ∷ zs) asc =
      by_test (below z.0 z.1 u m)
      (λ t. rw (t, apart u m z.0 z.1 t) (λ h. ap (λ ws. z ∷ ws) (leave_none u m zs (rest u m z zs asc) h)))
      (λ f. by_test (same u m z.0 z.1)
      (λ t. rw (f, t) (λ h. absurd (true≢false h)))
      (λ g. rw (f, g) (λ h. ap (λ ws. z ∷ ws) (none u m zs (past_above u m z zs asc (above u m z.0 z.1 f g))))))

  -- a stamp is held exactly if its place has it
  pub holds_is : (u m : ℕ) (zs : List (Stamped A)) → ascends st nm zs ≡ true → holds u m zs ≡ leads st nm u m (drop (rank st nm u m zs) zs)
  holds_is u m [] asc = refl
  holds_is u m (z ∷ zs) asc =
      by_test (below z.0 z.1 u m)
      (λ t. rw (t, apart u m z.0 z.1 t) (holds_is u m zs (rest u m z zs asc)))
      (λ f. by_test (same u m z.0 z.1)
      (λ t. rw (f, t) refl)
      (λ g. rw (f, g) (not_held u m zs (past_above u m z zs asc (above u m z.0 z.1 f g)))))
