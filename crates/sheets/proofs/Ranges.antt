-- What a search over a range of numbers finds, and what comes of a check at each number of a range.
use Rattle.std.proofs.Common.{◌≡◌, ℕ, ◌+◌, ◌-◌, ◌<◌, ◌≤◌, Bool, true, false, [], Some, None, Ok, Err, Option, Result, sym, refl, ap, ◌∙◌, subst, inl, inr, ◌⊎◌, arith}
use Rattle.std.specs.Option.{MatchOption, IfSome, IsSomeAnd, option_map}
use Rattle.std.specs.Bool.{MatchBool}
use Rattle.std.specs.Fn.{Called, CalledAt}
use Rattle.std.specs.declared.ops.ControlFlow.{ControlFlow}
use Rattle.std.specs.declared.ops.ControlFlow.TheVariants.{Continue, Break}
use Rattle.std.specs.Range.{range_inclusive_start, range_inclusive_end, range_inclusive_exhausted}
use Rattle.std.specs.Iterator.Runs.{SomeRun, CallKeepsClosure, AllItems, AllItemsBelow, NoItemPasses, EndsAtFirstPassing, IsTryForEachRun}
use Rattle.std.specs.declared.ops.RangeInclusive.{RangeInclusive}
use Rattle.std.proofs.iter.runs.Sources.{inclusive_listed, nat_range_inclusive_steps}
use Rattle.sheets.proofs.Steps.{tried, tried_ok, tried_err}
use denote.Param.Members.{Mut}
use denote.Ref.{Bor}

-- an item of a run
some_of : (o : Option ℕ) (x : ℕ) → option_map (λ y. y) o ≡ Some x → o ≡ Some x
some_of None x e = e
some_of (Some y) x e = e

module _ {F : Type 0} {g : Mut F (Bor ℕ × Unit {0}) Bool} (f : F) (s : RangeInclusive ℕ) (a b : ℕ)
    (starts : range_inclusive_start s ≡ a) (ends : range_inclusive_end s ≡ b) (fresh : range_inclusive_exhausted s ≡ false) (t : ℕ → Bool)
    (called : (x : ℕ) (b : Bool) (q : F) → CalledAt g f x b q → (q ≡ f) × (b ≡ t x)) where
  keeps : CallKeepsClosure g f
  keeps v r q k = (called v.0.now r q (record { shown = v.0; shows = refl; called = k })).0

  -- the first number that passes, or none where none does
  pub first_in_range : (r : Option ℕ) →
      SomeRun nat_range_inclusive_steps s (λ p. MatchOption r ((p.whole ≡ true) × NoItemPasses p g f) (EndsAtFirstPassing p g f)) →
      MatchOption r ((k : ℕ) → a ≤ k → k ≤ b → t k ≡ false)
      (λ i. (a ≤ i) × (i ≤ b) × (t i ≡ true) × ((k : ℕ) → a ≤ k → k < i → t k ≡ false))
  first_in_range None d = λ k lo hi.
      let p = d.0 in
      let l = inclusive_listed p p.seen in
      let c = l.4 (ap range_inclusive_exhausted d.1 ∙ fresh) in
      let start = l.2 ∙ ap range_inclusive_start d.1 ∙ starts in
      let end = ap range_inclusive_end d.1 ∙ ends in
      let long = c.0.1 d.2.0 in
      let at = some_of (p.at (k - l.0)) k (c.1 [] k 0 (omega (arith, start)) (omega (arith, start, end, l.3, long))).1 in
      sym (called k false f (subst (λ o. IfSome o (λ x. CalledAt g f x false f)) at (d.2.1 keeps (k - l.0)))).1
  first_in_range (Some x) d =
      let p = d.0 in
      let e = d.2 in
      let l = inclusive_listed p p.seen in
      let c = l.4 (ap range_inclusive_exhausted d.1 ∙ fresh) in
      let start = l.2 ∙ ap range_inclusive_start d.1 ∙ starts in
      let end = ap range_inclusive_end d.1 ∙ ends in
      let here : (x ≡ l.0 + e.0) × (x < l.1) = subst (λ o. IfSome o (λ y. (y ≡ l.0 + e.0) × (y < l.1))) e.2 (c.0.2 e.0) in
      let calls = e.3 keeps in (
        omega (arith, start, here.0),
        omega (arith, end, here.1, l.3),
        sym (called x true f calls.0).1,
        λ k lo hi.
            let at = some_of (p.at (k - l.0)) k (c.1 [] k 0 (omega (arith, start)) (omega (arith, start, here.0, e.1))).1 in
            sym (called k false f (subst (λ o. IsSomeAnd o (λ y. CalledAt g f y false f)) at (calls.1 (k - l.0) (omega (arith, start, here.0))))).1,
      )

module _ {F X E : Type 0} {g : Mut F (ℕ × Unit {0}) (Result (Unit {0}) X)} (f : F) (s : RangeInclusive ℕ) (a b : ℕ)
    (starts : range_inclusive_start s ≡ a) (ends : range_inclusive_end s ≡ b) (fresh : range_inclusive_exhausted s ≡ false) (h : ℕ → Result (Unit {0}) X)
    (branches : Result (Unit {0}) X → ControlFlow E (Unit {0}) → Type 0) (resumes : E → Result (Unit {0}) X → Type 0)
    (go : (v : Result (Unit {0}) X) → branches v (Continue tt) → v ≡ Ok tt)
    (stop : (v r : Result (Unit {0}) X) (e : E) → branches v (Break e) → resumes e r → (y : X) × (v ≡ Err y) × (r ≡ Err y))
    (called : (x : ℕ) (v : Result (Unit {0}) X) (q : F) → Called g f (x, tt) v q → (q ≡ f) × (v ≡ h x)) where
  same : CallKeepsClosure g f
  same v r q k = (called v.0 r q k).0

  -- the check at a number gave what goes on so
  abbrev Gave : ControlFlow E (Unit {0}) → ℕ → Type 0
  Gave c k = (v : Result (Unit {0}) X) × Called g f (k, tt) v f × branches v c

  passed : (k : ℕ) → Gave (Continue tt) k → h k ≡ Ok tt
  passed k c = sym (called k c.0 f c.1).1 ∙ go c.0 c.2

  -- each check passes, or one refuses and those before it pass
  abbrev pub Tried : Result (Unit {0}) X → Type 0
  Tried r =
      ((r ≡ Ok tt) × ((k : ℕ) → a ≤ k → k ≤ b → h k ≡ Ok tt))
      ⊎ ((i : ℕ) × (y : X) × (a ≤ i) × (i ≤ b) × (r ≡ Err y) × (h i ≡ Err y) × ((k : ℕ) → a ≤ k → k < i → h k ≡ Ok tt))

  pub tried_in_range : (r : Result (Unit {0}) X) → SomeRun nat_range_inclusive_steps s (λ p. IsTryForEachRun p g f branches resumes r) → Tried r
  tried_in_range r d = by d.0.whole refl d.2
    where
      by : (w : Bool) → d.0.whole ≡ w →
          MatchBool w
          (branches r (Continue tt) × (CallKeepsClosure g f → AllItems d.0 (Gave (Continue tt))))
          ((e : E) × (i : ℕ) × resumes e r × (d.0.len ≡ i + 1)
          × (CallKeepsClosure g f → IsSomeAnd (d.0.at i) (Gave (Break e)) × AllItemsBelow d.0 i (Gave (Continue tt)))) →
          Tried r
      by true w m =
          let p = d.0 in
          let l = inclusive_listed p p.seen in
          let c = l.4 (ap range_inclusive_exhausted d.1 ∙ fresh) in
          let start = l.2 ∙ ap range_inclusive_start d.1 ∙ starts in
          let end = ap range_inclusive_end d.1 ∙ ends in
          let long = c.0.1 w in
          inl (
            go r m.0,
            λ k lo hi.
                let at = some_of (p.at (k - l.0)) k (c.1 [] k 0 (omega (arith, start)) (omega (arith, start, end, l.3, long))).1 in
                passed k (subst (λ o. IfSome o (Gave (Continue tt))) at (m.1 same (k - l.0))),
          )
      by false w m =
          let p = d.0 in
          let l = inclusive_listed p p.seen in
          let c = l.4 (ap range_inclusive_exhausted d.1 ∙ fresh) in
          let start = l.2 ∙ ap range_inclusive_start d.1 ∙ starts in
          let end = ap range_inclusive_end d.1 ∙ ends in
          let i : ℕ = m.1 in
          let calls = m.4 same in
          let at : (k : ℕ) → a ≤ k → k ≤ a + i → p.at (k - l.0) ≡ Some k =
          λ k lo hi. some_of (p.at (k - l.0)) k (c.1 [] k 0 (omega (arith, start)) (omega (arith, start, m.3))).1 in
          let x : ℕ = a + i in
          let there : x - l.0 ≡ i = omega (arith, start) in
          let here : p.at i ≡ Some x = ap p.at (sym there) ∙ at x (omega arith) (omega arith) in
          let last = subst (λ o. IsSomeAnd o (Gave (Break m.0))) here calls.0 in
          let z = stop last.0 r m.0 last.2 m.2 in
          inr (
            x,
            z.0,
            omega arith,
            omega (arith, start, end, l.3, m.3, c.0.0),
            z.2,
            sym (called x last.0 f last.1).1 ∙ z.1,
            λ k lo hi.
                passed k (subst (λ o. IsSomeAnd o (Gave (Continue tt))) (at k lo (omega arith)) (calls.1 (k - l.0) (omega (arith, start)))),
          )

  pub tried_all : (r : Result (Unit {0}) X) → (m : ℕ) → b + 1 ≡ a + m → SomeRun nat_range_inclusive_steps s (λ p. IsTryForEachRun p g f branches resumes r) → r ≡ tried h a m
  tried_all r m n d =
      elim (tried_in_range r d) [
        | inl o ↦ o.0 ∙ sym (tried_ok h a m (λ k lo hi. o.1 k lo (omega (arith, n))))
        | inr e ↦ e.4 ∙ sym (tried_err h a m e.0 e.1 e.2 (omega (arith, n, e.3)) e.5 e.6)
      ]
