use Rattle.std.proofs.Common.{◌≡◌, ℕ, ◌+◌, ◌<◌, ◌≤◌, min, Bool, true, false, ltb, Some, None, Option, inl, inr, rules, tests, arith}
use Rattle.std.proofs.lemmas.Bool.{cases_lt, ltb-true, ltb-false}
use Rattle.std.specs.Option.{MatchOption}
use Rattle.tables.specs.Numbers.{in_row}
use Rattle.sheets.specs.declared.records.StampsLeft.{StampsLeft}
use Rattle.sheets.specs.Coming.{NoneLeft, IsFirstLeft}
use Rattle.sheets.proofs.Ranges.{first_in_range}
use Rattle.sheets.proofs.records.StampsLeft.origin.Goals as goal

module _ (s : StampsLeft) where
  abbrev left : ℕ → Bool
  left u = ltb (in_row s.done u) (min (in_row s.writer.known u) 1000000)

  none_left : (u : ℕ) → left u ≡ false → NoneLeft s u
  none_left u e = let n = ltb-false (in_row s.done u) (min (in_row s.writer.known u) 1000000) e in omega (arith, n)

  -- of the origins that are passed none is left, and of those that were looked at
  none_before : (m : ℕ) → ((k : ℕ) → s.at ≤ k → k < m → left k ≡ false) → (u : ℕ) → 1 ≤ u → u < m → NoneLeft s u
  none_before m h u a b =
      elim (cases_lt u s.at) [
        | inl l ↦ s.passed u a l
        | inr g ↦ none_left u (h u g b)
      ]

  first_left : (r : Option ℕ) →
      MatchOption r ((k : ℕ) → s.at ≤ k → k ≤ s.writer.seat.sites → left k ≡ false)
      (λ i. (s.at ≤ i) × (i ≤ s.writer.seat.sites) × (left i ≡ true) × ((k : ℕ) → s.at ≤ k → k < i → left k ≡ false)) →
      IsFirstLeft s r
  first_left None h = λ u w. none_before (u + 1) (λ k a b. h k a (omega (arith, b, w.1))) u w.0 (omega arith)
  first_left (Some i) h =
      let e = ltb-true (in_row s.done i) (min (in_row s.writer.known i) 1000000) h.2 in
      ((omega (arith, s.begun, h.0), omega (arith, h.1)), omega (arith, e), none_before i h.3)

pub returns : goal.returns
returns c =
    first_left c.args.self.now c.find.result
    (first_in_range _ c.new.result c.args.self.now.at c.args.self.now.writer.seat.sites c.new.ensures.start c.new.ensures.end c.new.ensures.exhausted (left c.args.self.now) (λ x b q k. search (rules, tests)) c.find.result c.find.ensures.runs)
