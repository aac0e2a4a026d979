use Rattle.std.proofs.Common.{◌≡◌, ℕ, ◌<◌, ◌≤◌, Bool, true, false, ltb, Some, None, Option, sym, ap, ◌∙◌, rules, tests, arith}
use Rattle.std.specs.Option.{MatchOption, option_map}
use Rattle.rules.specs.Results.{none_of}
use Rattle.rules.specs.Tables.{Table}
use Rattle.rules.specs.Reading.{ahead}
use Rattle.tables.specs.declared.table.Row.{Row}
use Rattle.tables.specs.Numbers.{in_row}
use Rattle.sheets.specs.Front.{front_table}
use Rattle.readers.specs.declared.refusal.SheetRefusal.TheVariants.{BeyondOwnRow}
use Rattle.sheets.specs.Judged.{own_judged}
use Rattle.sheets.proofs.Ranges.{first_in_range}
use Rattle.sheets.proofs.Steps.{row_none, row_some}
use Rattle.sheets.proofs.front.Front.check_own.Goals as goal

module _ (N i : ℕ) (S : Table) (own : ℕ → ℕ) where
  abbrev beyond : ℕ → Bool
  beyond u = ltb (own u) (S i u)

  found : (r : Option ℕ) →
      MatchOption r ((k : ℕ) → 1 ≤ k → k ≤ N → beyond k ≡ false)
      (λ u. (1 ≤ u) × (u ≤ N) × (beyond u ≡ true) × ((k : ℕ) → 1 ≤ k → k < u → beyond k ≡ false)) →
      ahead N i S own ≡ option_map (λ u. (i, u)) r
  found None h = row_none (λ c. ltb (own c.1) (S c.0 c.1)) i 1 N (λ v a b. h v a (omega arith))
  found (Some u) h = row_some (λ c. ltb (own c.1) (S c.0 c.1)) i 1 N u h.0 (omega (arith, h.1)) h.2 h.3

pub returns-in-Some-beyond : goal.returns-in-Some-beyond
returns-in-Some-beyond c =
    let S = front_table c.args.self.now in
    let N = c.args.self.now.seat.sites in
    let i = c.args.self.now.seat.own in
    let own = in_row c.in-Some.own in
    ap (λ (o : Option (ℕ × ℕ)). none_of o (λ x. BeyondOwnRow x.1))
    (sym (found N i S own (Some c.in-Some-beyond.origin)
    (first_in_range _ c.new.result 1 N c.new.ensures.start c.new.ensures.end c.new.ensures.exhausted (beyond N i S own) (λ x b q k. search (rules, tests)) (Some c.in-Some-beyond.origin) c.in-Some-beyond.ensures.runs)))
    ∙ ap (λ (o : Option Row). own_judged N i S (option_map in_row o)) (sym c.in-Some.is)

pub returns-in-None : goal.returns-in-None
returns-in-None c =
    let S = front_table c.args.self.now in
    let N = c.args.self.now.seat.sites in
    let i = c.args.self.now.seat.own in
    let own = in_row c.in-Some.own in
    ap (λ (o : Option (ℕ × ℕ)). none_of o (λ x. BeyondOwnRow x.1))
    (sym (found N i S own None
    (first_in_range _ c.new.result 1 N c.new.ensures.start c.new.ensures.end c.new.ensures.exhausted (beyond N i S own) (λ x b q k. search (rules, tests)) None c.in-None.ensures.runs)))
    ∙ ap (λ (o : Option Row). own_judged N i S (option_map in_row o)) (sym c.in-Some.is)
