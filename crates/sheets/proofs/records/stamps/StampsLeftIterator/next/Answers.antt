use Rattle.std.proofs.Common.{◌≡◌, ◌+◌, ◌∷◌, sym, refl, ap, ◌∙◌, subst, arith}
use Rattle.std.specs.Iterator.{YieldsFirstBy}
use Rattle.std.specs.Result.{result_ok}
use Rattle.events.specs.Told.{stamp_of}
use Rattle.tables.specs.Numbers.{in_row}
use Rattle.readers.specs.Capped.{capped}
use Rattle.sheets.specs.declared.records.StampsLeft.{StampsLeft}
use Rattle.sheets.specs.Coming.{stamps_left}
use Rattle.sheets.proofs.Sought.{first_goes, stamp_made, none_left, passed_still, next_left}
use Rattle.sheets.proofs.records.stamps.StampsLeftIterator.next.Goals.{After-ok}
use Rattle.sheets.proofs.records.stamps.StampsLeftIterator.next.Goals as goal

pub returns-in_err-origin-clause-steps : goal.returns-in_err-origin-clause-steps
returns-in_err-origin-clause-steps c =
    let s = c.args.self.now in
    let e = none_left (capped (in_row s.writer.known)) (capped (in_row s.done)) 1 s.writer.seat.sites (λ v a b. c.in_err-origin.ensures v (a, omega arith)) in
    (subst (λ r. YieldsFirstBy stamp_of stamps_left s r s) (sym c.from_residual.ensures) (e, e), refl)

pub invariant_of-self-clause-passed : goal.invariant_of-self-clause-passed
invariant_of-self-clause-passed c =
    let s = c.args.self.now in
    let h = c.in_ok-origin.ensures in
    passed_still (in_row s.writer.known) (in_row s.done) _ _ _ h.2 (c.set_number.ensures.inside (h.0.0, omega (arith, h.0.1)))

-- the stamps that are left behind the first of them
abbrev after : After-ok → StampsLeft
after c =
    let s = c.args.self.now in
    let h = c.in_ok-origin.ensures in
    record {
      writer = s.writer;
      done = c.set_number.new.self;
      at = c.in_ok-origin.origin;
      begun = h.0.0;
      passed = passed_still (in_row s.writer.known) (in_row s.done) _ _ _ h.2 (c.set_number.ensures.inside (h.0.0, omega (arith, h.0.1)));
    }

taken : (c : After-ok) → YieldsFirstBy stamp_of stamps_left c.args.self.now c.ok.result (after c)
taken c =
    let s = c.args.self.now in
    let t = after c in
    let u = c.in_ok-origin.origin in
    let n = c.number-number.result in
    let h = c.in_ok-origin.ensures in
    let p = stamp_made c.new.result u (n + 1) (omega arith) (omega arith) c.new.ensures.value in
    let e = next_left (in_row s.writer.known) (in_row s.done) (in_row t.done) s.writer.seat.sites u n h.0 c.number-number.ensures h.1 h.2
    (c.set_number.ensures.inside (omega arith)) in
    let q : stamps_left s ≡ stamp_of p.0 ∷ stamps_left t = rw p.2 e in
    subst (λ r. YieldsFirstBy stamp_of stamps_left s r t) (sym (c.ok.ensures.value ∙ ap result_ok p.1)) q

pub returns-clause-steps : goal.returns-clause-steps
returns-clause-steps c = (taken c, refl)

pub returns-clause-goes : goal.returns-clause-goes
returns-clause-goes c = first_goes stamp_of stamps_left _ _ _ (taken c)
