use Rattle.std.proofs.Common.{◌≡◌, true, refl, inl, inr, is_some, rules, sym, ap, ◌∙◌, arith}
use Rattle.std.specs.Result.{result_ok}
use Rattle.text.specs.Hexadecimals.{hex_bytes_of}
use Rattle.text.proofs.Sixteens.{bad_read, good_read, read_is}
use Rattle.text.proofs.hexadecimals.hex_bytes.Goals.{else-text-eq0-via-then-text-eq0+else-not-all_digits, else-text-eq0-via-else-text-eq0}
use Rattle.text.proofs.hexadecimals.hex_bytes.Goals as goal

pub returns-then-not-all_digits-clause-value : goal.returns-then-not-all_digits-clause-value
returns-then-not-all_digits-clause-value c = sym (bad_read c.args.text.now cc)

pub returns-in-Ok-clause-value : goal.returns-in-Ok-clause-value
returns-in-Ok-clause-value c = sym (read_is c.args.text.now ∙ ap result_ok c.in-Ok.ensures.ok)

pub returns-in-Ok-clause-refused : goal.returns-in-Ok-clause-refused
returns-in-Ok-clause-refused c = λ h. absurd (cc (returns-in-Ok-clause-value c ∙ h))

pub returns-in-Err-OutOfMemory-clause-refused : goal.returns-in-Err-OutOfMemory-clause-refused
returns-in-Err-OutOfMemory-clause-refused c = λ h.
    elim c.else-text-eq0.branch [
      | else-text-eq0-via-then-text-eq0+else-not-all_digits w ↦
          let e : is_some (hex_bytes_of c.args.text.now) ≡ true = good_read c.args.text.now w.if-text-eq0.true cc in
          absurd (cc (sym (ap is_some h) ∙ e))
      | else-text-eq0-via-else-text-eq0 w ↦
          let o = c.in-Err-OutOfMemory.ensures.odd (omega (arith, w.if-text-eq0.false)) in absurd (search rules)
    ]

pub returns-in-Err : goal.returns-in-Err
returns-in-Err c = record {
  value = sym
      (read_is c.args.text.now
      ∙ elim c.in-Err.ensures.err [
        | inl p ↦ absurd (search rules)
        | inr q ↦ ap result_ok q
      ]);
  refused = λ h. refl;
}
