use Rattle.std.proofs.Common.{◌≡◌, ◌+◌, ◌-◌, ◌*◌, ◌≤◌, get_or, drop, sym, ap, ◌∙◌, arith}
use Rattle.std.proofs.lemmas.Bool.Decides.{nat_tests}
use Rattle.text.specs.Decimals.{capped}
use Rattle.text.proofs.Figures.{capped_on, digit_more}
use Rattle.text.proofs.decimals.decimal.Goals as goal

pub loop-c-preserved : goal.loop-c-preserved
loop-c-preserved c =
    let s = c.args.text.now in
    let i = c.loop-c.c-index in
    let n = c.loop-c.n in
    let d : (48 ≤ get_or s i 0) × (get_or s i 0 ≤ 57) × (48 + c.in_ok-digit.digit ≡ get_or s i 0) =
    grind (arith, nat_tests, c.in_ok-digit.ensures.value, c.from.ensures) in (
      omega (arith, c.saturating_add-n.ensures),
      capped_on (drop (i + 1) s) c.saturating_add-n.result (n * 10 + (get_or s i 0 - 48))
          (omega (arith, c.saturating_add-n.ensures, c.saturating_mul.ensures, d))
          ∙ ap capped (sym (digit_more n s i c.loop-c-test.true d.0 d.1))
          ∙ c.loop-c.invariant.1,
    )
