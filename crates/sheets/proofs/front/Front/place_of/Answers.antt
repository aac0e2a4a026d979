use Rattle.std.proofs.Common.{◌≡◌, ◌-◌, ◌*◌, ◌<◌, arith}
use Rattle.std.proofs.lemmas.Nat.{mul-add-lt}
use Rattle.sheets.proofs.front.Front.place_of.Goals as goal

pub returns-clause-inside : goal.returns-clause-inside
returns-clause-inside c = λ ka ub.
    let n = c.args.self.now.seat.sites in
    let a = c.args.k - 1 in
    let b = c.args.u - 1 in
    let p : a < n = omega (arith, ka) in
    let q : b < n = omega (arith, ub) in
    let r : c.saturating_sub-rows.result ≡ a = omega arith in
    let s : c.from-3.result ≡ n = omega arith in
    let m : c.saturating_sub-rows.result * c.from-3.result ≡ a * n = λ j. r j * s j in
    omega (arith, m, mul-add-lt a n b n p q)
