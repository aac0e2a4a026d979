use Rattle.std.proofs.Common.{◌≡◌, ℕ, zero, suc, ◌<◌, ◌≤◌, List, length, get_or, take, map, All, Contains, Some, None, Option, unwrap_or, refl, ap, ◌∙◌, rules, arith, length-take-le}
use Rattle.std.proofs.Math.ListN.{get_or-map}
use Rattle.std.proofs.lemmas.List.{get_or-take, get_or_default, length-map}
use Rattle.std.proofs.iter.runs.Made.{chains}
use Rattle.rules.specs.Tables.{least_credited}
use Rattle.rules.proofs.Credits.{least_all, all_least}
use Rattle.tables.specs.declared.table.Row.{Row}
use Rattle.tables.specs.Numbers.{blank, in_row, in_rows}
use Rattle.tables.proofs.table.TimeTable.least.Goals as goal

-- the smallest of the first numbers of a column
module _ (rs : List Row) (u N : ℕ) (long : N ≤ length rs) where
  abbrev column : List ℕ
  column = map (λ r. in_row r u) (take N rs)

  tall : length column ≡ N
  tall = length-map (take N rs) (λ r. in_row r u) ∙ length-take-le N rs long

  at : (k d : ℕ) → k < N → get_or column k d ≡ in_rows rs (suc k) u
  at k d h =
      get_or_default column k d (in_row blank u) (omega (arith, tall))
      ∙ get_or-map (λ r. in_row r u) (take N rs) k blank
      ∙ ap (λ (r : Row). in_row r u) (get_or-take N rs k blank h)

  smallest : (o : Option ℕ) → 1 ≤ N → (o ≡ None → N ≡ 0) → ((m : ℕ) → o ≡ Some m → Contains column m) → ((m : ℕ) → o ≡ Some m → All (λ n. m ≤ n) column) →
      unwrap_or o 0 ≡ least_credited N (in_rows rs) u
  smallest None one none some low = absurd (omega (arith, none refl))
  smallest (Some m) one none some low =
      let there = some m refl in
      let short : there.0 < N = omega (arith, tall, there.1) in
      let a : m ≤ least_credited N (in_rows rs) u = all_least N (in_rows rs) u m one below in
      let b = least_all N (in_rows rs) u (least_credited N (in_rows rs) u) (omega arith) (suc there.0) (omega arith, omega arith) in
      omega (arith, a, b, at there.0 m short, there.2)
    where
      below : (k : ℕ) → (1 ≤ k) × (k ≤ N) → m ≤ in_rows rs k u
      below zero w = absurd (omega arith)
      below (suc k) w = omega (arith, at k 0 (omega arith), low m refl k 0 (omega (arith, tall)))

pub returns : goal.returns
returns c =
    c.unwrap_or.ensures
    ∙ smallest c.args.self.now.rows c.args.u c.args.seat.sites (omega arith) c.min.result (omega arith) (search (rules, chains)) (search (rules, chains)) (search (rules, chains))
