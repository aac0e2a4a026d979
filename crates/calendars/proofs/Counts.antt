-- How many entries there are when one has joined.
-- Assumes nothing.
use Rattle.std.proofs.Common.{◌≡◌, ℕ, ◌+◌, Bool, true, false, List, length, drop, sym, ap, ◌∙◌, length-set}
use Rattle.std.proofs.lemmas.List.{length-map}
use Rattle.std.proofs.lemmas.List.Edits.{length-insert}
use Rattle.rules.specs.Records.{Entry}
use Rattle.rules.specs.Entries.{join}
use Rattle.kinds.specs.Formats.{Format}
use Rattle.places.specs.Ranks.{ascends, rank}
use Rattle.places.specs.Edits.{leads, has}
use Rattle.places.proofs.Order.{rank_le}
use Rattle.places.proofs.Mapped.{ascends-map, has-map}
use Rattle.calendars.specs.declared.row.Row.{Row}
use Rattle.calendars.specs.Rows.{site_of, number_of, entry_in, entries_in}
use Rattle.calendars.proofs.Edits.{join_over, join_new}

module _ {V : Type 0} (f : Format V) (rs : List Row) (asc : ascends site_of number_of rs ≡ true) (u m i : ℕ) (found : i ≡ rank site_of number_of u m rs) where
  abbrev zs : List (Entry V)
  zs = entries_in f rs

  rises : ascends (λ x. x.0) (λ x. x.1) zs ≡ true
  rises = sym (ascends-map (entry_in f) (λ x. x.0) (λ x. x.1) rs) ∙ asc

  there : (b : Bool) → b ≡ leads site_of number_of u m (drop i rs) → has (λ x. x.0) (λ x. x.1) u m zs ≡ b
  there b h = sym (has-map (entry_in f) (λ x. x.0) (λ x. x.1) u m rs) ∙ ap (λ k. leads site_of number_of u m (drop k rs)) (sym found) ∙ sym h

  pub same_count : (v : V) → true ≡ leads site_of number_of u m (drop i rs) → length (join (u, m, v) zs) ≡ length rs
  same_count v h = sym (ap length (join_over (u, m, v) zs rises (there true h))) ∙ length-set zs (rank (λ x. x.0) (λ x. x.1) u m zs) (u, m, v) ∙ length-map rs (entry_in f)

  pub one_more : (v : V) → false ≡ leads site_of number_of u m (drop i rs) → length (join (u, m, v) zs) ≡ length rs + 1
  one_more v h = sym (ap length (join_new (u, m, v) zs rises (there false h)))
      ∙ length-insert zs (rank (λ x. x.0) (λ x. x.1) u m zs) (u, m, v) (rank_le (λ x. x.0) (λ x. x.1) u m zs) ∙ ap (λ n. n + 1) (length-map rs (entry_in f))
