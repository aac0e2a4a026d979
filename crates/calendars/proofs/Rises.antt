-- Rows that mean entries in order are in order.
-- Assumes nothing.
use Rattle.std.proofs.Common.{◌≡◌, ℕ, true, not, List, sym, ap, ◌∙◌}
use Rattle.rules.specs.Stamps.{Ascending, same}
use Rattle.rules.specs.Records.{Entry}
use Rattle.rules.specs.Entries.{join, leave}
use Rattle.rules.proofs.Ordered.{join_order, kept_order}
use Rattle.kinds.specs.Formats.{Format}
use Rattle.places.specs.Ranks.{ascends}
use Rattle.places.proofs.Order.{ascending_told}
use Rattle.places.proofs.Passed.{ascends_from}
use Rattle.places.proofs.Mapped.{ascends-map}
use Rattle.calendars.specs.declared.row.Row.{Row}
use Rattle.calendars.specs.Rows.{site_of, number_of, entry_in, entries_in}

module _ {V : Type 0} (f : Format V) where
  pub in_order : (ws : List Row) (es : List (Entry V)) → entries_in f ws ≡ es → Ascending es → ascends site_of number_of ws ≡ true
  in_order ws es e a = ascends-map (entry_in f) (λ x. x.0) (λ x. x.1) ws ∙ ap (ascends (λ x. x.0) (λ x. x.1)) e ∙ ascends_from es a

  module _ (rs : List Row) (asc : ascends site_of number_of rs ≡ true) where
    rises : Ascending (entries_in f rs)
    rises = ascending_told (entries_in f rs) (sym (ascends-map (entry_in f) (λ x. x.0) (λ x. x.1) rs) ∙ asc)

    pub join_rises : (e : Entry V) (ws : List Row) → entries_in f ws ≡ join e (entries_in f rs) → ascends site_of number_of ws ≡ true
    join_rises e ws q = in_order ws (join e (entries_in f rs)) q (join_order e (entries_in f rs) rises)

    pub leave_rises : (u m : ℕ) (ws : List Row) → entries_in f ws ≡ leave u m (entries_in f rs) → ascends site_of number_of ws ≡ true
    leave_rises u m ws q = in_order ws (leave u m (entries_in f rs)) q (kept_order (λ x. not (same u m x.0 x.1)) (entries_in f rs) rises)
