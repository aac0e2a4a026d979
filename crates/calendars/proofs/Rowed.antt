-- What rows in stamp order mean, and what they mean after an edit.
-- Assumes nothing.
use Rattle.std.proofs.Common.{◌≡◌, ℕ, suc, ◌+◌, ◌<◌, ◌≤◌, Bool, true, false, cond, ltb, ◌||◌, List, ◌++◌, length, take, drop, set, sym, ap, ◌∙◌, length-set, arith}
use mathlib.Core.HLevel.{is_prop→PathP}
use Rattle.std.specs.Coded.{Coded-set, coded_bool}
use Rattle.std.specs.List.{list_all, insert, remove}
use Rattle.std.proofs.lemmas.Bool.Decides.{nat_tests}
use Rattle.std.proofs.lemmas.List.{take-map, drop-map, map-append, map-set, length-map}
use Rattle.std.proofs.lemmas.List.Edits.{length-insert}
use Rattle.rules.specs.Records.{Entry}
use Rattle.rules.specs.Entries.{join, leave, holds}
use Rattle.kinds.specs.Formats.{Format}
use Rattle.places.specs.Ranks.{ascends, rank}
use Rattle.places.specs.declared.rows.Rows.{Rows}
use Rattle.places.specs.Used.{in_use}
use Rattle.places.specs.Edits.{has, with_put, without}
use Rattle.places.proofs.Tests.{by_test}
use Rattle.places.proofs.Order.{rank_le}
use Rattle.places.proofs.Mapped.{rank-map, has-map, ascends-map, inserted_map}
use Rattle.calendars.specs.declared.row.Row.{Row}
use Rattle.calendars.specs.declared.calendar.Calendar.{Calendar}
use Rattle.calendars.specs.contracts.row.RowStamped.TheImpl as stamped
use Rattle.calendars.specs.Rows.{site_of, number_of, sound, entry_in, entries_in}
use Rattle.calendars.proofs.Edits.{join_over, join_new, leave_at, leave_none, holds_is}

module _ {V : Type 0} (f : Format V) (rs : List Row) where
  abbrev zs : List (Entry V)
  zs = entries_in f rs

  abbrev place : (u m : ℕ) → ℕ
  place u m = rank site_of number_of u m rs

  abbrev spot : (u m : ℕ) → ℕ
  spot u m = rank (λ x. x.0) (λ x. x.1) u m zs

  there : (u m : ℕ) → place u m ≡ spot u m
  there u m = rank-map (entry_in f) (λ x. x.0) (λ x. x.1) u m rs

  has_there : (u m : ℕ) → has (λ x. x.0) (λ x. x.1) u m zs ≡ has site_of number_of u m rs
  has_there u m = sym (has-map (entry_in f) (λ x. x.0) (λ x. x.1) u m rs)

  module _ (asc : ascends site_of number_of rs ≡ true) where
    rises : ascends (λ x. x.0) (λ x. x.1) zs ≡ true
    rises = sym (ascends-map (entry_in f) (λ x. x.0) (λ x. x.1) rs) ∙ asc

    pub holds_there : (u m : ℕ) → has site_of number_of u m rs ≡ holds u m zs
    holds_there u m = sym (has_there u m) ∙ sym (holds_is u m zs rises)

    pub joined : (row : Row) → entries_in f (with_put site_of number_of row rs) ≡ join (entry_in f row) zs
    joined row = by_test (has site_of number_of row.site row.number rs)
        (λ t. rw t (map-set (entry_in f) rs (place row.site row.number) row ∙ ap (λ k. set zs k (entry_in f row)) (there row.site row.number)
        ∙ join_over (entry_in f row) zs rises (has_there row.site row.number ∙ t)))
        (λ e. rw e (inserted_map (entry_in f) rs (place row.site row.number) row ∙ ap (λ k. insert zs k (entry_in f row)) (there row.site row.number)
        ∙ join_new (entry_in f row) zs rises (has_there row.site row.number ∙ e)))

    pub left_over : (u m : ℕ) → entries_in f (without site_of number_of u m rs) ≡ leave u m zs
    left_over u m = by_test (has site_of number_of u m rs)
        (λ t. rw t (map-append (entry_in f) (take (place u m) rs) (drop (suc (place u m)) rs)
        ∙ (λ i. sym (take-map (entry_in f) (place u m) rs) i ++ sym (drop-map (entry_in f) (suc (place u m)) rs) i)
        ∙ ap (remove zs) (there u m) ∙ leave_at u m zs rises (has_there u m ∙ t)))
        (λ e. rw e (sym (leave_none u m zs rises (has_there u m ∙ e))))

    -- how many there are when a row has joined
    pub joined_count : (row : Row) → length (join (entry_in f row) zs) ≡ cond (has site_of number_of row.site row.number rs) (length rs) (length rs + 1)
    joined_count row = by_test (has site_of number_of row.site row.number rs)
        (λ t. rw t (sym (ap length (join_over (entry_in f row) zs rises (has_there row.site row.number ∙ t)))
        ∙ length-set zs (spot row.site row.number) (entry_in f row) ∙ length-map rs (entry_in f)))
        (λ e. rw e (sym (ap length (join_new (entry_in f row) zs rises (has_there row.site row.number ∙ e)))
        ∙ length-insert zs (spot row.site row.number) (entry_in f row) (rank_le (λ x. x.0) (λ x. x.1) row.site row.number zs)
        ∙ ap (λ n. n + 1) (length-map rs (entry_in f))))

-- a row has room
pub has_room : (b : Bool) (j l r : ℕ) → j ≡ cond b l (l + 1) → l ≤ r → true ≡ (b || ltb l r) → j ≤ r
has_room b j l r e w h = grind (arith, nat_tests)

-- and has none
pub has_none : (b : Bool) (j l r : ℕ) → j ≡ cond b l (l + 1) → false ≡ (b || ltb l r) → (r < j) × (j ≡ l + 1)
has_none b j l r e h = (grind (arith, nat_tests), grind (arith, nat_tests))

-- a calendar whose rows have not changed is the same
pub unchanged : {V : Type 0} (a : Calendar V) (rows : Rows Row 4096 stamped.ghosts) → rows ≡ a.rows → (h : list_all sound (in_use rows) ≡ true)
    → ◌≡◌ {A = Calendar V} (record { rows = rows; kind = a.kind; stamped = h }) a
unchanged a rows e h = λ i. record {
  rows = e i;
  kind = a.kind;
  stamped = is_prop→PathP (λ j. list_all sound (in_use (e j)) ≡ true) (λ j. Coded-set coded_bool (list_all sound (in_use (e j))) true) h a.stamped i;
}
