-- What the rows of a calendar mean.
-- Assumes nothing.
use Rattle.std.specs.Prelude.{◌≡◌, ℕ, ◌≤◌, true, List, length}
use Rattle.std.proofs.Common.{sym, ◌∙◌, subst, arith}
use Rattle.std.specs.List.{list_all}
use Rattle.std.proofs.lemmas.List.{length-take-le, length-map}
use Rattle.rules.specs.Entries.{room}
use Rattle.kinds.specs.Formats.{Format}
use Rattle.places.specs.Ranks.{possible, ascends}
use Rattle.places.proofs.Order.{ascending_told, all_possible}
use Rattle.places.proofs.Mapped.{all_map, ascends-map}
use Rattle.places.specs.Used.{in_use}
use Rattle.calendars.specs.declared.row.Row.{Row}
use Rattle.calendars.specs.declared.calendar.Calendar.{Calendar}
use Rattle.calendars.specs.Rows.{site_of, number_of, sound, entry_in, entries_in}
use Rattle.calendars.specs.Meanings.{Meaning, Lawful}

pub lawful_entries : {V : Type 0} (f : Format V) (rs : List Row) (M : ℕ) → list_all sound rs ≡ true → ascends site_of number_of rs ≡ true → length rs ≤ M → length rs ≤ 4096
    → Lawful (entries_in f rs) (room M)
lawful_entries f rs M fine asc within few =
    record {
      ascending = ascending_told (entries_in f rs) (sym (ascends-map (entry_in f) (λ x. x.0) (λ x. x.1) rs) ∙ asc);
      possible = all_possible (entries_in f rs) (sym (all_map (entry_in f) (λ x. possible x.0 x.1) rs) ∙ fine);
      within = let e = length-map rs (entry_in f) in omega arith;
      bound = omega arith;
    }

-- the entries in the rows in use, and the room of so many rows
abbrev pub calendar_means : {V : Type 0} → Format V → Calendar V → Meaning V
calendar_means f c =
    record {
      entries = entries_in f (in_use c.rows);
      room = room (length c.rows.rows.now);
      lawful =
          let e = length-take-le c.rows.len c.rows.rows.now c.rows.within in
          lawful_entries f (in_use c.rows) (length c.rows.rows.now) c.stamped c.rows.ascending
          (subst (λ n. n ≤ length c.rows.rows.now) (sym e) c.rows.within) (subst (λ n. n ≤ 4096) (sym e) c.rows.few);
    }
