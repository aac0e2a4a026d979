use Rattle.std.proofs.Common.{◌≡◌, ◌+◌, ◌≤◌, min, true, false, cond, is_ok, length, Err, sym, refl, ap, ◌∙◌, subst, arith}
use Rattle.std.proofs.lemmas.List.{length-take-le}
use Rattle.std.specs.List.{list_all}
use Rattle.rules.specs.Refusals.{calendar_full}
use Rattle.rules.specs.Entries.{room, join}
use Rattle.rules.proofs.Stored.{room_passes, room_over}
use Rattle.places.specs.Edits.{has, with_put}
use Rattle.places.specs.Used.{in_use}
use Rattle.calendars.specs.Rows.{site_of, number_of, sound, entries_in}
use Rattle.calendars.specs.Meanings.{left}
use Rattle.places.proofs.Edited.{all_put}
use Rattle.calendars.proofs.Rowed.{joined, joined_count, has_room, has_none, unchanged}
use Rattle.calendars.proofs.calendar.Calendar.join.Goals as goal

pub invariant_of-self : goal.invariant_of-self
invariant_of-self g c =
    let s = c.args.self.now in
    let rs = in_use s.rows in
    let row = c.of.result in
    record {
      stamped = subst (λ zs. list_all sound zs ≡ true) (sym c.put.ensures.used)
          (elim (is_ok c.put.result) as (λ b. list_all sound (cond b (with_put site_of number_of row rs) rs) ≡ true)
          [ true ↦ all_put site_of number_of sound rs s.stamped row c.of.ensures.sound | false ↦ s.stamped ]);
    }

pub returns-in-Ok-clause-answer : goal.returns-in-Ok-clause-answer
returns-in-Ok-clause-answer g c =
    let s = c.args.self.now in
    let f = g.V.Kind.format in
    let rs = in_use s.rows in
    let row = c.of.result in
    let J = join (c.args.at.site, c.args.at.number, c.args.value) (entries_in f rs) in
    let e = length-take-le s.rows.len s.rows.rows.now s.rows.within in
    let few = s.rows.few in
    let within = s.rows.within in
    let r = min (length s.rows.rows.now) 4096 in
    let l : length rs ≤ r = omega arith in
    let n = sym (ap (λ x. length (join x (entries_in f rs))) c.of.ensures.keeps) ∙ joined_count f rs s.rows.ascending row in
    sym (room_passes (room (length s.rows.rows.now)) J (has_room (has site_of number_of row.site row.number rs) (length J) (length rs) r n l c.in-Ok.ensures.answer))

pub returns-in-Ok-clause-entries : goal.returns-in-Ok-clause-entries
returns-in-Ok-clause-entries g c =
    let s = c.args.self.now in
    let f = g.V.Kind.format in
    let rs = in_use s.rows in
    let row = c.of.result in
    let J = join (c.args.at.site, c.args.at.number, c.args.value) (entries_in f rs) in
    let ok = returns-in-Ok-clause-answer g c in
    ap (entries_in f) c.in-Ok.ensures.used ∙ joined f rs s.rows.ascending row ∙ ap (λ x. join x (entries_in f rs)) c.of.ensures.keeps
    ∙ ap (left (entries_in f rs) J) ok

pub returns-in-Err-clause-answer : goal.returns-in-Err-clause-answer
returns-in-Err-clause-answer g c =
    let s = c.args.self.now in
    let f = g.V.Kind.format in
    let rs = in_use s.rows in
    let row = c.of.result in
    let J = join (c.args.at.site, c.args.at.number, c.args.value) (entries_in f rs) in
    let r = min (length s.rows.rows.now) 4096 in
    let n = sym (ap (λ x. length (join x (entries_in f rs))) c.of.ensures.keeps) ∙ joined_count f rs s.rows.ascending row in
    let o = has_none (has site_of number_of row.site row.number rs) (length J) (length rs) r n c.in-Err.ensures.answer in
    let k : c.len.result ≡ length rs = c.len.ensures.value ∙ ap length c.in-Err.ensures.used in
    sym (room_over (room (length s.rows.rows.now)) J o.0 ∙ ap (λ x. Err (calendar_full x)) (o.1 ∙ ap (λ x. x + 1) (sym k)))

pub returns-in-Err-clause-entries : goal.returns-in-Err-clause-entries
returns-in-Err-clause-entries g c =
    let s = c.args.self.now in
    let f = g.V.Kind.format in
    let rs = in_use s.rows in
    let J = join (c.args.at.site, c.args.at.number, c.args.value) (entries_in f rs) in
    ap (entries_in f) c.in-Err.ensures.used ∙ ap (left (entries_in f rs) J) (returns-in-Err-clause-answer g c)

pub returns-in-Err-clause-kept : goal.returns-in-Err-clause-kept
returns-in-Err-clause-kept g c = λ h. unchanged c.args.self.now c.put.new.self (c.in-Err.ensures.kept refl) _
