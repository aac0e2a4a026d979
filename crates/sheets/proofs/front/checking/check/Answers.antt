use Rattle.std.proofs.Common.{ap, ◌∙◌}
use Rattle.std.proofs.lemmas.Result.{err_from_is_err_and}
use Rattle.std.specs.Option.{option_map}
use Rattle.tables.specs.Numbers.{in_row, number}
use Rattle.readers.specs.Capped.{capped}
use Rattle.sheets.specs.Judged.{head_judged, records_judged}
use Rattle.sheets.proofs.Judging.{bad_table, bad_own, bad_records, all_good}
use Rattle.sheets.proofs.front.checking.check.Goals as goal

pub returns-in_err-check_table : goal.returns-in_err-check_table
returns-in_err-check_table g c =
    let f = g.V.Kind.format in
    let seat = c.args.seat in
    let bs = c.args.bytes.now in
    let r = err_from_is_err_and c.from_residual-in_err-check_table.result c.from_residual-in_err-check_table.ensures.1 in
    let p =
    bad_table f seat (option_map in_row c.args.own) bs c.in_ok-writer.writer (c.in_ok-writer.ensures ∙ ap (λ z. head_judged seat.sites seat.own z bs) (c.CODE.ensures ∙ g.met.V.Kind.code_agrees))
    c.in_ok-front.ensures.value c.in_ok-front.front c.in_ok-front.ensures.fields
    c.in_err-check_table.field-0.0 c.in_err-check_table.ensures in
    rw (r.1, r.2) (record { value = p.0; rules = p.1 })

pub returns-in_err-check_own : goal.returns-in_err-check_own
returns-in_err-check_own g c =
    let f = g.V.Kind.format in
    let seat = c.args.seat in
    let bs = c.args.bytes.now in
    let r = err_from_is_err_and c.from_residual-in_err-check_own.result c.from_residual-in_err-check_own.ensures.1 in
    let p =
    bad_own f seat (option_map in_row c.args.own) bs c.in_ok-writer.writer (c.in_ok-writer.ensures ∙ ap (λ z. head_judged seat.sites seat.own z bs) (c.CODE.ensures ∙ g.met.V.Kind.code_agrees))
    c.in_ok-front.ensures.value c.in_ok-front.front c.in_ok-front.ensures.fields c.in_ok-check_table.ensures
    c.in_err-check_own.field-0.0 c.in_err-check_own.ensures in
    rw (r.1, r.2) (record { value = p.0; rules = p.1 })

pub returns-in_err-check : goal.returns-in_err-check
returns-in_err-check g c =
    let f = g.V.Kind.format in
    let seat = c.args.seat in
    let bs = c.args.bytes.now in
    let r = err_from_is_err_and c.from_residual-in_err-check.result c.from_residual-in_err-check.ensures.1 in
    let p =
    bad_records f seat (option_map in_row c.args.own) bs c.in_ok-writer.writer (c.in_ok-writer.ensures ∙ ap (λ z. head_judged seat.sites seat.own z bs) (c.CODE.ensures ∙ g.met.V.Kind.code_agrees))
    c.in_ok-front.ensures.value c.in_ok-front.front c.in_ok-front.ensures.fields c.in_ok-check_table.ensures c.in_ok-check_own.ensures
    (number c.table-table.result) c.table-table.ensures c.in_err-check.field-0.0
    (c.in_err-check.ensures
    ∙ (λ j. records_judged f (c.new-2.ensures.seat j).sites (capped (c.new-2.ensures.known j)) (c.new-2.ensures.bytes j) (c.new-2.ensures.stamps j) (c.new-2.ensures.place j))) in
    rw (r.1, r.2) (record { value = p.0; rules = p.1 })

pub returns : goal.returns
returns g c =
    let f = g.V.Kind.format in
    let seat = c.args.seat in
    let bs = c.args.bytes.now in
    let p =
    all_good f seat (option_map in_row c.args.own) bs c.in_ok-writer.writer (c.in_ok-writer.ensures ∙ ap (λ z. head_judged seat.sites seat.own z bs) (c.CODE.ensures ∙ g.met.V.Kind.code_agrees))
    c.in_ok-front.ensures.value c.in_ok-front.front c.in_ok-front.ensures.fields c.in_ok-check_table.ensures c.in_ok-check_own.ensures
    (number c.table-table.result) c.table-table.ensures
    (c.in_ok-check.ensures
    ∙ (λ j. records_judged f (c.new-2.ensures.seat j).sites (capped (c.new-2.ensures.known j)) (c.new-2.ensures.bytes j) (c.new-2.ensures.stamps j) (c.new-2.ensures.place j))) in
    record { value = p.0; rules = p.1 }
