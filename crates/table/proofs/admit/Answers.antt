use Rattle.std.proofs.Common.{◌∙◌, sym, ap, length}
use Rattle.std.specs.Option.{is_some}
use Rattle.refusal.proofs.First.{passed_on}
use Rattle.table.proofs.Searched.{missed}
use Rattle.table.proofs.Changing.{long, stopped, admit_refused, already, too_large, full, admitted_at}
use Rattle.table.proofs.admit.Goals as goal

pub returns-in_err-check_length : goal.returns-in_err-check_length
returns-in_err-check_length c =
    let r = c.in_err-check_length.field-0.0 in
    rw (passed_on c.from_residual.result r c.from_residual.ensures.1)
    (admit_refused c.args.limit c.args.table.now c.args.id r (stopped (long (length c.args.table.now)) tt _ r c.in_err-check_length.ensures))

pub returns-then-is_some : goal.returns-then-is_some
returns-then-is_some c =
    already c.args.limit c.args.table.now c.args.id c.in_ok-check_length.ensures (ap is_some (sym c.place_of.ensures) ∙ sym c.if-is_some.ensures)

pub returns-in_err-check_limit : goal.returns-in_err-check_limit
returns-in_err-check_limit c =
    let q = c.from_residual-in_err-check_limit in
    let r = c.in_err-check_limit.field-0.0 in
    rw (passed_on q.result r q.ensures.1)
    (too_large c.args.limit c.args.table.now c.args.id c.in_ok-check_length.ensures (ap is_some (sym c.place_of.ensures) ∙ sym c.if-is_some.ensures)
    r c.in_err-check_limit.ensures)

pub returns-in_err-i : goal.returns-in_err-i
returns-in_err-i c =
    let q = c.from_residual-in_err-i in
    let r = c.in_err-i.field-0.0 in
    rw (passed_on q.result r q.ensures.1)
    (full c.args.limit c.args.table.now c.args.id c.in_ok-check_length.ensures (ap is_some (sym c.place_of.ensures) ∙ sym c.if-is_some.ensures)
    c.in_ok-check_limit.ensures (sym c.free_place.ensures ∙ c.in_err-i.ensures.ok_part) r (missed _ c.in_err-i.ensures.ok_part c.in_err-i.ensures.value))

pub returns : goal.returns
returns c =
    rw c.admitted_within.ensures
    (admitted_at c.args.limit c.args.table.now c.args.id c.in_ok-check_length.ensures (ap is_some (sym c.place_of.ensures) ∙ sym c.if-is_some.ensures)
    c.in_ok-check_limit.ensures c.in_ok-i.i (sym c.free_place.ensures ∙ c.in_ok-i.ensures.ok_part))
