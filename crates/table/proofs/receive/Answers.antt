use Rattle.std.proofs.Common.{sym, ◌∙◌}
use Rattle.refusal.proofs.First.{passed_on}
use Rattle.table.proofs.Searched.{missed}
use Rattle.table.proofs.Receiving.{receives_refused, receives_unadmitted, receives_served}
use Rattle.tally.specs.Tally as Tally
use Rattle.stream.specs.Records as Records
use Rattle.table.proofs.receive.Goals as goal

pub returns-in_err-fields : goal.returns-in_err-fields
returns-in_err-fields c =
    let r = c.in_err-fields.field-0.0 in
    rw (passed_on c.from_residual.result r c.from_residual.ensures.1)
    (receives_refused c.args.table.now c.args.frame.now c.args.arrival_time r c.in_err-fields.ensures)

pub returns-in_err-i : goal.returns-in_err-i
returns-in_err-i c =
    let q = c.from_residual-in_err-i in
    let r = c.in_err-i.field-0.0 in
    rw (passed_on q.result r q.ensures.1)
    (receives_unadmitted c.args.table.now c.args.frame.now c.args.arrival_time c.in_ok-fields.fields c.in_ok-fields.ensures
    (sym c.place_of.ensures ∙ c.in_err-i.ensures.ok_part) r (missed _ c.in_err-i.ensures.ok_part c.in_err-i.ensures.value))

-- a record that is not in the table reads as an unused one
pub returns : goal.returns
unfolding Records.unused Tally.no_tally
returns c =
    rw (c.serve.ensures.answer, c.serve.ensures.after)
    (receives_served c.args.table.now c.args.frame.now c.args.arrival_time c.in_ok-fields.fields c.in_ok-fields.ensures c.in_ok-i.i
    (sym c.place_of.ensures ∙ c.in_ok-i.ensures.ok_part))
