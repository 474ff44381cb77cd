use Rattle.std.proofs.Common.{sym, ◌∙◌}
use Rattle.refusal.proofs.First.{passed_on}
use Rattle.table.proofs.Receiving.{alone_refused, alone_unadmitted, alone_served}
use Rattle.table.proofs.receive_record.Goals as goal

pub returns-in_err-fields : goal.returns-in_err-fields
returns-in_err-fields c =
    let r = c.in_err-fields.field-0.0 in
    rw (passed_on c.from_residual.result r c.from_residual.ensures.1)
    (alone_refused c.args.lent.now c.args.frame.now c.args.arrival_time r c.in_err-fields.ensures)

pub returns-then-not-holds : goal.returns-then-not-holds
returns-then-not-holds c =
    alone_unadmitted c.args.lent.now c.args.frame.now c.args.arrival_time c.in_ok-fields.fields c.in_ok-fields.ensures
    (sym c.holds.ensures ∙ c.if-not-holds.true)

pub returns : goal.returns
returns c =
    rw c.serve_alone-stepped.ensures
    (alone_served c.args.lent.now c.args.frame.now c.args.arrival_time c.in_ok-fields.fields c.in_ok-fields.ensures
    (sym c.holds.ensures ∙ c.if-not-holds.false))
