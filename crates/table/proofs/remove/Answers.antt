use Rattle.std.proofs.Common.{◌∙◌, sym, length}
use Rattle.refusal.proofs.First.{passed_on}
use Rattle.table.proofs.Searched.{missed}
use Rattle.table.proofs.Changing.{long, stopped, remove_refused, nothing_there, removed_at}
use Rattle.table.proofs.remove.Goals as goal

pub returns-in_err-check_length : goal.returns-in_err-check_length
returns-in_err-check_length c =
    let r = c.in_err-check_length.field-0.0 in
    rw (passed_on c.from_residual.result r c.from_residual.ensures.1)
    (remove_refused c.args.table.now c.args.id r (stopped (long (length c.args.table.now)) tt _ r c.in_err-check_length.ensures))

pub returns-in_err-i : goal.returns-in_err-i
returns-in_err-i c =
    let q = c.from_residual-in_err-i in
    let r = c.in_err-i.field-0.0 in
    rw (passed_on q.result r q.ensures.1)
    (nothing_there c.args.table.now c.args.id c.in_ok-check_length.ensures (sym c.place_of.ensures ∙ c.in_err-i.ensures.ok_part) r
    (missed _ c.in_err-i.ensures.ok_part c.in_err-i.ensures.value))

pub returns : goal.returns
returns c =
    rw c.unused.ensures
    (removed_at c.args.table.now c.args.id c.in_ok-check_length.ensures c.in_ok-i.i (sym c.place_of.ensures ∙ c.in_ok-i.ensures.ok_part))
