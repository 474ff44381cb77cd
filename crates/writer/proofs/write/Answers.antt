use Rattle.std.proofs.Common.{sym, ap, ◌∙◌}
use Rattle.refusal.proofs.First.{passed_on}
use Rattle.writer.specs.Writing.{write_answer}
use Rattle.writer.proofs.Accepted.{accepted}
use Rattle.writer.proofs.Answers.{refuses, sends}
use Rattle.writer.proofs.write.Goals as goal

pub returns-in_err-checked : goal.returns-in_err-checked
returns-in_err-checked c =
    let s = c.args.sender.now in
    let r = c.in_err-checked.field-0.0 in
    let told = refuses s c.args.given c.args.payload.now c.args.out.now r c.in_err-checked.ensures.number in
    record { result_value = ap (λ x. write_answer x s) (passed_on c.from_residual.result r c.from_residual.ensures.1) ∙ told.0; out_after = told.1 }

pub write-requires : goal.write-requires
write-requires c =
    let same = c.in_ok-checked.ensures.same in
    rw (same.0, same.1) (accepted _ _ _ (sym c.in_ok-checked.ensures.number)).output

pub returns : goal.returns
returns c =
    let same = c.in_ok-checked.ensures.same in
    let told = sends c.args.sender.now c.args.given c.args.payload.now c.args.out.now (sym c.in_ok-checked.ensures.number)
    (rw (← same.0, ← same.1) c.next.ensures) (rw (← same.0, ← same.1) c.write.ensures) in
    record { result_value = told.0; out_after = told.1 }
