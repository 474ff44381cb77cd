use Rattle.std.proofs.Common.{◌∙◌, ap}
use Rattle.refusal.proofs.First.{passed_on}
use Rattle.cycle.specs.Judgement.{judgement_answer}
use Rattle.cycle.proofs.Answers.{reader_refuses, reader_accepts}
use Rattle.cycle.proofs.judgement.judge.Goals as goal

pub returns-in_err-fields : goal.returns-in_err-fields
returns-in_err-fields c =
    ap judgement_answer (passed_on c.from_residual.result c.in_err-fields.field-0.0 c.from_residual.ensures.1)
    ∙ reader_refuses c.args.frame.now c.args.arrival_time c.read.ensures c.in_err-fields.was

pub returns : goal.returns
returns c = reader_accepts c.args.frame.now c.args.arrival_time c.read.ensures c.in_ok-fields.was c.judge_fields.ensures
