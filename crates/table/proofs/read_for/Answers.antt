use Rattle.std.proofs.Common.{ap, ◌∙◌}
use Rattle.refusal.proofs.First.{passed_on}
use Rattle.frame.specs.Reading.{read_answer}
use Rattle.table.proofs.Receiving.{too_long_reading, short_enough}
use Rattle.table.proofs.read_for.Goals as goal

pub returns-in_err-check_length : goal.returns-in_err-check_length
returns-in_err-check_length c =
    let r = c.in_err-check_length.field-0.0 in
    ap read_answer (passed_on c.from_residual.result r c.from_residual.ensures.1)
    ∙ too_long_reading c.args.n c.args.frame.now r c.in_err-check_length.ensures

pub returns : goal.returns
returns c = c.read.ensures ∙ short_enough c.args.n c.args.frame.now c.in_ok-check_length.ensures
