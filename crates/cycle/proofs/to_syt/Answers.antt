use Rattle.std.proofs.Common.{sym, ap, ◌∙◌}
use Rattle.refusal.proofs.First.{passed_on}
use Rattle.cycle.specs.CycleTime.{syt_answer}
use Rattle.cycle.proofs.Answers.{no_syt, the_syt, joined_syt, syt_below}
use Rattle.cycle.proofs.to_syt.Goals as goal

pub returns-in_err-check_cycle_time : goal.returns-in_err-check_cycle_time
returns-in_err-check_cycle_time c =
    ap syt_answer (passed_on c.from_residual.result c.in_err-check_cycle_time.field-0.0 c.from_residual.ensures.1)
    ∙ no_syt c.args.time _ c.in_err-check_cycle_time.ensures

pub overflow_cast-field : goal.overflow_cast-field
overflow_cast-field c =
    let in_range = sym c.in_ok-check_cycle_time.ensures in
    record { fits = rw (joined_syt c.args.time in_range) (syt_below c.args.time in_range) }

pub returns : goal.returns
returns c = the_syt c.args.time c.in_ok-check_cycle_time.ensures (joined_syt c.args.time (sym c.in_ok-check_cycle_time.ensures))
