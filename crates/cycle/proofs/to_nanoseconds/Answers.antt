use Rattle.std.proofs.Common.{sym, ap, ◌∙◌}
use Rattle.refusal.proofs.First.{passed_on}
use Rattle.cycle.specs.CycleTime.{first_nanosecond, time_answer}
use Rattle.cycle.proofs.Answers.{no_time_lem, the_time}
use Rattle.cycle.proofs.Range.{ticks_below}
use Rattle.cycle.proofs.to_nanoseconds.Goals as goal

pub returns-in_err-check_cycle_time : goal.returns-in_err-check_cycle_time
returns-in_err-check_cycle_time c =
    ap time_answer (passed_on c.from_residual.result c.in_err-check_cycle_time.field-0.0 c.from_residual.ensures.1)
    ∙ no_time_lem c.args.time _ c.in_err-check_cycle_time.ensures

pub first_nanosecond-requires : goal.first_nanosecond-requires
first_nanosecond-requires c = rw c.ticks_of.ensures (ticks_below c.args.time (sym c.in_ok-check_cycle_time.ensures))

pub returns : goal.returns
returns c = the_time c.args.time c.in_ok-check_cycle_time.ensures (c.first_nanosecond.ensures ∙ ap first_nanosecond c.ticks_of.ensures)
