use Rattle.std.proofs.Common.{◌∙◌, arith}
use Rattle.cycle.proofs.Answers.{answers_none, offset_too_large_lem, by_offset, due_tick_lem}
use Rattle.cycle.proofs.judgement.judge_fields.Goals as goal

pub returns-then-gives_none : goal.returns-then-gives_none
returns-then-gives_none c = answers_none c.args.fields c.args.arrival_time c.if-gives_none.ensures

pub returns-then-offset-gt3071 : goal.returns-then-offset-gt3071
returns-then-offset-gt3071 c = offset_too_large_lem c.args.fields c.args.arrival_time c.if-gives_none.ensures c.if-offset-gt3071.true

pub returns : goal.returns
returns c =
    by_offset c.args.fields c.args.arrival_time c.if-gives_none.ensures c.if-offset-gt3071.false
    (c.reckon.ensures ∙ rw (c.tick_in_second.ensures, due_tick_lem c.args.fields.cip.low_half (omega arith)))
