use Rattle.text.proofs.Puts.{alone, more}
use Rattle.report_lines.proofs.Differences.{below, not_below, difference_length}
use Rattle.report_lines.proofs.put_difference.Goals as goal

pub returns-then-a-b-clause-put_in_turn : goal.returns-then-a-b-clause-put_in_turn
returns-then-a-b-clause-put_in_turn c = rw (below c.args.a c.args.b c.if-a-b.true) (more (alone c.put-m.ensures) (alone c.put_decimal.ensures))

pub returns-then-a-b-clause-b_len_bound : goal.returns-then-a-b-clause-b_len_bound
returns-then-a-b-clause-b_len_bound c = difference_length c.args.a c.args.b c.ranges.a.fits c.ranges.b.fits

pub returns-clause-put_in_turn : goal.returns-clause-put_in_turn
returns-clause-put_in_turn c = rw (not_below c.args.a c.args.b c.if-a-b.false) (alone c.put_decimal-2.ensures)

pub returns-clause-b_len_bound : goal.returns-clause-b_len_bound
returns-clause-b_len_bound c = difference_length c.args.a c.args.b c.ranges.a.fits c.ranges.b.fits
