use Rattle.std.proofs.Common.{arith, eq-eqb, ne_eqb}
use Rattle.tally.specs.Tally.{smallest, largest, sum}
use Rattle.text.proofs.Puts.{alone, more}
use Rattle.report_lines.specs.Columns.{sums_text, summed_text}
use Rattle.report_lines.proofs.Lengths.{summed_length}
use Rattle.report_lines.proofs.put_sums.Goals as goal

pub returns-then-sums-eq0-clause-put_in_turn : goal.returns-then-sums-eq0-clause-put_in_turn
unfolding sums_text
returns-then-sums-eq0-clause-put_in_turn c = rw (eq-eqb _ _ c.if-sums-eq0.true) (alone c.put.ensures)

pub returns-then-sums-eq0-clause-sums_len_bound : goal.returns-then-sums-eq0-clause-sums_len_bound
unfolding sums_text
returns-then-sums-eq0-clause-sums_len_bound c = rw (eq-eqb _ _ c.if-sums-eq0.true) (omega arith)

pub returns-clause-put_in_turn : goal.returns-clause-put_in_turn
unfolding sums_text summed_text
returns-clause-put_in_turn c =
    rw (ne_eqb _ _ c.if-sums-eq0.false)
    (more
    (more (more c.put_difference_column-a.ensures.put_in_turn c.put_difference_column-b.ensures.put_in_turn) c.put_difference_column-c.ensures.put_in_turn)
    c.put_mean.ensures.put_in_turn)

pub returns-clause-sums_len_bound : goal.returns-clause-sums_len_bound
unfolding sums_text
returns-clause-sums_len_bound c =
    let s = c.args.sums.now in
    rw (ne_eqb _ _ c.if-sums-eq0.false)
    (summed_length (smallest s) (largest s) (sum s) s.summed c.put_difference_column-a.ensures.b_len_bound c.put_difference_column-b.ensures.b_len_bound
    c.put_difference_column-c.ensures.b_len_bound c.put_mean.ensures.count_len_bound)
