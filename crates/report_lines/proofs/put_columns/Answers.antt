use Rattle.std.proofs.Common.{ℕ, arith}
use Rattle.text.specs.Text.{decimal}
use Rattle.text.proofs.Puts.{none_put}
use Rattle.report_lines.specs.Columns.{column}
use Rattle.report_lines.specs.Private.{columns}
use Rattle.report_lines.proofs.Each.{columns_end, one_more, all_put, all_short}
use Rattle.report_lines.proofs.put_columns.Goals as goal

pub loop-n-init : goal.loop-n-init
unfolding columns
loop-n-init c = record { few = omega arith; put = none_put c.args.out.now c.args.at (omega (arith, c.ranges.at.fits)); short = omega arith }

pub loop-n-preserved : goal.loop-n-preserved
loop-n-preserved c =
    one_more columns (λ (n : ℕ). column (decimal n)) 21 columns_end c.args.numbers.now c.loop-n.n-index c.loop-n.invariant 0 c.loop-n-test.true
    c.put_column-end.ensures.put_in_turn c.put_column-end.ensures.n_len_bound

pub returns-clause-put_in_turn : goal.returns-clause-put_in_turn
returns-clause-put_in_turn c = all_put columns (λ (n : ℕ). column (decimal n)) 21 c.args.numbers.now c.loop-n.n-index c.loop-n.invariant c.loop-n-test.false

pub returns-clause-numbers_len_bound : goal.returns-clause-numbers_len_bound
returns-clause-numbers_len_bound c = all_short columns (λ (n : ℕ). column (decimal n)) 21 c.args.numbers.now c.loop-n.n-index c.loop-n.invariant c.loop-n-test.false
