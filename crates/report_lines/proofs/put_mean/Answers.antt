use Rattle.std.proofs.Common.{◌++◌, append_assoc, pos, ◌-ℤ◌}
use Rattle.text.specs.Text.{ascii, decimal, signed}
use Rattle.text.proofs.Puts.{alone, more}
use Rattle.report_lines.specs.Columns.{mean_text}
use Rattle.report_lines.proofs.Lengths.{mean_length}
use Rattle.report_lines.proofs.put_mean.Goals as goal

pub returns-clause-put_in_turn : goal.returns-clause-put_in_turn
unfolding mean_text
returns-clause-put_in_turn c =
    let total = pos c.args.sum -ℤ pos c.args.below in
    rw (append_assoc (signed total ++ ascii "/") (decimal c.args.count) (ascii " "))
    (more (more c.put_difference-a.ensures.put_in_turn (alone c.put-b.ensures)) c.put_column.ensures.put_in_turn)

pub returns-clause-count_len_bound : goal.returns-clause-count_len_bound
returns-clause-count_len_bound c = mean_length (pos c.args.sum -ℤ pos c.args.below) c.args.count c.put_difference-a.ensures.b_len_bound c.put_column.ensures.n_len_bound
