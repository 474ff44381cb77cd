use Rattle.report_lines.proofs.Lengths.{counts_columns}
use Rattle.report_lines.proofs.put_counts.Goals as goal

pub returns-clause-put_in_turn : goal.returns-clause-put_in_turn
returns-clause-put_in_turn c = rw (counts_columns c.args.counts.now) at c.put_columns.ensures.put_in_turn

pub returns-clause-counts_len_bound : goal.returns-clause-counts_len_bound
returns-clause-counts_len_bound c = rw (counts_columns c.args.counts.now) at c.put_columns.ensures.numbers_len_bound
