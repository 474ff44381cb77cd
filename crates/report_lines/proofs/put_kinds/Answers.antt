use Rattle.report_lines.proofs.Lengths.{kinds_columns}
use Rattle.report_lines.proofs.put_kinds.Goals as goal

pub returns-clause-put_in_turn : goal.returns-clause-put_in_turn
returns-clause-put_in_turn c = rw (kinds_columns c.args.kinds.now) at c.put_columns.ensures.put_in_turn

pub returns-clause-kinds_len_bound : goal.returns-clause-kinds_len_bound
returns-clause-kinds_len_bound c = rw (kinds_columns c.args.kinds.now) at c.put_columns.ensures.numbers_len_bound
