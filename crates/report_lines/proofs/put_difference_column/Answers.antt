use Rattle.text.proofs.Puts.{alone, more}
use Rattle.report_lines.proofs.put_difference_column.Goals as goal

pub returns-clause-put_in_turn : goal.returns-clause-put_in_turn
returns-clause-put_in_turn c = more c.put_difference-m.ensures.put_in_turn (alone c.put.ensures)
