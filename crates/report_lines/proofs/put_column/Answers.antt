use Rattle.text.proofs.Puts.{alone, more}
use Rattle.report_lines.proofs.put_column.Goals as goal

pub returns-clause-put_in_turn : goal.returns-clause-put_in_turn
returns-clause-put_in_turn c = more (alone c.put_decimal-a.ensures) (alone c.put.ensures)
