use Rattle.text.proofs.Puts.{alone, more}
use Rattle.lines.specs.Lines.{line_text}
use Rattle.lines.proofs.parts.put_admitted.Goals as goal

pub returns-clause-put_in_turn : goal.returns-clause-put_in_turn
unfolding line_text
returns-clause-put_in_turn c = more (alone c.put_decimal-a.ensures) (alone c.put.ensures)
