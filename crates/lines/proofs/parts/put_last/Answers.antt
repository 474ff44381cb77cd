use Rattle.text.proofs.Puts.{alone, more}
use Rattle.lines.specs.Lines.{end_line}
use Rattle.lines.proofs.parts.put_last.Goals as goal

pub returns : goal.returns
unfolding end_line
returns c = more (more (alone c.put-a.ensures) (alone c.put_decimal-b.ensures)) (alone c.put.ensures)
