use Rattle.text.proofs.Puts.{more}
use Rattle.lines.specs.Lines.{ending}
use Rattle.lines.proofs.parts.put_cut.Goals as goal

pub returns : goal.returns
unfolding ending
returns c = more c.put_refused-a.ensures.put_in_turn c.put_last.ensures
