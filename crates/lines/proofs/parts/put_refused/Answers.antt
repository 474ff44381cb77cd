use Rattle.std.proofs.Common.{◌∙◌}
use Rattle.text.proofs.Puts.{alone, more}
use Rattle.lines.specs.Lines.{line_text}
use Rattle.lines.proofs.parts.put_refused.Goals as goal

pub returns-clause-put_in_turn : goal.returns-clause-put_in_turn
unfolding line_text
returns-clause-put_in_turn c = more (more (more (alone c.put_decimal-a.ensures) (alone c.put-b.ensures)) (rw (c.from-2.ensures ∙ c.from.ensures) at (alone c.put_decimal-c.ensures))) (alone c.put.ensures)
