use Rattle.text.proofs.Puts.{alone, more}
use Rattle.lines.specs.Lines.{line_text}
use Rattle.lines.proofs.parts.put_frame.Goals as goal

pub returns-clause-put_in_turn : goal.returns-clause-put_in_turn
unfolding line_text
returns-clause-put_in_turn c = more (more (alone c.put_decimal-a.ensures) c.put_flags-b.ensures) c.put_timing.ensures.put_in_turn
