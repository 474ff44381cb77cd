use Rattle.text.proofs.Puts.{more}
use Rattle.lines.specs.Lines.{flags_text}
use Rattle.lines.proofs.parts.put_each_flag.Goals as goal

pub returns : goal.returns
unfolding flags_text
returns c = more (more (more c.put_flag-a.ensures c.put_block-b.ensures) c.put_flag-c.ensures) c.put_flag.ensures
