use Rattle.text.proofs.Puts.{alone, more}
use Rattle.lines.proofs.parts.put_flag.Goals as goal

pub returns-then-raised : goal.returns-then-raised
returns-then-raised c = rw c.if-raised.true (more (alone c.put-a.ensures) (alone c.put.ensures))

pub returns : goal.returns
returns c = rw c.if-raised.false (more (alone c.put-a.ensures) (alone c.put-2.ensures))
