use Rattle.text.proofs.Puts.{alone, more}
use Rattle.messages.proofs.put_about.Goals as goal

pub returns : goal.returns
returns c = more (alone c.put-end.ensures) (more (alone c.put-end-2.ensures) c.put_shown.ensures)
