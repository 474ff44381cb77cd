use Rattle.text.proofs.Puts.{alone, more}
use Rattle.messages.proofs.put_message.Goals as goal

pub returns : goal.returns
returns c =
    more c.put_about-end.ensures (more (alone c.put-end.ensures) (more (alone c.put-end-2.ensures) (alone c.put.ensures)))
