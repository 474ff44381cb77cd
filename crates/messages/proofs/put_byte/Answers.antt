use Rattle.std.proofs.Common.{sym, ◌∙◌}
use Rattle.text.proofs.Puts.{alone}
use Rattle.messages.specs.Messages.{shown_byte}
use Rattle.messages.proofs.put_byte.Goals as goal

pub returns-then-is_plain : goal.returns-then-is_plain
unfolding shown_byte
returns-then-is_plain c = rw (sym c.is_plain.ensures ∙ c.if-is_plain.true) (alone c.put.ensures)

pub returns : goal.returns
unfolding shown_byte
returns c = rw (sym c.is_plain.ensures ∙ c.if-is_plain.false) (alone c.put-2.ensures)
