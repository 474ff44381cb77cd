use Rattle.messages.proofs.Printable.{names_printable}
use Rattle.messages.proofs.names_are_printable.Goals as goal

pub returns : goal.returns
returns c = names_printable
