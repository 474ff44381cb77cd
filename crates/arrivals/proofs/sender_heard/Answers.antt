use Rattle.arrivals.proofs.Listener.{listener}
use Rattle.arrivals.proofs.sender_heard.Goals as goal

pub returns : goal.returns
returns c = listener
