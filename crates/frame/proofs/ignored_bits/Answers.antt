use Rattle.frame.proofs.Ignored.{ignored_bits}
use Rattle.frame.proofs.ignored_bits.Goals as goal

pub returns : goal.returns
returns c = ignored_bits
