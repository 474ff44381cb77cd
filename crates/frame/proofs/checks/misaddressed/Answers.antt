use Rattle.wire.proofs.Bits.{masks}
use Rattle.frame.specs.Checks.{misaddressed}
use Rattle.frame.proofs.checks.misaddressed.Goals as goal

pub returns : goal.returns
unfolding misaddressed
returns c = simp masks
