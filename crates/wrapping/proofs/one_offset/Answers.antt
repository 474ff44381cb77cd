use Rattle.wrapping.proofs.Offset.{one_offset}
use Rattle.wrapping.proofs.one_offset.Goals as goal

pub returns : goal.returns
returns c = one_offset
