use Rattle.presentation.proofs.Offset.{one_offset}
use Rattle.presentation.proofs.one_offset.Goals as goal

pub returns : goal.returns
returns c = one_offset
