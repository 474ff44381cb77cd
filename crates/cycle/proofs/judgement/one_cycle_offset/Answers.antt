use Rattle.cycle.proofs.Offsets.{one_cycle_offset}
use Rattle.cycle.proofs.judgement.one_cycle_offset.Goals as goal

pub returns : goal.returns
returns c = one_cycle_offset
