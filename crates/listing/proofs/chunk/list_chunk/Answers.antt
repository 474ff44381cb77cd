use Rattle.listing.proofs.Turns.{begun, turned}
use Rattle.listing.proofs.chunk.list_chunk.Goals as goal

pub loop-next-init : goal.loop-next-init
loop-next-init c = begun _ _ _ _ _

pub list_record-requires : goal.list_record-requires
list_record-requires c = c.loop-next.invariant.at

pub loop-next-smaller : goal.loop-next-smaller
loop-next-smaller c = (turned _ _ _ _ _ _ _ _ c.loop-next.invariant _ _ _ c.in-Some.ensures).1

pub loop-next-preserved : goal.loop-next-preserved
loop-next-preserved c = (turned _ _ _ _ _ _ _ _ c.loop-next.invariant _ _ _ c.in-Some.ensures).0

pub returns : goal.returns
returns c = turned _ _ _ _ _ _ _ _ c.loop-next.invariant _ _ _ c.in_default.ensures
