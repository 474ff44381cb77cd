use Rattle.std.proofs.Common.{◌-◌, length}
use Rattle.listing.proofs.Turns.{Going}
use Rattle.listing.proofs.chunk.list_chunk.Given as goal

abbrev pub invariant-loop-next : goal.invariant-loop-next
invariant-loop-next l = Going l.shown l.chunk l.fn.table l.records l.fn.out l.p l.table l.out

abbrev pub decreases-loop-next : goal.decreases-loop-next
decreases-loop-next l = length l.chunk - l.p.at
