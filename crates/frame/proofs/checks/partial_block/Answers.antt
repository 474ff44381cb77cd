use Rattle.frame.proofs.Groups.{block_some}
use Rattle.frame.proofs.checks.partial_block.Goals as goal

pub nonzero_rem-result : goal.nonzero_rem-result
nonzero_rem-result c = rw c.block_bytes.ensures (block_some c.args.dbs)
