use Rattle.std.proofs.Common.{eq-eqb}
use borrow.Author.Tests.{ne_eqb}
use Rattle.frame.specs.Reading.{blocks_of, blocks_with}
use Rattle.frame.proofs.Groups.{block_some}
use Rattle.frame.proofs.blocks.Goals as goal

pub returns-then-tag-ne1 : goal.returns-then-tag-ne1
unfolding blocks_with
returns-then-tag-ne1 c = rw (ne_eqb _ _ c.if-tag-ne1.true)

pub nonzero_div-result : goal.nonzero_div-result
nonzero_div-result c = rw c.block_bytes.ensures (block_some c.args.dbs)

pub returns : goal.returns
unfolding blocks_with blocks_of
returns c = rw (eq-eqb _ _ c.if-tag-ne1.false, c.block_bytes.ensures)
