use Rattle.std.proofs.Common.{arith}
use Rattle.text.proofs.Puts.{none_put}
use Rattle.messages.specs.Messages.{shown}
use Rattle.messages.proofs.Names.{one_more, all_put}
use Rattle.messages.proofs.put_shown.Goals as goal

pub loop-b-init : goal.loop-b-init
unfolding shown
loop-b-init c = none_put c.args.out.now c.args.at (omega arith)

pub loop-b-preserved : goal.loop-b-preserved
loop-b-preserved c = one_more c.args.name.now c.loop-b.b-index c.loop-b.invariant (omega arith) c.put_byte-end.ensures

pub returns : goal.returns
returns c = all_put c.args.name.now c.loop-b.b-index c.loop-b.invariant (omega arith)
