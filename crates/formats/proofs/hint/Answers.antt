use Rattle.std.proofs.Common.{arith}
use Rattle.text.proofs.Puts.{none_put}
use Rattle.formats.proofs.hint.Goals as goal

pub returns-in-None : goal.returns-in-None
returns-in-None g c = rw c.in-None.is (none_put c.args.room.now 0 (omega arith))
