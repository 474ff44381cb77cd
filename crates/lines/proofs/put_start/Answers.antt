use Rattle.std.proofs.Common.{arith}
use Rattle.text.proofs.Puts.{alone}
use Rattle.lines.proofs.Placing.{placed}
use Rattle.lines.proofs.put_start.Goals as goal

pub returns-clause-out_after : goal.returns-clause-out_after
returns-clause-out_after c = placed c.args.out.now c.args.at c.roomy.ensures c.if-not-roomy.false (alone c.put.ensures) (omega arith)
