use Rattle.std.proofs.Common.{arith}
use Rattle.text.proofs.Puts.{none_put}
use Rattle.report_lines.proofs.put_used.Goals as goal

pub returns-clause-put_in_turn : goal.returns-clause-put_in_turn
returns-clause-put_in_turn c = rw c.if-r.false (none_put c.args.out.now c.args.at (omega (arith, c.ranges.at.fits)))
