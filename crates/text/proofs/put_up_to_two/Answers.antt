use Rattle.std.proofs.Common.{arith}
use Rattle.text.proofs.Decimals.{decimal_small, decimal_two}
use Rattle.text.proofs.put_up_to_two.Goals as goal

pub returns-then-n-lt10 : goal.returns-then-n-lt10
returns-then-n-lt10 c = let e = decimal_small c.args.n c.if-n-lt10.true in (rw (e, c.digit.ensures), rw e)

pub returns : goal.returns
returns c = let e = decimal_two c.args.n c.if-n-lt10.false (omega arith) in (rw e c.put_pair.ensures, rw e)
