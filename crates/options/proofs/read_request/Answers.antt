use Rattle.std.proofs.Common.{arith}
use Rattle.options.proofs.Arguments.{an_option, one_more, all_names}
use Rattle.options.proofs.read_request.Goals as goal

pub returns-in-Some : goal.returns-in-Some
returns-in-Some g c = an_option c.loop-i.invariant.0 c.word_at.ensures c.in-Some.is c.loop-i-test.true

pub loop-i-preserved : goal.loop-i-preserved
loop-i-preserved g c = (one_more c.loop-i.invariant.0 c.word_at.ensures c.in_default.is, omega arith)

pub returns : goal.returns
returns g c = all_names c.loop-i.invariant.0 c.loop-i.invariant.1 c.loop-i-test.false
