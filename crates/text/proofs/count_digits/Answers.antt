use Rattle.std.proofs.Common.{◌/◌, arith}
use Rattle.text.proofs.Decimals.{decimal_length, small_length, two_length, pair_length, four_length}
use Rattle.text.proofs.count_digits.Goals as goal

pub loop-high-init : goal.loop-high-init
loop-high-init c = (omega arith, decimal_length c.args.n c.ranges.n.fits)

pub loop-high-preserved : goal.loop-high-preserved
loop-high-preserved c = (omega (arith, four_length c.loop-high.high c.loop-high-test.true), c.loop-high.invariant.1)

pub returns-then-high-lt10 : goal.returns-then-high-lt10
returns-then-high-lt10 c = omega (arith, small_length c.loop-high.high c.if-high-lt10.true)

pub returns-then-high-lt100 : goal.returns-then-high-lt100
returns-then-high-lt100 c = omega (arith, two_length c.loop-high.high c.if-high-lt10.false c.if-high-lt100.true)

pub returns-then-high-lt1000 : goal.returns-then-high-lt1000
returns-then-high-lt1000 c =
    let high = c.loop-high.high in
    omega (arith, pair_length high c.if-high-lt100.false, small_length (high / 100) (omega arith))

pub returns : goal.returns
returns c =
    let high = c.loop-high.high in
    omega (arith, pair_length high c.if-high-lt100.false, two_length (high / 100) (omega arith) (omega arith))
