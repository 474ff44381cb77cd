use Rattle.std.proofs.Common.{◌∙◌, arith}
use Rattle.text.proofs.Ends.{five_digits, six_digits, seven_digits, eight_digits}
use Rattle.text.proofs.put_up_to_eight.Goals as goal

pub returns-then-n-lt100000 : goal.returns-then-n-lt100000
returns-then-n-lt100000 c =
    let w = five_digits c.args.n c.eight_digits-text.result c.requires.1 c.eight_digits-text.ensures c.args.out.now c.args.at (omega arith) c.if-n-lt100000.true in
    let e = c.put_ends.ensures in
    (e.0 ∙ w.0, e.1 ∙ w.1)

pub returns-then-n-lt1000000 : goal.returns-then-n-lt1000000
returns-then-n-lt1000000 c =
    let w = six_digits c.args.n c.eight_digits-text.result c.requires.1 c.eight_digits-text.ensures c.args.out.now c.args.at c.if-n-lt100000.false c.if-n-lt1000000.true in
    let e = c.put_ends-then-n-lt1000000.ensures in
    (e.0 ∙ w.0, e.1 ∙ w.1)

pub returns-then-n-lt10000000 : goal.returns-then-n-lt10000000
returns-then-n-lt10000000 c =
    let w = seven_digits c.args.n c.eight_digits-text.result c.requires.1 c.eight_digits-text.ensures c.args.out.now c.args.at c.if-n-lt1000000.false c.if-n-lt10000000.true in
    let e = c.put_ends-then-n-lt10000000.ensures in
    (e.0 ∙ w.0, e.1 ∙ w.1)

pub returns : goal.returns
returns c =
    let w = eight_digits c.args.n c.eight_digits-text.result c.requires.1 c.eight_digits-text.ensures c.args.out.now c.args.at c.if-n-lt10000000.false in
    let e = c.put_ends-2.ensures in
    (e.0 ∙ w.0, e.1 ∙ w.1)
