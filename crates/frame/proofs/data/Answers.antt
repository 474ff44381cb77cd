use Rattle.std.proofs.Common.{◌+◌, ◌-◌, ◌≡◌, arith, length, eq-eqb}
use borrow.Author.Tests.{ne_eqb, lt-ltb, le-ltb}
use Rattle.frame.specs.Reading.{data_of}
use Rattle.frame.proofs.Answers.{data_beyond}
use Rattle.frame.proofs.data.Goals as goal

pub returns-then-frame-end-clause-result_value : goal.returns-then-frame-end-clause-result_value
returns-then-frame-end-clause-result_value c = data_beyond c.args.frame.now c.args.tag c.args.data_length (omega arith)

pub returns-then-tag-ne1-clause-result_value : goal.returns-then-tag-ne1-clause-result_value
unfolding data_of
returns-then-tag-ne1-clause-result_value c =
    let n = c.args.data_length in
    let d : 42 + n - 42 ≡ n - 0 = omega arith in
    rw (ne_eqb c.args.tag 1 c.if-tag-ne1.true)
    (rw (d, le-ltb n 0 (omega arith), le-ltb (length c.args.frame.now) (42 + n) (omega arith)))

pub returns-then-data_length-lt8-clause-result_value : goal.returns-then-data_length-lt8-clause-result_value
unfolding data_of
returns-then-data_length-lt8-clause-result_value c =
    rw (eq-eqb c.args.tag 1 c.if-tag-ne1.false) (rw (lt-ltb _ _ c.if-data_length-lt8.true))

pub returns-clause-result_value : goal.returns-clause-result_value
unfolding data_of
returns-clause-result_value c =
    let n = c.args.data_length in
    let d : 42 + n - 50 ≡ n - 8 = omega arith in
    rw (eq-eqb c.args.tag 1 c.if-tag-ne1.false)
    (rw (d, le-ltb n 8 (omega arith), le-ltb (length c.args.frame.now) (42 + n) (omega arith)))
