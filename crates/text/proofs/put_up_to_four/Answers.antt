use Rattle.std.proofs.Common.{◌+◌, ◌/◌, ◌%◌, [], ◌∷◌, ◌∙◌, arith}
use Rattle.text.specs.Text.{decimal}
use Rattle.text.proofs.Decimals.{below_power, decimal_pair, pair_length}
use Rattle.text.proofs.Sets.{front_first}
use Rattle.text.proofs.put_up_to_four.Goals as goal

-- the front has no more digits than there is room for before the last two
pub put_pair-requires : goal.put_pair-requires
put_pair-requires c = (omega (arith, below_power 1 (c.args.n / 100) (omega arith)), omega arith)

pub overflow_add-result : goal.overflow_add-result
overflow_add-result c = omega (arith, below_power 1 (c.args.n / 100) (omega arith))

pub returns : goal.returns
returns c =
    let n = c.args.n in
    let e = c.put_up_to_two-next.ensures in (
      c.put_pair.ensures ∙ rw (e.0, e.1) (front_first (decimal (n / 100)) ((48 + n % 100 / 10) ∷ (48 + n % 100 % 10) ∷ []) (decimal n) c.args.out.now c.args.at (decimal_pair n c.if-n-lt100.false)),
      omega (arith, e.1, pair_length n c.if-n-lt100.false),
    )
