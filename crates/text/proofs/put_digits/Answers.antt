use Rattle.std.proofs.Common.{ℕ, ◌+◌, ◌-◌, ◌/◌, ◌%◌, ◌≡◌, ◌≤◌, List, [], ◌∷◌, ◌∙◌, arith, length}
use Rattle.std.proofs.lemmas.List.Edits.{sets}
use Rattle.text.specs.Text.{decimal}
use Rattle.text.proofs.Decimals.{decimal_small, decimal_two, decimal_pair, small_length, pair_length, two_length}
use Rattle.text.proofs.Sets.{end_first}
use Rattle.text.proofs.put_digits.Goals as goal

-- a turn of the loop: the last two digits are put before the others
pair_first : (d : List ℕ) (at n : ℕ) → 100 ≤ n → sets (sets d (at + length (decimal (n / 100))) ((48 + n % 100 / 10) ∷ (48 + n % 100 % 10) ∷ [])) at (decimal (n / 100)) ≡ sets d at (decimal n)
pair_first d at n h = rw (decimal_pair n h) (end_first (decimal (n / 100)) ((48 + n % 100 / 10) ∷ (48 + n % 100 % 10) ∷ []) d at)

pub overflow_sub-i : goal.overflow_sub-i
overflow_sub-i c = omega (arith, pair_length c.loop-high.high c.loop-high-test.true)

pub put_pair-requires : goal.put_pair-requires
put_pair-requires c = (omega (arith, pair_length c.loop-high.high c.loop-high-test.true), omega arith)

pub loop-high-preserved : goal.loop-high-preserved
loop-high-preserved c =
    let l = c.loop-high in
    let h = c.loop-high-test.true in
    let e : l.i - 2 ≡ c.args.at + length (decimal (l.high / 100)) = omega (arith, pair_length l.high h) in
    (e, omega arith, rw (c.put_pair.ensures, e) (pair_first l.out c.args.at l.high h ∙ l.invariant.2))

pub bounds-out-at : goal.bounds-out-at
bounds-out-at c = omega (arith, small_length c.loop-high.high c.if-high-lt10.true)

pub put_pair-requires-else-high-lt10 : goal.put_pair-requires-else-high-lt10
put_pair-requires-else-high-lt10 c = (omega (arith, two_length c.loop-high.high c.if-high-lt10.false (omega arith)), omega arith)

pub returns-then-high-lt10 : goal.returns-then-high-lt10
returns-then-high-lt10 c = rw c.digit.ensures (rw (decimal_small c.loop-high.high c.if-high-lt10.true) at c.loop-high.invariant.2)

pub returns-else-high-lt10 : goal.returns-else-high-lt10
returns-else-high-lt10 c = c.put_pair-else-high-lt10.ensures ∙ rw (decimal_two c.loop-high.high c.if-high-lt10.false (omega arith)) at c.loop-high.invariant.2
