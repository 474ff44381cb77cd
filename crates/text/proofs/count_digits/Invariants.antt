use Rattle.std.proofs.Common.{◌+◌, ◌≡◌, ◌≤◌, length}
use Rattle.text.specs.Text.{decimal}
use Rattle.text.proofs.count_digits.Given as goal

-- the digits counted and those of the number that is left
abbrev pub invariant-loop-high : goal.invariant-loop-high
invariant-loop-high l = (l.count + length (decimal l.high) ≡ length (decimal l.n)) × (length (decimal l.n) ≤ 20)

abbrev pub decreases-loop-high : goal.decreases-loop-high
decreases-loop-high l = l.high
