use Rattle.std.proofs.Common.{◌+◌, ◌≡◌, ◌≤◌, length}
use Rattle.std.proofs.lemmas.List.Edits.{sets}
use Rattle.text.specs.Text.{decimal}
use Rattle.text.proofs.put_digits.Given as goal

-- once the digits of the number that is left are put too, all are
abbrev pub invariant-loop-high : goal.invariant-loop-high
invariant-loop-high l = (l.i ≡ l.at + length (decimal l.high)) × (l.i ≤ length l.fn.out) × (sets l.out l.at (decimal l.high) ≡ sets l.fn.out l.at (decimal l.n))

abbrev pub decreases-loop-high : goal.decreases-loop-high
decreases-loop-high l = l.high
