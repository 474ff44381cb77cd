use Rattle.std.proofs.Common.{◌+◌, ◌-◌, ◌≤◌, ◌≡◌, false, cond, length}
use Rattle.input.specs.Input.{is_open}
use Rattle.input.proofs.first.Given as goal

-- no more than that, once nothing more may come
abbrev pub invariant-loop-filled : goal.invariant-loop-filled
invariant-loop-filled g l = (l.filled.end ≤ length l.fn.input) × (is_open l.filled.source ≡ false → l.filled.end ≤ l.wanted)

-- what a turn leaves to be done: less than before, also where nothing came
abbrev pub decreases-loop-filled : goal.decreases-loop-filled
decreases-loop-filled g l = (l.wanted - l.filled.end) + cond (is_open l.filled.source) 1 0
