use Rattle.std.proofs.Common.{◌-◌, ◌≤◌}
use Rattle.options.proofs.Arguments.{Names}
use Rattle.options.proofs.read_request.Given as goal

-- the arguments so far are names
abbrev pub invariant-loop-i : goal.invariant-loop-i
invariant-loop-i g l = Names l.i × (l.i - 1 ≤ l.count - 1)
