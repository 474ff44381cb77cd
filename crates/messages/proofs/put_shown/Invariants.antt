use Rattle.std.proofs.Common.{take}
use Rattle.text.specs.InTurn.{PutInTurn}
use Rattle.messages.specs.Messages.{shown}
use Rattle.messages.proofs.put_shown.Given as goal

-- the bytes of the name so far are put
abbrev pub invariant-loop-b : goal.invariant-loop-b
invariant-loop-b l = PutInTurn l.fn.out l.at (shown (take l.b-index l.name)) l.out l.end
