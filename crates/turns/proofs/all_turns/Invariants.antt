use Rattle.std.proofs.Common.{take}
use Rattle.turns.specs.Turns.{RecordsListed}
use Rattle.turns.proofs.all_turns.Given as goal

abbrev pub invariant-loop : goal.invariant-loop
invariant-loop g l = RecordsListed l.shown (take l.have l.fn.input) l.fn.input l.fn.out l.s l.input l.out
