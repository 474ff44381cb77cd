use Rattle.std.proofs.Common.{◌≡◌}
use Rattle.avtp_list.proofs.ListProgram.visit_named.Given as goal

abbrev pub invariant-loop-i : goal.invariant-loop-i
invariant-loop-i l = l.voice.program ≡ l.initial.voice.program
