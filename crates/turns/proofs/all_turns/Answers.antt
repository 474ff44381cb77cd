use Rattle.turns.proofs.Listed.{none_listed, one_turn_more}
use Rattle.turns.proofs.all_turns.Goals as goal
use Rattle.turns.proofs.all_turns.Goals.{else-loop-test, then-loop-test+then-ne}

pub loop-init : goal.loop-init
loop-init g c = none_listed c.args.shown c.args.input.now c.args.out.now c.args.have c.start-s.ensures c.requires.0 c.requires.1

pub loop-preserved : goal.loop-preserved
loop-preserved g c = one_turn_more c.requires.1 c.loop.invariant c.turn.ensures

pub returns : goal.returns
returns g c =
    elim c.loop-test.branch [
      | else-loop-test w ↦ rw (w.s-is, w.input-is, w.out-is) c.loop.invariant
      | then-loop-test+then-ne w ↦ rw (w.s-is, w.input-is, w.out-is) (one_turn_more c.requires.1 c.loop.invariant w.turn.ensures)
    ]
