use Rattle.cycle.proofs.Offsets.{late, ahead}
use Rattle.cycle.proofs.judgement.reckon.Goals as goal

pub returns-then-distance-lt-HALF_WRAP : goal.returns-then-distance-lt-HALF_WRAP
returns-then-distance-lt-HALF_WRAP c = late c.args.tick c.args.due c.if-distance-lt-HALF_WRAP.true

pub returns-else-distance-lt-HALF_WRAP : goal.returns-else-distance-lt-HALF_WRAP
returns-else-distance-lt-HALF_WRAP c = ahead c.args.tick c.args.due c.if-distance-lt-HALF_WRAP.false
