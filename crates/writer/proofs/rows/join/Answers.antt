use Rattle.wire.proofs.Bits.{joined}
use Rattle.writer.proofs.rows.join.Goals as goal

pub returns : goal.returns
returns c = joined c.args.hi c.args.width 16 c.requires.1 c.requires.2
