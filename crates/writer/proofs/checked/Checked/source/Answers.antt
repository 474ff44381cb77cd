use Rattle.std.proofs.Common.{arith}
use Rattle.writer.proofs.Accepted.{rows}
use Rattle.writer.proofs.Bytes.{source_is}
use Rattle.writer.proofs.checked.Checked.source.Goals as goal

pub source-requires : goal.source-requires
source-requires c = (rows _ c.args.self.fits).source

pub fraction-requires : goal.fraction-requires
fraction-requires c = (rows _ c.args.self.fits).fraction

pub returns : goal.returns
returns c = source_is c.args.self.given.cip c.args.dbc c.source.ensures c.fraction.ensures (omega arith) (omega arith) (omega arith) (omega arith)
