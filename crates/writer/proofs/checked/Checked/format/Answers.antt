use Rattle.std.proofs.Common.{arith}
use Rattle.writer.proofs.Accepted.{rows}
use Rattle.writer.proofs.Bytes.{format_is}
use Rattle.writer.proofs.checked.Checked.format.Goals as goal

pub fmt-requires : goal.fmt-requires
fmt-requires c = (rows _ c.args.self.fits).format

pub returns : goal.returns
returns c = rw (c.to_be_bytes.ensures) (format_is c.args.self.given.cip c.fmt.ensures (omega arith) (omega arith))
