use Rattle.std.proofs.Common.{arith}
use Rattle.writer.proofs.Bytes.{avtp_is}
use Rattle.writer.proofs.checked.Checked.avtp.Goals as goal

pub returns : goal.returns
returns c = avtp_is c.args.sequence c.args.self.given.avtp c.valid.ensures c.uncertain.ensures (omega arith) (omega arith) (omega arith)
