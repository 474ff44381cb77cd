use Rattle.std.proofs.Common.{sym}
use Rattle.frame.proofs.Groups.{long_enough}
use Rattle.frame.proofs.bytes.Bytes.of.Goals as goal

pub invariant_of-result : goal.invariant_of-result
invariant_of-result c = record { header_there = long_enough _ (sym c.in_ok-check_length.ensures) }
