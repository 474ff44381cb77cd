use Rattle.std.proofs.Common.{refl, ◌∙◌, arith}
use lib.Dec.{lit≤}
use Rattle.wire.specs.Numbers.{little_endian}
use Rattle.wire.proofs.Halves.{le_beside}
use Rattle.wire.proofs.Parts.{taken_spells}
use Rattle.wire.proofs.le64.Goals as goal

pub returns : goal.returns
returns c =
    le_beside 0 4 4 64 c.array-bytes.result (omega arith) (lit≤ tt) c.le32.ensures c.le32-2.ensures (omega arith) (omega arith)
    ∙ taken_spells little_endian c.args.at 8 c.args.s.now refl (omega arith) c.array-bytes.ensures
