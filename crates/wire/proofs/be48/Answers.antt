use Rattle.std.proofs.Common.{refl, ◌∙◌, arith}
use lib.Dec.{lit≤}
use Rattle.wire.specs.Numbers.{number}
use Rattle.wire.proofs.Halves.{beside}
use Rattle.wire.proofs.Parts.{taken_spells}
use Rattle.wire.proofs.be48.Goals as goal

pub returns : goal.returns
returns c =
    beside 0 2 4 64 c.array-bytes.result (omega arith) (lit≤ tt) c.be16.ensures c.be32.ensures (omega arith) (omega arith)
    ∙ taken_spells number c.args.at 6 c.args.s.now refl (omega arith) c.array-bytes.ensures
