use lib.Dec.{lit≤}
use Rattle.wire.proofs.Bits.{masks}
use Rattle.frame.specs.Layout.{avtp_of}
use Rattle.frame.proofs.Found.{found}
use Rattle.frame.proofs.bytes.Bytes.avtp.Goals as goal

pub returns : goal.returns
unfolding avtp_of
returns c =
    let s = c.args.self.frame.now in
    simp masks
    (rw (
      found s c.args.self.header_there 21 1 (lit≤ tt) c.byte-2.ensures,
      found s c.args.self.header_there 20 1 (lit≤ tt) c.byte.ensures,
      found s c.args.self.header_there 19 1 (lit≤ tt) c.byte-valid.ensures,
      found s c.args.self.header_there 18 1 (lit≤ tt) c.byte-subtype.ensures,
    ))
