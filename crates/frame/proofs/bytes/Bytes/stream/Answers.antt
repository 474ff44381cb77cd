use lib.Dec.{lit≤}
use Rattle.wire.proofs.Bits.{masks}
use Rattle.frame.specs.Layout.{stream_of}
use Rattle.frame.proofs.Found.{found}
use Rattle.frame.proofs.bytes.Bytes.stream.Goals as goal

pub returns : goal.returns
unfolding stream_of
returns c =
    let s = c.args.self.frame.now in
    simp masks
    (rw (
      found s c.args.self.header_there 38 2 (lit≤ tt) c.be16.ensures,
      found s c.args.self.header_there 34 4 (lit≤ tt) c.be32-2.ensures,
      found s c.args.self.header_there 30 4 (lit≤ tt) c.be32.ensures,
      found s c.args.self.header_there 22 8 (lit≤ tt) c.be64.ensures,
      found s c.args.self.header_there 40 2 (lit≤ tt) c.be16-packet.ensures,
    ))
