use lib.Dec.{lit≤}
use Rattle.wire.proofs.Bits.{masks}
use Rattle.frame.specs.Layout.{ethernet_of}
use Rattle.frame.proofs.Found.{found}
use Rattle.frame.proofs.bytes.Bytes.ethernet.Goals as goal

pub returns : goal.returns
unfolding ethernet_of
returns c =
    let s = c.args.self.frame.now in
    simp masks
    (rw (
      found s c.args.self.header_there 16 2 (lit≤ tt) c.be16-2.ensures,
      found s c.args.self.header_there 12 2 (lit≤ tt) c.be16.ensures,
      found s c.args.self.header_there 6 6 (lit≤ tt) c.be48-2.ensures,
      found s c.args.self.header_there 0 6 (lit≤ tt) c.be48.ensures,
      found s c.args.self.header_there 14 2 (lit≤ tt) c.be16-vlan.ensures,
    ))
