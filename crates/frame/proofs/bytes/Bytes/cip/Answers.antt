use lib.Dec.{lit≤}
use Rattle.wire.proofs.Bits.{masks}
use Rattle.frame.specs.Layout.{cip_of}
use Rattle.frame.proofs.Found.{found}
use Rattle.frame.proofs.bytes.Bytes.cip.Goals as goal

pub returns : goal.returns
unfolding cip_of
returns c =
    let s = c.args.self.frame.now in
    simp masks
    (rw (
      found s c.requires 48 2 (lit≤ tt) c.be16.ensures,
      found s c.requires 47 1 (lit≤ tt) c.byte-5.ensures,
      found s c.requires 46 1 (lit≤ tt) c.byte-4.ensures,
      found s c.requires 45 1 (lit≤ tt) c.byte-3.ensures,
      found s c.requires 43 1 (lit≤ tt) c.byte-2.ensures,
      found s c.requires 42 1 (lit≤ tt) c.byte.ensures,
      found s c.requires 44 1 (lit≤ tt) c.byte-fraction.ensures,
    ))
