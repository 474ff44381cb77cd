use Rattle.frame.specs.Layout.{header_of}
use Rattle.frame.proofs.bytes.Bytes.header.Goals as goal

pub returns : goal.returns
unfolding header_of
returns c = cc
