use Rattle.writer.proofs.Accepted.{rows}
use Rattle.writer.proofs.Bytes.{stream_is}
use Rattle.writer.proofs.checked.Checked.stream.Goals as goal

pub packet-requires : goal.packet-requires
packet-requires c = (rows _ c.args.self.fits).packet

pub returns : goal.returns
returns c =
    rw (
      c.put-5.ensures,
      c.put-4.ensures,
      c.put-3.ensures,
      c.put-2.ensures,
      c.put.ensures,
      c.to_be_bytes-5.ensures,
      c.to_be_bytes-4.ensures,
      c.to_be_bytes-3.ensures,
      c.to_be_bytes-2.ensures,
      c.to_be_bytes.ensures,
      c.packet.ensures,
      c.cip_length.ensures.0,
    ) (stream_is c.args.self.given.stream _)
