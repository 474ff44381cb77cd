use Rattle.writer.proofs.Accepted.{rows}
use Rattle.writer.proofs.Bytes.{ethernet_is}
use Rattle.writer.proofs.checked.Checked.ethernet.Goals as goal

pub vlan-requires : goal.vlan-requires
vlan-requires c = (rows _ c.args.self.fits).vlan

pub returns : goal.returns
returns c =
    rw (
      c.put-5.ensures,
      c.put-4.ensures,
      c.put-3.ensures,
      c.put-2.ensures,
      c.put.ensures,
      c.to_be_bytes-5.ensures,
      c.to_be_bytes-4.ensures,
      c.to_be_bytes-3.ensures,
      c.to_be_bytes-2.ensures,
      c.to_be_bytes.ensures,
      c.vlan.ensures,
    ) (ethernet_is c.args.self.given.ethernet)
