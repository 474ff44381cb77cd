use Rattle.std.proofs.Common.{refl, true, false, ◌++◌, length}
use borrow.Author.Tests.{eq-eqb, ne_eqb}
use Rattle.writer.specs.Frames.{ethernet_bytes, avtp_bytes, stream_bytes, source_bytes, format_bytes, header_bytes, cip_bytes}
use Rattle.writer.proofs.Stores.{behind, frame_as, room_as}
use Rattle.writer.proofs.checked.Checked.write.Goals as goal

pub returns-then-self-ne1 : goal.returns-then-self-ne1
unfolding ethernet_bytes avtp_bytes stream_bytes header_bytes
returns-then-self-ne1 c =
    let none = ne_eqb _ _ c.if-self-ne1.true in
    let s = c.args.sender in
    let g = c.args.self.given in
    let p = c.args.self.payload.now in
    frame_as s g p c.args.out.now false none
    (rw (c.put-then-self-ne1.ensures, c.put-3.ensures, c.put-2.ensures, c.put.ensures, c.stream.ensures, c.avtp.ensures, c.ethernet.ensures)
    (behind 42 (header_bytes s g (length p)) p c.args.out.now refl (room_as _ _ _ false none c.requires)))

pub returns : goal.returns
unfolding ethernet_bytes avtp_bytes stream_bytes source_bytes format_bytes header_bytes
returns c =
    let has = eq-eqb _ _ c.if-self-ne1.false in
    let s = c.args.sender in
    let g = c.args.self.given in
    let p = c.args.self.payload.now in
    frame_as s g p c.args.out.now true has
    (rw (
      c.put-6.ensures,
      c.put-5.ensures,
      c.put-4.ensures,
      c.put-3.ensures,
      c.put-2.ensures,
      c.put.ensures,
      c.format.ensures,
      c.source.ensures,
      c.stream.ensures,
      c.avtp.ensures,
      c.ethernet.ensures,
    )
    (behind 50 (header_bytes s g (length p) ++ cip_bytes true g.cip s.dbc) p c.args.out.now refl (room_as _ _ _ true has c.requires)))
