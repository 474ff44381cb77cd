use Rattle.std.proofs.Common.{refl, arith}
use Rattle.text.proofs.Puts.{has_room, lacks_room, put_there, not_put}
use Rattle.text.proofs.put.Goals as goal

pub returns-then-not-has_room : goal.returns-then-not-has_room
returns-then-not-has_room c =
    let none = lacks_room _ _ c.has_room.ensures c.if-not-has_room.true in
    not_put (omega arith) (omega (arith, none)) refl (omega arith)

pub returns : goal.returns
returns c =
    let fits = has_room _ _ c.has_room.ensures c.if-not-has_room.false in
    put_there (omega arith) (omega (arith, fits)) c.copy.ensures (omega arith)
