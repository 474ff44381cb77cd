use Rattle.std.proofs.Common.{refl, arith, length-set, ◌∙◌, add-one}
use Rattle.text.proofs.Decimals.{decimal_length}
use Rattle.text.proofs.Puts.{has_room, lacks_room, put_there, not_put, put_where_room}
use Rattle.text.proofs.put_negative.Goals as goal

pub overflow_add-size : goal.overflow_add-size
overflow_add-size c = omega (arith, decimal_length c.args.n c.ranges.n.fits)

pub returns-then-not-has_room : goal.returns-then-not-has_room
returns-then-not-has_room c =
    let none = lacks_room _ _ c.has_room.ensures c.if-not-has_room.true in
    not_put (omega arith) (omega (arith, none)) refl (omega arith)

pub returns : goal.returns
returns c =
    let fits = has_room _ _ c.has_room.ensures c.if-not-has_room.false in
    let there = put_where_room c.put_decimal.ensures (simp length-set (omega (arith, fits))) in
    put_there (omega arith) (omega (arith, fits)) (there.1 ∙ rw add-one) (omega (arith, there.0))
