use Rattle.std.proofs.Common.{arith}
use Rattle.text.proofs.Decimals.{below_power}
use Rattle.text.proofs.Puts.{has_room, put_there}
use Rattle.text.proofs.put_decimal.Goals as goal

pub returns-then-has_room : goal.returns-then-has_room
returns-then-has_room c =
    let e = c.put_up_to_eight.ensures in
    let room = has_room _ _ c.has_room.ensures c.if-has_room.true in
    put_there (omega arith) (omega (arith, room, below_power 7 c.args.n c.if-n-lt100000000.true)) e.0 e.1
