use Rattle.std.proofs.Common.{arith}
use Rattle.source_packet.proofs.Blocks.{end_limit, inside, outside}
use Rattle.source_packet.proofs.Starts.{in_frame, past_frame}
use Rattle.source_packet.proofs.first_start.Goals as goal

pub overflow_mul-end : goal.overflow_mul-end
overflow_mul-end c =
    rw c.block_bytes.ensures
    (omega (arith, end_limit c.blocks_before_start-before.result c.args.cip.dbs c.blocks_before_start-before.ensures.upper_bound (omega arith)))

pub returns-then-payload-end : goal.returns-then-payload-end
returns-then-payload-end c =
    let p =
    past_frame c.args.cip c.blocks_before_start-before.result c.blocks_before_start-before.ensures.earliest c.args.payload.now
    (outside c.args.cip c.args.payload.now c.blocks_before_start-before.result (rw (← c.block_bytes.ensures) c.if-payload-end.true))
    in
    record { value = p.0; first_start = p.1 }

pub returns : goal.returns
returns c =
    let p =
    in_frame c.args.cip c.blocks_before_start-before.result c.blocks_before_start-before.ensures.earliest c.args.payload.now
    (inside c.args.cip c.args.payload.now c.blocks_before_start-before.result (rw (← c.block_bytes.ensures) (omega arith)))
    in
    record { value = p.0; first_start = p.1 }
