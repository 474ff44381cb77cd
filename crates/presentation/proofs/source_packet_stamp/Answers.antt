use Rattle.std.proofs.Common.{ℕ, ◌*◌, ap, ◌∙◌, arith, length}
use borrow.Author.Tests.{ne_eqb, le-ltb}
use Rattle.wire.specs.Numbers.{number_or_0}
use Rattle.presentation.specs.declared.Stamp.TheVariants.{Present}
use Rattle.presentation.specs.Presentation.{stamp_at, source_packet_stamp}
use Rattle.source_packet.proofs.Blocks.{within, opening}
use Rattle.presentation.proofs.source_packet_stamp.Goals as goal

pub overflow_mul-at : goal.overflow_mul-at
overflow_mul-at c = rw c.block_bytes.ensures (omega (arith, within c.args.cip c.args.payload.now c.in-Some.i c.in-Some.ensures.first_start.0))

pub returns : goal.returns
unfolding source_packet_stamp
returns c =
    let payload = c.args.payload.now in
    let read = c.be32.ensures ∙ ap (λ (n : ℕ). number_or_0 (c.in-Some.i * n) 4 payload) c.block_bytes.ensures in
    rw (ne_eqb _ 0 c.if-payload-eq0.false, le-ltb (length payload) 4 (omega arith))
    (ap Present (read ∙ opening c.args.cip payload c.in-Some.i c.in-Some.ensures.first_start.0) ∙ ap (stamp_at c.args.cip payload) c.in-Some.ensures.value)
