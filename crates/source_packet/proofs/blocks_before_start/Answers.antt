use Rattle.std.proofs.Common.{ℕ, ◌*◌, ◌%◌, ◌<◌, ◌≡◌, ◌∙◌, arith}
use Prim.Native.Nat.{◌^◌}
use native.Mathlib.Nat.{one-mul}
use lib.Pow.{shl_exact}
use Rattle.source_packet.proofs.Starts.{narrow, wide}
use Rattle.source_packet.proofs.blocks_before_start.Goals as goal

shifted : (k : ℕ) → k < 8 → 1 * 2 ^ k % 2 ^ 64 ≡ 2 ^ k
shifted k h = shl_exact 1 k 64 (omega arith) (omega (arith, h)) ∙ one-mul (2 ^ k)

pub returns-then-fraction_number-ge8-clause-earliest : goal.returns-then-fraction_number-ge8-clause-earliest
returns-then-fraction_number-ge8-clause-earliest c = wide c.args.cip c.if-fraction_number-ge8.true (omega arith)

pub returns-clause-earliest : goal.returns-clause-earliest
returns-clause-earliest c = rw (shifted c.args.cip.fraction_number (omega arith)) (narrow c.args.cip (omega arith) (omega arith))
