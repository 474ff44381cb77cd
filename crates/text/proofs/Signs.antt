-- Whole numbers below zero, and others. Assumes nothing.
use Prim.Native.Nat.{suc, ◌≤◌, ◌<◌, ◌^◌}
use native.Mathlib.Omega.{arith}
use lib.IntN.{ℤ, pos, negsuc}
use lib.ListN.{length}
use lib.Signed.{mag}
use Rattle.text.specs.Text.{signed}
use Rattle.text.proofs.Decimals.{decimal_length}

-- one of 64 bits has at most 20 digits and a sign
pub signed_length : (z : ℤ) → mag z < 2 ^ 63 → length (signed z) ≤ 21
signed_length (pos n) h = omega (arith, decimal_length n (omega arith))
signed_length (negsuc n) h = omega (arith, decimal_length (suc n) (omega arith))
