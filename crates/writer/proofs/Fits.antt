-- `simp conjoined` brings a chain of tests of rows and fields into the order of its fields. Assumes nothing.
use Prim.Native.Nat.{ℕ, zero, suc}
use mathlib.Core.Path.{◌≡◌, refl}
use mathlib.Core.Bool.{Bool, true, false, not, and_assoc, and-true}
use native.Mathlib.Omega.{arith}
use borrow.Author.Tests.{ne_eqb, le-ltb}
use lib.Dec.{eqb, ltb}
use Rattle.wire.specs.Bits.{bit}

-- a flag is within its bit
pub bit_fits : (b : Bool) → ltb (bit b) 2 ≡ true
bit_fits true = refl
bit_fits false = refl

-- 0 is the only value of a field of no bits, and no that of a flag
pub zero_fits : (n : ℕ) → eqb n 0 ≡ ltb n 1
zero_fits zero = refl
zero_fits (suc n) = rw (ne_eqb (suc n) 0 (λ e. omega arith), le-ltb (suc n) 1 (omega arith))

pub no_fits : (b : Bool) → ltb (bit b) 1 ≡ not b
no_fits true = refl
no_fits false = refl

pub ruleset conjoined = (and_assoc, and-true, bit_fits, zero_fits, no_fits)
