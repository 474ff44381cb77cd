-- A row of fields out of the bytes in which it was written. Assumes nothing.
use Prim.Native.Nat.{ℕ, ◌*◌, ◌^◌, ◌<◌}
use mathlib.Core.Path.{◌≡◌, refl, ap, subst, ◌∙◌}
use mathlib.Core.Bool.{Bool, true, false}
use mathlib.Core.List.{List}
use native.Mathlib.Omega.{arith}
use lib.ListN.{get_or}
use Rattle.wire.specs.Bits.{width, pack, field, Fit, flag, bit}
use Rattle.wire.specs.Numbers.{number, bytes}
use Rattle.wire.proofs.Bits.{unpack_pack, pack_lt}
use Rattle.wire.proofs.Numbers.{number_of}

pub bit_lt : (b : Bool) → bit b < 2
bit_lt true = omega arith
bit_lt false = omega arith

flag_bit : (b : Bool) → flag (bit b) ≡ b
flag_bit true = refl
flag_bit false = refl

-- field i of the k bytes into which these values were put
module _ (k : ℕ) (ws vs : List ℕ) (h : Fit ws vs) (w : width ws ≡ 8 * k) (i : ℕ) where
  pub row_back : field i ws (number (bytes k (pack ws vs))) ≡ get_or vs i 0
  row_back =
      rw (number_of k (pack ws vs) (subst (λ (n : ℕ). pack ws vs < 2 ^ n) w (pack_lt ws vs h)))
      (ap (λ (l : List ℕ). get_or l i 0) (unpack_pack ws vs h))

  -- a flag
  pub flag_back : (b : Bool) → get_or vs i 0 ≡ bit b → flag (field i ws (number (bytes k (pack ws vs)))) ≡ b
  flag_back b e = ap flag (row_back ∙ e) ∙ flag_bit b
