-- A difference of two numbers in decimal, by which of them is the greater. Assumes nothing.
use Prim.Native.Nat.{ℕ, suc, ◌-◌, ◌≤◌, ◌<◌, ◌^◌}
use mathlib.Core.Path.{◌≡◌, ap, ◌∙◌}
use mathlib.Core.List.{◌++◌}
use native.Mathlib.Omega.{arith}
use lib.IntN.{pos, ◌-ℤ◌}
use lib.ListN.{length}
use Rattle.text.specs.Text.{ascii, decimal, signed}
use Rattle.text.proofs.Decimals.{decimal_length}
use Rattle.wrapping.proofs.Signed.{by_lt, sub_lt, sub_le, sub_is}

pub below : (a b : ℕ) → a < b → signed (pos a -ℤ pos b) ≡ ascii "-" ++ decimal (b - a)
below a b h =
    let e : suc (b - suc a) ≡ b - a = omega arith in
    ap signed (sub_is a b ∙ sub_lt a b h) ∙ ap (λ (n : ℕ). ascii "-" ++ decimal n) e

pub not_below : (a b : ℕ) → b ≤ a → signed (pos a -ℤ pos b) ≡ decimal (a - b)
not_below a b h = ap signed (sub_is a b ∙ sub_le a b h)

-- at most 20 digits and a sign
pub difference_length : (a b : ℕ) → a < 2 ^ 64 → b < 2 ^ 64 → length (signed (pos a -ℤ pos b)) ≤ 21
difference_length a b f g =
    by_lt a b
    (λ h. let l = decimal_length (b - a) (omega arith) in rw (below a b h) (omega arith))
    (λ h. let l = decimal_length (a - b) (omega arith) in rw (not_below a b h) (omega arith))
