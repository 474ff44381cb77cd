-- `modulo` is the remainder. Assumes nothing.
use Prim.Native.Nat.{ℕ, suc, ◌+◌, ◌-◌, ◌*◌, ◌/◌, ◌%◌, ◌<◌}
use mathlib.Core.Path.{◌≡◌, sym, ap, ◌∙◌}
use native.Mathlib.Nat.{div-add-mod', mod-lt, mod-eq_of_lt, suc-mul, add-mul-mod_self_right}
use native.Mathlib.Omega.{arith}
use lib.IntN.{pos, negsuc, neg_ℤ, ◌+ℤ◌, ◌-ℤ◌}
use Rattle.wrapping.specs.Wrapping.{modulo, Remainder}
use Rattle.wrapping.proofs.Signed.{by_lt, sub_lt, sub_le, sub_is}

-- p + r below zero, where p is a number of times m: one m more, less what r leaves of it
below_zero : (p r m : ℕ) → r < m → negsuc (p + r) ≡ neg_ℤ (pos (p + m)) +ℤ pos (m - 1 - r)
below_zero p r m h =
    let e : p + m ≡ suc (p + m - 1) = omega arith in
    rw (e, sub_lt (m - 1 - r) (suc (p + m - 1)) (omega arith)) (ap negsuc (omega arith))

pub is_remainder : Remainder
is_remainder (pos n) m h = record { times = pos (n / m); whole = ap pos (sym (div-add-mod' n m)); below = mod-lt n h }
is_remainder (negsuc n) m h =
    record {
      times = negsuc (n / m);
      whole = rw (suc-mul (n / m) m) (ap negsuc (sym (div-add-mod' n m)) ∙ below_zero (n / m * m) (n % m) m (mod-lt n h));
      below = omega (arith, mod-lt n h);
    }

-- numbers that differ by whole times m leave the same
pub same_mod : (x y p q m : ℕ) → x + p * m ≡ y + q * m → x % m ≡ y % m
same_mod x y p q m e =
    sym (add-mul-mod_self_right x p m) ∙ ap (λ (n : ℕ). n % m) e ∙ add-mul-mod_self_right y q m

-- the remainder of a difference
pub modulo_sub : (a b m : ℕ) → 0 < m → modulo (pos a -ℤ pos b) m ≡ (a + (m - b % m)) % m
modulo_sub a b m h =
    let r = mod-lt b h in
    let whole = div-add-mod' b m in
    rw (sub_is a b)
    (by_lt a b
    (λ k.
    let r' = mod-lt (b - suc a) h in
    let whole' = div-add-mod' (b - suc a) m in
    let left : m - 1 - (b - suc a) % m < m = omega arith in
    rw (sub_lt a b k)
    (sym (mod-eq_of_lt left) ∙ same_mod _ (a + (m - b % m)) (b / m) ((b - suc a) / m) m (omega arith)))
    (λ k.
    let more : suc (b / m) * m ≡ b / m * m + m = suc-mul (b / m) m in
    rw (sub_le a b k) (same_mod (a - b) (a + (m - b % m)) (suc (b / m)) 0 m (omega arith))))
