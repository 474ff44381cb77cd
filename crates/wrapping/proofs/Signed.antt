-- Differences of two natural numbers, which may be below zero. Assumes nothing.
use Prim.Native.Nat.{ℕ, zero, suc, ◌-◌, ◌≤◌, ◌<◌}
use mathlib.Core.Path.{◌≡◌, refl, sym, ap, ◌∙◌}
use mathlib.Core.Bool.{Bool, true, false}
use native.Mathlib.Omega.{arith}
use lib.Dec.{ltb}
use lib.IntN.{pos, negsuc, ◌-ℤ◌, sub_ℕ}
use borrow.Author.Tests.{lt-ltb, le-ltb, ltb-true, ltb-false}

-- a is below b, or it is not
pub by_lt : (a b : ℕ) {X : Type 0} → (a < b → X) → (b ≤ a → X) → X
by_lt a b {X} f g = go (ltb a b) refl
  where
    go : (s : Bool) → ltb a b ≡ s → X
    go true e = f (ltb-true a b e)
    go false e = g (ltb-false a b e)

pub sub_lt : (a b : ℕ) → a < b → sub_ℕ a b ≡ negsuc (b - suc a)
sub_lt a b h = rw (lt-ltb a b h)

pub sub_le : (a b : ℕ) → b ≤ a → sub_ℕ a b ≡ pos (a - b)
sub_le a b h = rw (le-ltb a b h)

pub sub_is : (a b : ℕ) → pos a -ℤ pos b ≡ sub_ℕ a b
sub_is a zero = ap pos (omega arith) ∙ sym (sub_le a 0 (omega arith))
sub_is a (suc b) = refl
