-- How far a reading T of a clock that wraps lies from a reading L, by half a wrap: the law of the presentation time (document 01), whose
-- own statements stand in `presentation`, and of the cycle offset (request #101).
use Rattle.std.specs.Prelude.{ℕ, ◌+◌, ◌-◌, ◌%◌, ◌<◌, ◌≡◌, ℤ, pos, negsuc, neg_ℤ, ◌+ℤ◌, ◌-ℤ◌, ◌*ℤ◌, ◌≤ℤ◌}

-- the remainder of a whole number, from 0 to m - 1 also for one below zero
abbrev pub modulo : ℤ → ℕ → ℕ
modulo (pos n) m = n % m
modulo (negsuc n) m = m - 1 - n % m

-- T - L, brought into range by whole wraps: counted from the lowest offset, it is the remainder of T - L + half a wrap
unfoldable pub offset : ℕ → ℕ → ℕ → ℤ
offset half L T = pos (modulo (pos (T + half) -ℤ pos L) (half + half)) -ℤ pos half

-- a whole number from the lowest to the highest offset for which L + d and T are equal modulo a wrap
pub record IsOffset (lowest highest : ℤ) (wrap L T : ℕ) (d : ℤ) : Type 0 where
  pub low : lowest ≤ℤ d
  pub high : d ≤ℤ highest
  pub same : modulo (pos L +ℤ d) wrap ≡ modulo (pos T) wrap

-- the one whole number: it is such a number, and no other is
pub record TheOffset (lowest highest : ℤ) (wrap L T : ℕ) (d : ℤ) : Type 0 where
  pub is : IsOffset lowest highest wrap L T d
  pub only : (e : ℤ) → IsOffset lowest highest wrap L T e → e ≡ d

-- from half a wrap below zero to one less than half a wrap above it there is one, whatever half a wrap is, above 0
abbrev pub OneOffset : Type 0
OneOffset = (half L T : ℕ) → 0 < half → TheOffset (neg_ℤ (pos half)) (pos (half - 1)) (half + half) L T (offset half L T)

-- ---- `modulo`, by which all of this is said, is the remainder

-- what makes r the remainder of z: z is a whole number of times m, and r, which is below m
pub record IsRemainder (z : ℤ) (m r : ℕ) : Type 0 where
  pub times : ℤ
  pub whole : z ≡ times *ℤ pos m +ℤ pos r
  pub below : r < m

abbrev pub Remainder : Type 0
Remainder = (z : ℤ) (m : ℕ) → 0 < m → IsRemainder z m (modulo z m)
