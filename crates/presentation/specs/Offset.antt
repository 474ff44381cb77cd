-- The offset of a stamp T from an arrival time L (document 01, Presentation time).
use Rattle.std.specs.Prelude.{ℕ, ◌+◌, ◌≡◌, ℤ, pos, neg_ℤ, ◌+ℤ◌, ◌-ℤ◌, ◌≤ℤ◌}
use Rattle.wrapping.specs.Wrapping.{modulo}

-- T - L, brought into range by whole wraps: counted from the lowest offset, it is the remainder of T - L + half a wrap
unfoldable pub offset : ℕ → ℕ → ℤ
offset L T = pos (modulo (pos (T + 2_147_483_648) -ℤ pos L) 4_294_967_296) -ℤ pos 2_147_483_648

-- "from −2,147,483,648 to 2,147,483,647 for which L + d and T are equal modulo 4,294,967,296"
pub record IsOffset (L T : ℕ) (d : ℤ) : Type 0 where
  pub low : neg_ℤ (pos 2_147_483_648) ≤ℤ d
  pub high : d ≤ℤ pos 2_147_483_647
  pub same : modulo (pos L +ℤ d) 4_294_967_296 ≡ modulo (pos T) 4_294_967_296

-- "the one whole number": the offset is one, and no other number is, for every L and T
pub record TheOffset (L T : ℕ) (d : ℤ) : Type 0 where
  pub is : IsOffset L T d
  pub only : (e : ℤ) → IsOffset L T e → e ≡ d

abbrev pub OneOffset : Type 0
OneOffset = (L T : ℕ) → TheOffset L T (offset L T)

-- its meaning at zero, at both ends and at the wrap
pub record OffsetEdges : Type 0 where
  pub zero : (L : ℕ) → offset L L ≡ pos 0
  pub highest : (L : ℕ) → offset L (L + 2_147_483_647) ≡ pos 2_147_483_647
  pub lowest : (L : ℕ) → offset L (L + 2_147_483_648) ≡ neg_ℤ (pos 2_147_483_648)
  pub wrap_of_L : (L T : ℕ) → offset (L + 4_294_967_296) T ≡ offset L T
  pub wrap_of_T : (L T : ℕ) → offset L (T + 4_294_967_296) ≡ offset L T
