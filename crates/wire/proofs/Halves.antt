-- A number of m + n bytes is put together from one of m and one of n by a shift and an or, at every width and in either order of bytes: the
-- readers of four bytes and more go by it. Assumes nothing.
use Prim.Native.Nat.{ℕ, ◌+◌, ◌*◌, ◌%◌, ◌^◌, ◌<◌, ◌≤◌}
use mathlib.Core.Path.{◌≡◌, refl, ◌∙◌}
use mathlib.Core.List.{List, [], ◌∷◌, ◌++◌, reverse, reverse-append}
use native.Mathlib.Nat.{lt_of_lt_of_le, add_assoc, add-mul, mul_assoc}
use native.Mathlib.Omega.{arith}
use lib.Bits.{bit_or}
use lib.ListN.{length, take, drop, length-append, length-drop, length-reverse}
use lib.Pow.{pow-add, pow_mono, shl_lt}
use lib.Seq.{length-take-le, take-add, drop-drop}
use Rattle.wire.specs.Numbers.{number, part, spelled_or_0, number_or_0, little_endian, little_endian_or_0}
use Rattle.wire.proofs.Bits.{joined}
use Rattle.wire.proofs.Numbers.{width_octets, there}

number_append : (a b : List ℕ) → number (a ++ b) ≡ number a * 2 ^ (8 * length b) + number b
number_append [] b = omega arith
number_append (x ∷ a) b =
    let e : 8 * (length a + length b) ≡ 8 * length a + 8 * length b = omega arith in
    rw (number_append a b, width_octets (length (a ++ b)), width_octets (length a), length-append a b, e, pow-add 2 (8 * length a) (8 * length b)) (rw (add-mul, mul_assoc, add_assoc) refl)

-- The fact over the width: a number of m bytes beside one of n bytes, put together at w bits by a shift and an or, is the number in the
-- m + n bytes. `whole` says which of the two is the higher.
joins : (spelled : List ℕ → ℕ) (at high m low n w : ℕ) (s : List ℕ) {hi lo : ℕ} → at + (m + n) ≤ length s → high + m ≤ length s → low + n ≤ length s
    → spelled (part at (m + n) s) ≡ spelled (part high m s) * 2 ^ (8 * n) + spelled (part low n s) → 8 * m + 8 * n ≤ w
    → hi ≡ spelled_or_0 spelled high m s → lo ≡ spelled_or_0 spelled low n s → hi < 2 ^ (8 * m) → lo < 2 ^ (8 * n)
    → bit_or ((hi * 2 ^ (8 * n)) % 2 ^ w) lo ≡ spelled_or_0 spelled at (m + n) s
joins spelled at high m low n w s {hi} {lo} h hhigh hlow whole fit eh el hh hl =
    joined hi (8 * n) w hl (lt_of_lt_of_le (shl_lt (8 * m) (8 * n) hh) (pow_mono fit))
    ∙ rw (there spelled at (m + n) s h, whole, eh, el, there spelled high m s hhigh, there spelled low n s hlow) refl

-- ---- the most significant byte first

split : (at m n : ℕ) (s : List ℕ) → at + (m + n) ≤ length s → number (part at (m + n) s) ≡ number (part at m s) * 2 ^ (8 * n) + number (part (at + m) n s)
split at m n s h =
    let l : length (take n (drop (at + m) s)) ≡ n = length-take-le n (drop (at + m) s) (rw (length-drop (at + m) s) (omega arith)) in
    rw (take-add m n (drop at s), drop-drop m at s, number_append (take m (drop at s)) (take n (drop (at + m) s)), l) refl

pub beside : (at m n w : ℕ) (s : List ℕ) {hi lo : ℕ} → at + (m + n) ≤ length s → 8 * m + 8 * n ≤ w → hi ≡ number_or_0 at m s → lo ≡ number_or_0 (at + m) n s
    → hi < 2 ^ (8 * m) → lo < 2 ^ (8 * n) → bit_or ((hi * 2 ^ (8 * n)) % 2 ^ w) lo ≡ number_or_0 at (m + n) s
beside at m n w s h = joins number at at m (at + m) n w s h (omega arith) (omega arith) (split at m n s h)

-- ---- the least significant byte first

le_split : (at m n : ℕ) (s : List ℕ) → at + (m + n) ≤ length s → little_endian (part at (m + n) s) ≡ little_endian (part (at + n) m s) * 2 ^ (8 * n) + little_endian (part at n s)
le_split at m n s h =
    let low = take n (drop at s) in
    let high = take m (drop (at + n) s) in
    let l : length (reverse low) ≡ n = length-reverse low ∙ length-take-le n (drop at s) (rw (length-drop at s) (omega arith)) in
    let turned : m + n ≡ n + m = omega arith in
    rw (turned, take-add n m (drop at s), drop-drop n at s, reverse-append low high, number_append (reverse high) (reverse low), l) refl

pub le_beside : (at m n w : ℕ) (s : List ℕ) {hi lo : ℕ} → at + (m + n) ≤ length s → 8 * m + 8 * n ≤ w → hi ≡ little_endian_or_0 (at + n) m s → lo ≡ little_endian_or_0 at n s
    → hi < 2 ^ (8 * m) → lo < 2 ^ (8 * n) → bit_or ((hi * 2 ^ (8 * n)) % 2 ^ w) lo ≡ little_endian_or_0 at (m + n) s
le_beside at m n w s h = joins little_endian at (at + n) m at n w s h (omega arith) (omega arith) (le_split at m n s h)
