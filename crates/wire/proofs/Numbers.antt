-- Numbers as bytes: one undoes the other, at every width. Assumes nothing.
use Prim.Native.Nat.{ℕ, zero, suc, ◌+◌, ◌*◌, ◌^◌, ◌<◌, ◌≤◌}
use mathlib.Core.Path.{◌≡◌, refl, ◌∙◌}
use mathlib.Core.List.{List, [], ◌∷◌}
use native.Mathlib.Omega.{arith}
use borrow.Author.Tests.{le-leb}
use lib.ListN.{length, length-replicate}
use Rattle.wire.specs.Bits.{width, Fit}
use Rattle.wire.specs.Numbers.{Bytes, octets, number, bytes, part, spelled_or_0}
use Rattle.wire.proofs.Bits.{length_unpack, pack_lt, unpack_pack, pack_unpack}

pub width_octets : (k : ℕ) → width (octets k) ≡ 8 * k
width_octets zero = refl
width_octets (suc k) = rw (width_octets k) (omega arith)

length_bytes : (k n : ℕ) → length (bytes k n) ≡ k
length_bytes k n = length_unpack (octets k) n ∙ length-replicate k 8

-- a number that k bytes hold, out of its bytes
pub number_of : (k n : ℕ) → n < 2 ^ (8 * k) → number (bytes k n) ≡ n
number_of k n h = rw (length_bytes k n) (pack_unpack (octets k) n (rw (width_octets k) h))

fit_octets : (bs : List ℕ) → Bytes bs → Fit (octets (length bs)) bs
fit_octets [] h = tt
fit_octets (b ∷ bs) h = (h 0, fit_octets bs (λ i. h (suc i)))

-- bytes spell a number that they hold
pub number_lt : (bs : List ℕ) → Bytes bs → number bs < 2 ^ (8 * length bs)
number_lt bs h = rw (← width_octets (length bs)) (pack_lt (octets (length bs)) bs (fit_octets bs h))

-- bytes, out of the number that they spell
pub bytes_number : (bs : List ℕ) → Bytes bs → bytes (length bs) (number bs) ≡ bs
bytes_number bs h = unpack_pack (octets (length bs)) bs (fit_octets bs h)

-- what is there is read, whichever byte comes first
pub there : (spelled : List ℕ → ℕ) (at k : ℕ) (s : List ℕ) → at + k ≤ length s → spelled_or_0 spelled at k s ≡ spelled (part at k s)
there spelled at k s h = rw (le-leb (at + k) (length s) h)
