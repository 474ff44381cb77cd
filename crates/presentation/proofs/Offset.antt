-- The offset is the one number that document 01 asks for: the law of `wrapping` at half a wrap of 32 bits. Assumes nothing.
use Prim.Native.Nat.{ℕ, ◌+◌, ◌-◌}
use mathlib.Core.Path.{◌≡◌, sym, ap, ◌∙◌}
use native.Mathlib.Omega.{arith}
use lib.IntN.{ℤ}
use Rattle.wrapping.specs.Wrapping as wrapping
use Rattle.wrapping.proofs.Offset as law
use Rattle.presentation.specs.Offset.{offset, OneOffset, OffsetEdges}

-- a wrap of 32 bits, and half of one
abbrev wrap : ℕ
wrap = 4_294_967_296

abbrev pub half : ℕ
half = 2_147_483_648

-- the distance of the offset from the lowest one
abbrev pub distance : ℕ → ℕ → ℕ
distance = law.distance half

-- the number at distance s
abbrev pub at : ℕ → ℤ
at = law.at half

pub offset_at : (L T : ℕ) → offset L T ≡ at (distance L T)
unfolding offset wrapping.offset
offset_at L T = law.offset_at half L T (omega arith)

pub one_offset : OneOffset
unfolding offset wrapping.offset
one_offset L T =
    let one = law.one_offset half L T (omega arith) in
    record {
      is = record { low = one.is.low; high = one.is.high; same = one.is.same };
      only = λ e p. one.only e (record { low = p.low; high = p.high; same = p.same });
    }

-- ---- its meaning at zero, at both ends and at the wrap

offset_by : (L T : ℕ) {s : ℕ} → distance L T ≡ s → offset L T ≡ at s
offset_by L T e = offset_at L T ∙ ap at e

offset_same : (L T L' T' : ℕ) → distance L T ≡ distance L' T' → offset L T ≡ offset L' T'
offset_same L T L' T' e = offset_by L T e ∙ sym (offset_at L' T')

pub offset_edges : OffsetEdges
offset_edges =
    record {
      zero = λ L. offset_by L L {s = half} (omega arith);
      highest = λ L. offset_by L (L + 2_147_483_647) {s = wrap - 1} (omega arith);
      lowest = λ L. offset_by L (L + half) {s = 0} (omega arith);
      wrap_of_L = λ L T. offset_same (L + wrap) T L T (omega arith);
      wrap_of_T = λ L T. offset_same L (T + wrap) L T (omega arith);
    }
