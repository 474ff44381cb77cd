-- Presentation time, as document 01's section of that name has it, in its order, with request #102 for T where SPH is 1, request #106 for the
-- kind half a wrap away and request #107 for the transit limit. L is the arrival time, T the stamp, d the offset; the limit is in nanoseconds,
-- as these are.
use Rattle.std.specs.Prelude.{ℕ, ◌+◌, ◌<◌, ◌≤◌, ◌≡◌, Bool, false, cond, List, eqb, ltb, ℤ, pos, negsuc, neg_ℤ, ◌+ℤ◌, length, Option, Some}
use Rattle.wire.specs.Numbers.{number_at}
use Rattle.frame.specs.declared.layout.Cip.{Cip}
use Rattle.frame.specs.declared.layout.Fields.{Fields}
use Rattle.std.specs.Prelude as option
use Rattle.source_packet.specs.Blocks.{block_at, first_start}
use Rattle.presentation.specs.declared.Kind.{Kind}
use Rattle.presentation.specs.declared.Kind.TheVariants.{None, Cut, Outside, Late, Ahead, Unclear, Far}
use Rattle.presentation.specs.declared.Timing.{Timing}
use Rattle.presentation.specs.declared.Stamp.{Stamp}
use Rattle.presentation.specs.declared.Stamp.TheVariants.{Absent, Short, Present}
use Rattle.presentation.specs.Offset.{offset}

-- ---- which stamp there is

-- where SPH is 0, T is the AVTP timestamp if tv is 1
abbrev pub avtp_stamp : Fields → Stamp
avtp_stamp f = cond f.header.avtp.tv (Present f.header.stream.timestamp) Absent

-- the stamp that opens a block: its first four bytes; absent where there is no such block
abbrev pub stamp_at : Cip → List ℕ → Option ℕ → Stamp
stamp_at c payload option.None = Absent
stamp_at c payload (Some i) = Present (number_at 0 4 (block_at c payload i))

-- where SPH is 1: absent from an empty payload, cut short in one of one to three bytes; else T is "the first four bytes of the first such
-- block in the frame" (request #102), and absent if there is none
unfoldable pub source_packet_stamp : Cip → List ℕ → Stamp
source_packet_stamp c payload =
    cond (eqb (length payload) 0) Absent
    (cond (ltb (length payload) 4) Short
    (stamp_at c payload (first_start c payload)))

-- where SPH is 1, tv is not read
unfoldable pub stamp_of : Fields → List ℕ → Stamp
stamp_of f payload = cond f.cip.sph (source_packet_stamp f.cip payload) (avtp_stamp f)

-- ---- the stamp against L

-- a kind whose time is 0
abbrev pub untimed : Kind → ℤ → Timing
untimed kind d = record { kind = kind; offset = d; time = 0 }

-- late for d below 0; for d of 0 or more, far "where d is above the limit" (request #107), else ahead
abbrev pub side : ℕ → ℤ → Kind
side limit (negsuc n) = Late
side limit (pos n) = cond (ltb limit n) Far Ahead

-- by d, where it is clear, and the sum L + d: outside where the sum is below 0 or above 18,446,744,073,709,551,615, with d still given; else
-- the time is the sum
unfoldable pub timed : ℕ → ℤ → ℤ → Timing
timed limit d (negsuc n) = untimed Outside d
timed limit d (pos n) = cond (ltb 18_446_744_073_709_551_615 n) (untimed Outside d) (record { kind = side limit d; offset = d; time = n })

-- whether d is −2,147,483,648: the stamp is then as far behind as ahead
abbrev pub is_half_wrap : ℤ → Bool
is_half_wrap (negsuc n) = eqb (n + 1) 2_147_483_648
is_half_wrap (pos n) = false

-- half a wrap away the kind is unclear, "with that offset and time 0, and it wins over outside" (request #106): it is asked first
unfoldable pub timing_within : ℕ → ℕ → ℕ → Timing
timing_within limit L T = cond (is_half_wrap (offset L T)) (untimed Unclear (offset L T)) (timed limit (offset L T) (pos L +ℤ offset L T))

-- so it is unclear there, whatever L and the limit are, and nowhere else
pub record UnclearAtHalfWrap : Type 0 where
  pub there : (limit L T : ℕ) → offset L T ≡ neg_ℤ (pos 2_147_483_648) → timing_within limit L T ≡ untimed Unclear (neg_ℤ (pos 2_147_483_648))
  pub only : (limit L T : ℕ) → (timing_within limit L T).kind ≡ Unclear → offset L T ≡ neg_ℤ (pos 2_147_483_648)

-- the largest limit, which "a reading without a record" takes (request #107)
abbrev pub largest_limit : ℕ
largest_limit = 2_147_483_647

abbrev pub timing : ℕ → ℕ → Timing
timing L T = timing_within largest_limit L T

pub record FarAboveLimit : Type 0 where
  -- "where d is above the limit and L + d is not outside, the kind is far, time L + d", and nowhere else
  pub there : (limit L T n : ℕ) → offset L T ≡ pos n → limit < n → L + n ≤ 18_446_744_073_709_551_615
      → timing_within limit L T ≡ record { kind = Far; offset = pos n; time = L + n }
  pub only : (limit L T : ℕ) → (timing_within limit L T).kind ≡ Far → (n : ℕ) × (offset L T ≡ pos n) × (limit < n)
  -- "the other kinds keep their rules": what is not far is what a reading without a record says, and that is never far
  pub others : (limit L T : ℕ) → ((timing_within limit L T).kind ≡ Far → ⊥) → timing_within limit L T ≡ timing L T
  pub never : (L T : ℕ) → (timing L T).kind ≡ Far → ⊥
  -- a number above the largest limit, which a lent record may hold, says no more than that
  pub above_largest : (limit L T : ℕ) → largest_limit ≤ limit → timing_within limit L T ≡ timing L T

-- ---- both

-- without a stamp the kind is none, with one cut short it is cut, and offset and time are 0
abbrev pub timing_of : ℕ → ℕ → Stamp → Timing
timing_of limit L Absent = untimed None (pos 0)
timing_of limit L Short = untimed Cut (pos 0)
timing_of limit L (Present T) = timing_within limit L T

-- the presentation time of a frame with these fields and this payload, of a stream with this limit
unfoldable pub presentation_within : ℕ → ℕ → Fields → List ℕ → Timing
presentation_within limit L f payload = timing_of limit L (stamp_of f payload)

-- and without a record
abbrev pub presentation : ℕ → Fields → List ℕ → Timing
presentation L f payload = presentation_within largest_limit L f payload
