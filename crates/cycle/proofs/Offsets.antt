-- The cycle offset: the law of `wrapping` at half of 16 cycles. Assumes nothing.
use Prim.Native.Nat.{ℕ, ◌+◌, ◌*◌, ◌/◌, ◌%◌, ◌≤◌, ◌<◌}
use mathlib.Core.List.{List}
use mathlib.Core.Path.{◌≡◌, sym, ap, ◌∙◌}
use native.Mathlib.Omega.{arith}
use Rattle.wrapping.proofs.Signed.{sub_lt, sub_le}
use Rattle.wrapping.proofs.Offset as law
use Rattle.cycle.specs.declared.Nanoseconds.{Nanoseconds}
use Rattle.cycle.specs.declared.Ticks.{Ticks}
use Rattle.cycle.specs.declared.judgement.CycleKind.TheVariants.{Late, Ahead}
use Rattle.cycle.specs.CycleTime.{tick_in_second, cycle_time_of, ticks_of, syt_of}
use Rattle.cycle.specs.Judgement.{cycle_offset, due_tick, side, timed_by, judged, judgement, OneCycleOffset, SecondPlaysNoPart, SytTellsTick}
use Rattle.cycle.proofs.Range.{parts}

abbrev pub half : ℕ
half = 24_576

-- the distance of the offset from the lowest one
abbrev pub distance : Ticks → Ticks → ℕ
distance tick due = law.distance half tick.0 due.0

pub one_cycle_offset : OneCycleOffset
unfolding cycle_offset
one_cycle_offset tick due = law.one_offset half tick.0 due.0 (omega arith)

offset_at : (tick due : Ticks) → cycle_offset tick due ≡ law.at half (distance tick due)
unfolding cycle_offset
offset_at tick due = law.offset_at half tick.0 due.0 (omega arith)

-- ---- the second plays no part

whole_seconds : (s : ℕ) (tick due : Ticks) → cycle_offset (record { 0 = s * 24_576_000 + tick.0 }) due ≡ cycle_offset tick due
whole_seconds s tick due =
    let later : Ticks = record { 0 = s * 24_576_000 + tick.0 } in
    let e : distance later due ≡ distance tick due = omega arith in
    offset_at later due ∙ ap (law.at half) e ∙ sym (offset_at tick due)

from_second_0 : (L : Nanoseconds) (due : Ticks) → cycle_offset (ticks_of (cycle_time_of L)) due ≡ cycle_offset (tick_in_second L) due
unfolding ticks_of cycle_time_of
from_second_0 L due =
    let s : ℕ = L.0 / 1_000_000_000 % 128 in
    let tick : ℕ = (tick_in_second L).0 in
    let e : (s * 8_000 + tick / 3_072) * 3_072 + tick % 3_072 ≡ s * 24_576_000 + tick = omega arith in
    ap (λ (n : ℕ). cycle_offset (record { 0 = n }) due) e ∙ whole_seconds s (tick_in_second L) due

same_tick : (s : ℕ) (L : Nanoseconds) → tick_in_second (record { 0 = s * 1_000_000_000 + L.0 }) ≡ tick_in_second L
unfolding tick_in_second
same_tick s L =
    let e : (s * 1_000_000_000 + L.0) % 1_000_000_000 ≡ L.0 % 1_000_000_000 = omega arith in
    λ i. record { 0 = e i * 384 / 15_625 }

another_second : (frame : List ℕ) (s : ℕ) (L : Nanoseconds)
    → judgement frame (record { 0 = s * 1_000_000_000 + L.0 }) ≡ judgement frame L
unfolding judgement judged
another_second frame s L = rw (same_tick s L)

pub second_plays_no_part : SecondPlaysNoPart
second_plays_no_part =
    record { whole_seconds = whole_seconds; from_second_0 = from_second_0; another_second = another_second }

-- ---- the SYT of a cycle time

unpacked : (v o : ℕ) → v < 16 → o ≤ 3_071 → (due_tick (v * 4096 + o)).0 ≡ v * 3_072 + o
unfolding due_tick
unpacked v o h k =
    let cycle : (v * 4096 + o) / 4096 % 16 ≡ v = omega arith in
    let offset : (v * 4096 + o) / 1 % 4096 ≡ o = omega arith in
    λ i. cycle i * 3_072 + offset i

reduced : (s q v o : ℕ) → v < 16 → o ≤ 3_071 → v * 3_072 + o ≡ ((s * 8_000 + (q * 16 + v)) * 3_072 + o) % 49_152
reduced s q v o h k = omega arith

pub syt_tells_tick : SytTellsTick
unfolding syt_of ticks_of
syt_tells_tick c e =
    let p = parts c e in
    let v : ℕ = c.cycle % 16 in
    let below : v < 16 = omega arith in
    let packed : v * 4096 + (c.offset * 1 + 0) ≡ v * 4096 + c.offset = omega arith in
    let cycle : c.cycle / 16 * 16 + v ≡ c.cycle = omega arith in
    ap (λ (n : ℕ). (due_tick n).0) packed
    ∙ unpacked v c.offset below p.offset
    ∙ reduced c.seconds (c.cycle / 16) v c.offset below p.offset
    ∙ ap (λ (n : ℕ). ((c.seconds * 8_000 + n) * 3_072 + c.offset) % 49_152) cycle

-- ---- the answer at each distance

module _ (tick due : Ticks) where
  abbrev s : ℕ
  s = distance tick due

  -- the offset as an i64 holds it
  held_is : law.held half s ≡ cycle_offset tick due
  held_is = law.held_at half s (omega arith) (omega arith) ∙ sym (offset_at tick due)

  pub late : s < half → record { kind = Late; offset = record { 0 = law.held half s } } ≡ timed_by (cycle_offset tick due)
  unfolding timed_by
  late h =
      let kind : side (cycle_offset tick due) ≡ Late = ap side (offset_at tick due ∙ sub_lt s half h) in
      λ i. record { kind = sym kind i; offset = record { 0 = held_is i } }

  pub ahead : half ≤ s → record { kind = Ahead; offset = record { 0 = law.held half s } } ≡ timed_by (cycle_offset tick due)
  unfolding timed_by
  ahead h =
      let kind : side (cycle_offset tick due) ≡ Ahead = ap side (offset_at tick due ∙ sub_le s half h) in
      λ i. record { kind = sym kind i; offset = record { 0 = held_is i } }
