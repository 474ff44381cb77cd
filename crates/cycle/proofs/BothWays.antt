-- From ticks to nanoseconds and back, and from nanoseconds to ticks and back. Assumes nothing.
use Prim.Native.Nat.{ℕ, ◌+◌, ◌*◌, ◌/◌, ◌%◌, ◌≤◌, ◌<◌}
use mathlib.Core.Path.{◌≡◌, ap, ◌∙◌}
use native.Mathlib.Omega.{arith}
use Rattle.cycle.specs.declared.Nanoseconds.{Nanoseconds}
use Rattle.cycle.specs.declared.Ticks.{Ticks}
use Rattle.cycle.specs.CycleTime.{tick_in_second, cycle_time_of, ticks_of, Smallest, first_nanosecond, OneNanosecond, TickAndBack, NanosecondAndBack}
use Rattle.cycle.proofs.Range.{parts, always_in_range, ticks_below}

-- nanoseconds of ticks, rounded up
abbrev ceiling : ℕ → ℕ
ceiling t = (t * 15_625 + 383) / 384

is_smallest : (t : Ticks) → Smallest t (first_nanosecond t)
unfolding first_nanosecond
is_smallest t = record { not_before = omega arith; smallest = λ m h. omega arith }

pub one_nanosecond : OneNanosecond
one_nanosecond t =
    record {
      is = is_smallest t;
      only = λ m p.
          (let c = is_smallest t in
          let low = p.smallest (first_nanosecond t) c.not_before in
          let high = c.smallest m p.not_before in
          let e : m.0 ≡ (first_nanosecond t).0 = omega arith in
          λ i. record { 0 = e i });
    }

-- ---- from ticks: s whole seconds and u ticks more

by_seconds : (s u : ℕ) → ceiling (s * 24_576_000 + u) ≡ s * 1_000_000_000 + ceiling u
by_seconds s u = omega arith

within_second : (u : ℕ) → u < 24_576_000 → ceiling u < 1_000_000_000
within_second u h = omega arith

same_tick : (u : ℕ) → ceiling u * 384 / 15_625 ≡ u
same_tick u = omega arith

module _ (s v n : ℕ) (below : v < 1_000_000_000) (whole : n ≡ s * 1_000_000_000 + v) where
  seconds_of : n / 1_000_000_000 ≡ s
  seconds_of = omega arith

  rest_of : n % 1_000_000_000 ≡ v
  rest_of = omega arith

pub tick_and_back : TickAndBack
unfolding first_nanosecond ticks_of cycle_time_of tick_in_second
tick_and_back c ok =
    let p = parts c ok in
    let n : ℕ = (first_nanosecond (ticks_of c)).0 in
    let s : ℕ = c.seconds in
    let u : ℕ = c.cycle * 3_072 + c.offset in
    let v : ℕ = ceiling u in
    let ticks : (ticks_of c).0 ≡ s * 24_576_000 + u = omega arith in
    let whole : n ≡ s * 1_000_000_000 + v = ap ceiling ticks ∙ by_seconds s u in
    let below = within_second u (omega arith) in
    let tick : n % 1_000_000_000 * 384 / 15_625 ≡ u = ap (λ (r : ℕ). r * 384 / 15_625) (rest_of s v n below whole) ∙ same_tick u in
    let seconds : n / 1_000_000_000 % 128 ≡ s = ap (λ (q : ℕ). q % 128) (seconds_of s v n below whole) ∙ omega arith in
    let cycle : n % 1_000_000_000 * 384 / 15_625 / 3_072 ≡ c.cycle = ap (λ (k : ℕ). k / 3_072) tick ∙ omega arith in
    let offset : n % 1_000_000_000 * 384 / 15_625 % 3_072 ≡ c.offset = ap (λ (k : ℕ). k % 3_072) tick ∙ omega arith in
    (omega arith, λ i. record { seconds = seconds i; cycle = cycle i; offset = offset i })

-- ---- from nanoseconds

-- whole seconds s, r nanoseconds more, and k ticks in those
record Split (n : Nanoseconds) : Type 0 where
  s : ℕ
  r : ℕ
  k : ℕ
  whole : n.0 ≡ s * 1_000_000_000 + r
  low : k * 15_625 ≤ r * 384
  high : r * 384 < k * 15_625 + 15_625
  ticks : (ticks_of (cycle_time_of n)).0 ≡ s * 24_576_000 + k

split : (n : Nanoseconds) → n.0 < 128_000_000_000 → Split n
unfolding ticks_of cycle_time_of tick_in_second
split n h =
    let r = n.0 % 1_000_000_000 in
    let k = r * 384 / 15_625 in
    record {
      s = n.0 / 1_000_000_000 % 128;
      r = r;
      k = k;
      whole = omega arith;
      low = omega arith;
      high = omega arith;
      ticks = omega arith;
    }

pub nanosecond_and_back : NanosecondAndBack
nanosecond_and_back =
    record {
      in_range = always_in_range;
      ticks_in_range = λ n. ticks_below (cycle_time_of n) (always_in_range n);
      never_later = λ n h. let x = split n h in (is_smallest (ticks_of (cycle_time_of n))).smallest n (omega arith);
      at_most_early = λ n h. let x = split n h in let q = (is_smallest (ticks_of (cycle_time_of n))).not_before in omega arith;
    }
