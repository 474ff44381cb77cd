-- A cycle time in range, by its parts. Assumes nothing.
use Prim.Native.Nat.{◌≤◌, ◌<◌}
use mathlib.Core.Path.{◌≡◌}
use native.Mathlib.Omega.{arith}
use borrow.Author.Tests.{le-ltb, ltb-false}
use Rattle.refusal.proofs.First.{clear, none}
use Rattle.cycle.specs.declared.Nanoseconds.{Nanoseconds}
use Rattle.cycle.specs.declared.CycleTime.{CycleTime}
use Rattle.cycle.specs.CycleTime.{tick_in_second, cycle_time_of, ticks_of, cycle_checks, cycle_refusal}

pub record Parts (c : CycleTime) : Type 0 where
  pub cycle : c.cycle ≤ 7_999
  pub offset : c.offset ≤ 3_071
  pub seconds : c.seconds ≤ 127

pub parts : (c : CycleTime) → cycle_refusal c ≡ 0 → Parts c
unfolding cycle_refusal cycle_checks
parts c e =
    let none = clear (cycle_checks c) tt e in
    record {
      cycle = ltb-false 7_999 c.cycle none.0;
      offset = ltb-false 3_071 c.offset none.1.0;
      seconds = ltb-false 127 c.seconds none.1.1.0;
    }

in_range : (c : CycleTime) → Parts c → cycle_refusal c ≡ 0
unfolding cycle_refusal cycle_checks
in_range c p =
    none (cycle_checks c)
    (le-ltb 7_999 c.cycle p.cycle, (le-ltb 3_071 c.offset p.offset, (le-ltb 127 c.seconds p.seconds, tt)))

-- any nanosecond has a cycle time in range
tick_below : (n : Nanoseconds) → (tick_in_second n).0 < 24_576_000
unfolding tick_in_second
tick_below n = omega arith

pub always_in_range : (n : Nanoseconds) → cycle_refusal (cycle_time_of n) ≡ 0
unfolding cycle_time_of
always_in_range n =
    let below = tick_below n in
    in_range (cycle_time_of n) (record { cycle = omega arith; offset = omega arith; seconds = omega arith })

-- the ticks of a cycle time in range are those of 128 seconds
pub ticks_below : (c : CycleTime) → cycle_refusal c ≡ 0 → (ticks_of c).0 < 3_145_728_000
unfolding ticks_of
ticks_below c e = let p = parts c e in omega arith
