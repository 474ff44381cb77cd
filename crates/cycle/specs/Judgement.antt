-- A frame judged by its SYT (requests #101 and #108). L is the arrival time, in nanoseconds.
use Rattle.std.specs.Prelude.{ℕ, ◌+◌, ◌*◌, ◌%◌, ◌≡◌, Bool, not, ◌||◌, cond, List, eqb, ℤ, pos, negsuc, neg_ℤ, Result, Ok, Err}
use Rattle.wire.specs.Bits.{field}
use Rattle.refusal.specs.declared.Refusal.{Refusal}
use Rattle.refusal.specs.Refusals.{number_of, if_accepted}
use Rattle.frame.specs.declared.layout.Fields.{Fields}
use Rattle.frame.specs.Layout.{fields_of, cip_in}
use Rattle.frame.specs.Checks.{refusal}
use Rattle.wrapping.specs.Wrapping.{offset, TheOffset}
use Rattle.cycle.specs.declared.Nanoseconds.{Nanoseconds}
use Rattle.cycle.specs.declared.Ticks.{Ticks}
use Rattle.cycle.specs.declared.CycleTime.{CycleTime}
use Rattle.cycle.specs.declared.judgement.CycleKind.{CycleKind}
use Rattle.cycle.specs.declared.judgement.CycleKind.TheVariants.{None, Late, Ahead}
use Rattle.cycle.specs.declared.judgement.CycleTiming.{CycleTiming}
use Rattle.cycle.specs.CycleTime.{tick_in_second, cycle_time_of, ticks_of, syt_row, syt_of, offset_too_large, cycle_refusal}

-- how far the tick of a SYT lies from L's
unfoldable pub cycle_offset : Ticks → Ticks → ℤ
cycle_offset tick due = offset 24_576 tick.0 due.0

-- it is "the one whole number of ticks from −24,576 to 24,575 which, added to L's tick, equals SYT's cycle × 3,072 + offset modulo 49,152"
abbrev pub OneCycleOffset : Type 0
OneCycleOffset = (tick due : Ticks) → TheOffset (neg_ℤ (pos 24_576)) (pos 24_575) 49_152 tick.0 due.0 (cycle_offset tick due)

-- "SYT's cycle × 3,072 + offset"
unfoldable pub due_tick : ℕ → Ticks
due_tick syt = record { 0 = field 0 syt_row syt * 3_072 + field 1 syt_row syt }

-- "late below 0, else ahead"
abbrev pub side : ℤ → CycleKind
side (negsuc n) = Late
side (pos n) = Ahead

unfoldable pub timed_by : ℤ → CycleTiming
timed_by d = record { kind = side d; offset = record { 0 = d } }

-- "SYT 0xFFFF, SPH 1 or SID 63 gives none and 0"; so does a frame without a CIP header (request #108)
unfoldable pub gives_none : Fields → Bool
gives_none f = not (cip_in f) || eqb f.cip.low_half 0xFFFF || f.cip.sph || eqb f.cip.sid 63

abbrev pub untimed : CycleTiming
untimed = record { kind = None; offset = record { 0 = pos 0 } }

-- ---- The answer: a number, 0 where the frame is not refused, and kind and offset, none and 0 where it is

pub record JudgementAnswer : Type 0 where
  pub number : ℕ
  pub timing : CycleTiming

abbrev pub judged_as : CycleTiming → JudgementAnswer
judged_as timing = record { number = 0; timing = timing }

abbrev pub refused_with : ℕ → JudgementAnswer
refused_with n = record { number = n; timing = untimed }

-- an accepted frame: none and 0 before 62
unfoldable pub judged : Fields → Nanoseconds → JudgementAnswer
judged f L =
    cond (gives_none f) (judged_as untimed)
    (cond (offset_too_large (field 1 syt_row f.cip.low_half)) (refused_with 62)
    (judged_as (timed_by (cycle_offset (tick_in_second L) (due_tick f.cip.low_half)))))

-- any bytes: the reader's numbers first
unfoldable pub judgement : List ℕ → Nanoseconds → JudgementAnswer
judgement frame L = if_accepted (refusal frame) (judged (fields_of frame) L) (refused_with (refusal frame))

-- what each case of the answer says
abbrev pub judgement_answer : Result CycleTiming Refusal → JudgementAnswer
judgement_answer (Ok timing) = judged_as timing
judgement_answer (Err r) = refused_with (number_of r)

-- ---- L's second plays no part

pub record SecondPlaysNoPart : Type 0 where
  -- a second is 24,576,000 ticks, 500 times 49,152: whole seconds before L's tick change no offset
  pub whole_seconds : (s : ℕ) (tick due : Ticks) → cycle_offset (record { 0 = s * 24_576_000 + tick.0 }) due ≡ cycle_offset tick due
  -- so it is the same offset by L's ticks from cycle second 0 on
  pub from_second_0 : (L : Nanoseconds) (due : Ticks) → cycle_offset (ticks_of (cycle_time_of L)) due ≡ cycle_offset (tick_in_second L) due
  -- and a frame is judged the same in any second
  pub another_second : (frame : List ℕ) (s : ℕ) (L : Nanoseconds)
      → judgement frame (record { 0 = s * 1_000_000_000 + L.0 }) ≡ judgement frame L

-- ---- The SYT of a cycle time in range tells its tick modulo 49,152

abbrev pub SytTellsTick : Type 0
SytTellsTick = (c : CycleTime) → cycle_refusal c ≡ 0 → (due_tick (syt_of c)).0 ≡ (ticks_of c).0 % 49_152
