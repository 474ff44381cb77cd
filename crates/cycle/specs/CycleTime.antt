-- Cycle time (request #101). `Nanoseconds` and `Ticks` are two types here as in the code: a reading of one clock cannot stand where one
-- of the other is meant.
use Rattle.std.specs.Prelude.{ℕ, ◌+◌, ◌*◌, ◌/◌, ◌%◌, ◌≤◌, ◌<◌, ◌≡◌, Bool, List, [], ◌∷◌, ltb, Result, Ok, Err}
use Rattle.wire.specs.Bits.{pack}
use Rattle.refusal.specs.declared.Refusal.{Refusal}
use Rattle.refusal.specs.Refusals.{Check, ◌answers◌, first_of, number_of, if_accepted}
use Rattle.cycle.specs.declared.Nanoseconds.{Nanoseconds}
use Rattle.cycle.specs.declared.Ticks.{Ticks}
use Rattle.cycle.specs.declared.CycleTime.{CycleTime}

-- "the tick number within its second is (n mod 1,000,000,000) × 384 / 15,625, rounded down"
unfoldable pub tick_in_second : Nanoseconds → Ticks
tick_in_second n = record { 0 = (n.0 % 1_000_000_000) * 384 / 15_625 }

-- "3,072 ticks make a cycle and 8,000 cycles a second; cycle seconds are whole seconds modulo 128"
unfoldable pub cycle_time_of : Nanoseconds → CycleTime
cycle_time_of n =
    record {
      seconds = (n.0 / 1_000_000_000) % 128;
      cycle = (tick_in_second n).0 / 3_072;
      offset = (tick_in_second n).0 % 3_072;
    }

-- the ticks from the start of cycle second 0 to a cycle time
unfoldable pub ticks_of : CycleTime → Ticks
ticks_of c = record { 0 = (c.seconds * 8_000 + c.cycle) * 3_072 + c.offset }

-- "SYT is the cycle modulo 16 (four bits), then the offset (twelve)"
abbrev pub syt_row : List ℕ
syt_row = 4 ∷ 12 ∷ []

unfoldable pub syt_of : CycleTime → ℕ
syt_of c = pack syt_row (c.cycle % 16 ∷ c.offset ∷ [])

-- ---- Back again

-- a nanosecond is not before a tick: 384 ticks take 15,625 nanoseconds
abbrev pub NotBefore : Nanoseconds → Ticks → Type 0
NotBefore n t = t.0 * 15_625 ≤ n.0 * 384

-- the nanoseconds that ticks take, rounded up
unfoldable pub first_nanosecond : Ticks → Nanoseconds
first_nanosecond t = record { 0 = (t.0 * 15_625 + 383) / 384 }

-- "the smallest nanosecond not before it"
pub record Smallest (t : Ticks) (n : Nanoseconds) : Type 0 where
  pub not_before : NotBefore n t
  pub smallest : (m : Nanoseconds) → NotBefore m t → n.0 ≤ m.0

-- it is one, and no other nanosecond is, for every tick
pub record TheSmallest (t : Ticks) (n : Nanoseconds) : Type 0 where
  pub is : Smallest t n
  pub only : (m : Nanoseconds) → Smallest t m → m ≡ n

abbrev pub OneNanosecond : Type 0
OneNanosecond = (t : Ticks) → TheSmallest t (first_nanosecond t)

-- ---- What is refused: "61 cycle above 7,999, 62 offset above 3,071 (a SYT's too), 63 cycle seconds above 127, in that order"

abbrev pub offset_too_large : ℕ → Bool
offset_too_large offset = ltb 3_071 offset

unfoldable pub cycle_checks : CycleTime → List Check
cycle_checks c =
    ltb 7_999 c.cycle answers 61
    ∷ offset_too_large c.offset answers 62
    ∷ ltb 127 c.seconds answers 63
    ∷ []

-- the number that a cycle time is answered, 0 where it is in range
unfoldable pub cycle_refusal : CycleTime → ℕ
cycle_refusal c = first_of (cycle_checks c)

-- ---- What a cycle time is answered, and what each case of the answers says

pub record SytAnswer : Type 0 where
  pub number : ℕ
  pub syt : ℕ

unfoldable pub syt_answered : CycleTime → SytAnswer
syt_answered c = record { number = cycle_refusal c; syt = if_accepted (cycle_refusal c) (syt_of c) 0 }

abbrev pub syt_answer : Result ℕ Refusal → SytAnswer
syt_answer (Ok v) = record { number = 0; syt = v }
syt_answer (Err r) = record { number = number_of r; syt = 0 }

pub record TimeAnswer : Type 0 where
  pub number : ℕ
  pub time : Nanoseconds

abbrev pub no_time : Nanoseconds
no_time = record { 0 = 0 }

unfoldable pub time_answered : CycleTime → TimeAnswer
time_answered c = record { number = cycle_refusal c; time = if_accepted (cycle_refusal c) (first_nanosecond (ticks_of c)) no_time }

abbrev pub time_answer : Result Nanoseconds Refusal → TimeAnswer
time_answer (Ok n) = record { number = 0; time = n }
time_answer (Err r) = record { number = number_of r; time = no_time }

-- ---- What is wanted of both ways

-- "for cycle times in range": "tick to nanosecond to tick gives the same tick", and so the same cycle time, by a nanosecond below
-- 128,000,000,000
abbrev pub TickAndBack : Type 0
TickAndBack =
    (c : CycleTime) → cycle_refusal c ≡ 0
    → (let n = first_nanosecond (ticks_of c) in (n.0 < 128_000_000_000) × (cycle_time_of n ≡ c))

-- any nanosecond has a cycle time in range; for "nanoseconds below 128,000,000,000": "nanosecond to tick to nanosecond never gives a
-- later time and is at most 40 ns early"
pub record NanosecondAndBack : Type 0 where
  pub in_range : (n : Nanoseconds) → cycle_refusal (cycle_time_of n) ≡ 0
  pub ticks_in_range : (n : Nanoseconds) → (ticks_of (cycle_time_of n)).0 < 128 * 24_576_000
  pub never_later : (n : Nanoseconds) → n.0 < 128_000_000_000 → (first_nanosecond (ticks_of (cycle_time_of n))).0 ≤ n.0
  pub at_most_early : (n : Nanoseconds) → n.0 < 128_000_000_000 → n.0 ≤ (first_nanosecond (ticks_of (cycle_time_of n))).0 + 40
