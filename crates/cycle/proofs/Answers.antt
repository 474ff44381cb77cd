-- What is answered to a cycle time and to a frame, by what its checks said. Assumes nothing.
use Prim.Native.Nat.{ℕ, ◌+◌, ◌*◌, ◌/◌, ◌%◌, ◌≤◌, ◌<◌}
use mathlib.Core.Path.{◌≡◌, sym, ap, ◌∙◌}
use mathlib.Core.Bool.{true, false}
use mathlib.Core.List.{List}
use native.Mathlib.Nat.{div-one}
use native.Mathlib.Omega.{arith}
use borrow.Author.Tests.{lt-ltb, le-ltb}
use lib.Bits.{bit_and, bit_or}
use Rattle.std.specs.Prelude.{Result, Ok, Err}
use Rattle.wire.specs.Bits.{field}
use Rattle.wire.proofs.Bits.{joined, mask12}
use Rattle.refusal.specs.declared.Refusal.{Refusal}
use Rattle.refusal.specs.Refusals.{number_of}
use Rattle.refusal.proofs.First.{positive}
use Rattle.frame.specs.declared.layout.Fields.{Fields}
use Rattle.frame.specs.Reading.{reading, read_answer}
use Rattle.frame.proofs.Answers.{refused_number, accepted_number, accepted_fields}
use Rattle.cycle.specs.declared.Nanoseconds.{Nanoseconds}
use Rattle.cycle.specs.declared.CycleTime.{CycleTime}
use Rattle.cycle.specs.declared.judgement.CycleTiming.{CycleTiming}
use Rattle.cycle.specs.CycleTime.{tick_in_second, ticks_of, cycle_refusal, syt_row, syt_of, syt_answered, syt_answer, first_nanosecond, time_answered, time_answer}
use Rattle.cycle.specs.Judgement.{cycle_offset, due_tick, timed_by, untimed, gives_none, JudgementAnswer, refused_with, judged, judgement, judgement_answer}
use Rattle.cycle.proofs.Range.{parts}

module _ (c : CycleTime) where
  pub no_time_lem : (r : Refusal) → number_of r ≡ cycle_refusal c → time_answer (Err r) ≡ time_answered c
  unfolding time_answered
  no_time_lem r e = let p = positive r in rw (← e, p.1)

  pub the_time : {n : Nanoseconds} → 0 ≡ cycle_refusal c → n ≡ first_nanosecond (ticks_of c) → time_answer (Ok n) ≡ time_answered c
  unfolding time_answered
  the_time z e = rw (← z, e)

  pub no_syt : (r : Refusal) → number_of r ≡ cycle_refusal c → syt_answer (Err r) ≡ syt_answered c
  unfolding syt_answered
  no_syt r e = let p = positive r in rw (← e, p.1)

  pub the_syt : {n : ℕ} → 0 ≡ cycle_refusal c → n ≡ syt_of c → syt_answer (Ok n) ≡ syt_answered c
  unfolding syt_answered
  the_syt z e = rw (← z, e)

-- a cycle modulo 16 above an offset of twelve bits
pub joined_syt : (c : CycleTime) → cycle_refusal c ≡ 0 → bit_or ((c.cycle % 16 * 4096) % 18_446_744_073_709_551_616) c.offset ≡ syt_of c
unfolding syt_of
joined_syt c e =
    let p = parts c e in
    joined (c.cycle % 16) 12 64 {lo = c.offset} (omega arith) (omega arith) ∙ omega arith

pub syt_below : (c : CycleTime) → cycle_refusal c ≡ 0 → syt_of c < 65536
unfolding syt_of
syt_below c e = let p = parts c e in omega arith

-- ---- a frame by its SYT

-- the lowest twelve bits
offset_field : (n : ℕ) → bit_and n 0xfff ≡ field 1 syt_row n
offset_field n = mask12 n ∙ ap (λ (q : ℕ). q % 4096) (sym (div-one n))

pub due_tick_lem : (n : ℕ) → n < 65536 → record { 0 = n / 4096 * 3_072 + bit_and n 0xfff } ≡ due_tick n
unfolding due_tick
due_tick_lem n h =
    let cycle : n / 4096 ≡ n / 4096 % 16 = omega arith in
    λ i. record { 0 = cycle i * 3_072 + offset_field n i }

module _ (f : Fields) (L : Nanoseconds) where
  pub answers_none : true ≡ gives_none f → judgement_answer (Ok untimed) ≡ judged f L
  unfolding judged
  answers_none e = rw (← e)

  module _ (e : false ≡ gives_none f) where
    pub offset_too_large_lem : 3_071 < bit_and f.cip.low_half 0xfff → refused_with 62 ≡ judged f L
    unfolding judged
    offset_too_large_lem h = rw (← e, ← offset_field f.cip.low_half, lt-ltb 3_071 (bit_and f.cip.low_half 0xfff) h)

    pub by_offset : bit_and f.cip.low_half 0xfff ≤ 3_071 → {t : CycleTiming}
        → t ≡ timed_by (cycle_offset (tick_in_second L) (due_tick f.cip.low_half)) → judgement_answer (Ok t) ≡ judged f L
    unfolding judged
    by_offset h q = rw (← e, ← offset_field f.cip.low_half, le-ltb 3_071 (bit_and f.cip.low_half 0xfff) h, q)

module _ (frame : List ℕ) (L : Nanoseconds) {x : Result Fields Refusal} (read : read_answer x ≡ reading frame) where
  pub reader_refuses : {r : Refusal} → x ≡ Err r → refused_with (number_of r) ≡ judgement frame L
  unfolding judgement
  reader_refuses {r} z = let p = positive r in rw (refused_number frame read z, p.1)

  pub reader_accepts : {f : Fields} {a : JudgementAnswer} → x ≡ Ok f → a ≡ judged f L → a ≡ judgement frame L
  unfolding judgement
  reader_accepts z q = rw (accepted_number frame read z, ← accepted_fields frame read z) q
