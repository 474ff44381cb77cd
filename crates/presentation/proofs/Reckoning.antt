-- What `timing_within` answers at each distance of the stamp, and that the machine's answer with that kind and time is it. Assumes nothing.
use Prim.Native.Nat.{ℕ, suc, ◌+◌, ◌-◌, ◌≤◌, ◌<◌}
use mathlib.Core.Path.{◌≡◌, refl, sym, ap, ◌∙◌}
use mathlib.Core.Bool.{Bool, true, false, cond, false≢true}
use native.Mathlib.Omega.{arith}
use borrow.Author.Tests.{lt-ltb, le-ltb, ne_eqb, eqb-true}
use lib.Dec.{ltb}
use lib.IntN.{ℤ, pos, negsuc, neg_ℤ, ◌+ℤ◌}
use Rattle.presentation.specs.declared.Kind.{Kind}
use Rattle.presentation.specs.declared.Kind.TheVariants.{Outside, Late, Ahead, Unclear, Far}
use Rattle.presentation.specs.declared.Timing.{Timing}
use Rattle.presentation.specs.Offset.{offset}
use Rattle.presentation.specs.Presentation.{untimed, side, timed, is_half_wrap, timing_within, UnclearAtHalfWrap}
use Rattle.wrapping.proofs.Signed.{by_lt, sub_lt, sub_le}
use Rattle.wrapping.proofs.Offset.{sum_at, held, held_at}
use Rattle.presentation.proofs.Offset.{half, distance, at, offset_at}

-- the largest time
abbrev pub largest : ℕ
largest = 18_446_744_073_709_551_615

-- ---- by the distance s of d from the lowest offset

abbrev pub answer : Kind → ℤ → ℕ → Timing
answer kind d time = record { kind = kind; offset = d; time = time }

-- what `timing_within` says there
abbrev away : ℕ → ℕ → ℕ → Timing
away limit L s = cond (is_half_wrap (at s)) (answer Unclear (at s) 0) (timed limit (at s) (pos L +ℤ at s))

-- half a wrap away is the lowest offset alone
clear : (limit L s : ℕ) → 0 < s → away limit L s ≡ timed limit (at s) (pos L +ℤ at s)
clear limit L s h = rw (by_lt s half {X = is_half_wrap (at s) ≡ false} (λ k. rw (sub_lt s half k, ne_eqb (half - suc s + 1) half (omega arith))) (λ k. rw (sub_le s half k)))

module _ (limit L s : ℕ) where
  pub unclear : s ≡ 0 → away limit L s ≡ answer Unclear (at s) 0
  unclear h = rw h

  pub before_zero : 0 < s → L + s < half → away limit L s ≡ answer Outside (at s) 0
  unfolding timed
  before_zero g h = clear limit L s g ∙ rw (sum_at half L s, sub_lt (L + s) half h)

  pub late : 0 < s → L ≤ largest → s < half → half - s ≤ L → away limit L s ≡ answer Late (at s) (L - (half - s))
  unfolding timed
  late g l h k =
      let time : L + s - half ≡ L - (half - s) = omega arith in
      clear limit L s g ∙ rw (sum_at half L s, sub_le (L + s) half (omega arith), time, le-ltb largest (L - (half - s)) (omega arith), sub_lt s half h)

  pub past_end : L ≤ largest → half ≤ s → largest - L < s - half → away limit L s ≡ answer Outside (at s) 0
  unfolding timed
  past_end l h k = clear limit L s (omega arith) ∙ rw (sum_at half L s, sub_le (L + s) half (omega arith), lt-ltb largest (L + s - half) (omega arith))

  -- from L on, the kind goes by the limit
  on_side : L ≤ largest → half ≤ s → s - half ≤ largest - L → away limit L s ≡ answer (cond (ltb limit (s - half)) Far Ahead) (at s) (L + (s - half))
  unfolding timed
  on_side l h k =
      let time : L + s - half ≡ L + (s - half) = omega arith in
      clear limit L s (omega arith) ∙ rw (sum_at half L s, sub_le (L + s) half (omega arith), time, le-ltb largest (L + (s - half)) (omega arith), sub_le s half h)

  pub far : L ≤ largest → half ≤ s → s - half ≤ largest - L → limit < s - half → away limit L s ≡ answer Far (at s) (L + (s - half))
  far l h k f = on_side l h k ∙ rw (lt-ltb limit (s - half) f)

  pub ahead : L ≤ largest → half ≤ s → s - half ≤ largest - L → s - half ≤ limit → away limit L s ≡ answer Ahead (at s) (L + (s - half))
  ahead l h k f = on_side l h k ∙ rw (le-ltb limit (s - half) f)

-- ---- the machine's answer

-- what is answered with the kind and time of the stamp's distance is `timing_within`
pub reckoned : (limit L T : ℕ) {kind : Kind} {time : ℕ} {r : Timing} → r ≡ answer kind (held half (distance L T)) time
    → away limit L (distance L T) ≡ answer kind (at (distance L T)) time → r ≡ timing_within limit L T
unfolding timing_within
reckoned limit L T {kind} {time} {r} e f =
    let machine : r ≡ answer kind (at (distance L T)) time = e ∙ ap (λ (d : ℤ). answer kind d time) (held_at half (distance L T) (omega arith) (omega arith)) in
    machine ∙ sym f ∙ ap (λ (d : ℤ). cond (is_half_wrap d) (answer Unclear d 0) (timed limit d (pos L +ℤ d))) (sym (offset_at L T))

-- ---- where the kind is unclear

half_wrap_only : (d : ℤ) → is_half_wrap d ≡ true → d ≡ neg_ℤ (pos half)
half_wrap_only (negsuc n) e = let h = eqb-true (n + 1) half e in ap negsuc (omega arith)
half_wrap_only (pos n) e = absurd (false≢true e)

-- by the sum no kind is
clear_by_sum : (limit : ℕ) (d sum : ℤ) → (timed limit d sum).kind ≡ Unclear → false ≡ true
unfolding timed
clear_by_sum limit d (negsuc n) e = cc
clear_by_sum limit d (pos n) e = go d (ltb largest n) e
  where
    by_limit : (b : Bool) → cond b Far Ahead ≡ Unclear → false ≡ true
    by_limit true e = cc
    by_limit false e = cc

    go : (d : ℤ) (b : Bool) → (cond b (untimed Outside d) (record { kind = side limit d; offset = d; time = n })).kind ≡ Unclear → false ≡ true
    go d true e = cc
    go (negsuc m) false e = cc
    go (pos m) false e = by_limit (ltb limit m) e

only_at_half_wrap : (limit : ℕ) (d sum : ℤ) (b : Bool) → is_half_wrap d ≡ b → (cond b (untimed Unclear d) (timed limit d sum)).kind ≡ Unclear → d ≡ neg_ℤ (pos half)
only_at_half_wrap limit d sum true e _ = half_wrap_only d e
only_at_half_wrap limit d sum false _ u = absurd (false≢true (clear_by_sum limit d sum u))

pub unclear_at_half_wrap : UnclearAtHalfWrap
unfolding timing_within
unclear_at_half_wrap =
    record {
      there = λ limit L T e. rw e;
      only = λ limit L T e. only_at_half_wrap limit (offset L T) (pos L +ℤ offset L T) (is_half_wrap (offset L T)) refl e;
    }
