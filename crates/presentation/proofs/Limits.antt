-- What the limit decides: far or ahead, and nothing else. Assumes nothing.
use Prim.Native.Nat.{ℕ, ◌+◌, ◌<◌, ◌≤◌}
use mathlib.Core.Path.{◌≡◌, refl, subst}
use mathlib.Core.Bool.{Bool, true, false, cond, false≢true}
use native.Mathlib.Omega.{arith}
use borrow.Author.Tests.{lt-ltb, le-ltb, ltb-true}
use lib.Dec.{ltb, leb→le}
use lib.IntN.{ℤ, pos, negsuc, ◌+ℤ◌}
use lib.Signed.{◌≤ℤ◌}
use Rattle.presentation.specs.declared.Kind.TheVariants.{Outside, Ahead, Unclear, Far}
use Rattle.presentation.specs.declared.Timing.{Timing}
use Rattle.presentation.specs.Offset.{offset}
use Rattle.presentation.specs.Presentation.{untimed, side, timed, is_half_wrap, timing_within, largest_limit, timing, FarAboveLimit}
use Rattle.presentation.proofs.Offset.{one_offset}
use Rattle.presentation.proofs.Reckoning.{largest, answer}

-- what is said with a limit: far, or what is said with the largest
data Goes (limit : ℕ) (d : ℤ) (own free : Timing) : Type 0 where
  far : (n : ℕ) → d ≡ pos n → limit < n → n ≤ largest_limit → own.kind ≡ Far → Goes limit d own free
  same : (own.kind ≡ Far → ⊥) → own ≡ free → Goes limit d own free

-- no offset is above the largest limit
abbrev Within : ℤ → Type 0
Within d = (n : ℕ) → d ≡ pos n → n ≤ largest_limit

offset_within : (L T : ℕ) → Within (offset L T)
offset_within L T n e = leb→le n largest_limit (subst (λ (d : ℤ). d ≤ℤ pos largest_limit) e (one_offset L T).is.high).le

-- by d, the sum L + d, and whether d is half a wrap
goes : (limit : ℕ) (d sum : ℤ) → Within d → (b : Bool) → Goes limit d (cond b (untimed Unclear d) (timed limit d sum)) (cond b (untimed Unclear d) (timed largest_limit d sum))
unfolding timed
goes limit d sum within true = same (λ e. false≢true cc) refl
goes limit d (negsuc m) within false = same (λ e. false≢true cc) refl
goes limit d (pos m) within false = at_sum d within (ltb largest m)
  where
    from : (n : ℕ) → n ≤ largest_limit → (b : Bool) → ltb limit n ≡ b → Goes limit (pos n) (answer (cond (ltb limit n) Far Ahead) (pos n) m) (answer (cond (ltb largest_limit n) Far Ahead) (pos n) m)
    from n h true e = rw e (far n refl (ltb-true limit n e) h refl)
    from n h false e = rw (le-ltb largest_limit n h, e) (same (λ e. false≢true cc) refl)

    at_sum : (d : ℤ) → Within d → (b : Bool) → Goes limit d (cond b (untimed Outside d) (answer (side limit d) d m)) (cond b (untimed Outside d) (answer (side largest_limit d) d m))
    at_sum d within true = same (λ e. false≢true cc) refl
    at_sum (negsuc n) within false = same (λ e. false≢true cc) refl
    at_sum (pos n) within false = from n (within n refl) (ltb limit n) refl

goes_by : (limit L T : ℕ) → Goes limit (offset L T) (timing_within limit L T) (timing L T)
unfolding timing_within
goes_by limit L T = goes limit (offset L T) (pos L +ℤ offset L T) (offset_within L T) (is_half_wrap (offset L T))

there : (limit L T n : ℕ) → offset L T ≡ pos n → limit < n → L + n ≤ largest → timing_within limit L T ≡ answer Far (pos n) (L + n)
unfolding timing_within timed
there limit L T n e h l = rw (e, le-ltb largest (L + n) l, lt-ltb limit n h)

pub far_above_limit : FarAboveLimit
far_above_limit = record { there = there; only = only; others = others; never = never; above_largest = above_largest }
  where
    only : (limit L T : ℕ) → (timing_within limit L T).kind ≡ Far → (n : ℕ) × (offset L T ≡ pos n) × (limit < n)
    only limit L T e = go (goes_by limit L T)
      where
        go : Goes limit (offset L T) (timing_within limit L T) (timing L T) → (n : ℕ) × (offset L T ≡ pos n) × (limit < n)
        go (far n d h l k) = (n, d, h)
        go (same k s) = absurd (k e)

    others : (limit L T : ℕ) → ((timing_within limit L T).kind ≡ Far → ⊥) → timing_within limit L T ≡ timing L T
    others limit L T not_far = go (goes_by limit L T)
      where
        go : Goes limit (offset L T) (timing_within limit L T) (timing L T) → timing_within limit L T ≡ timing L T
        go (far n d h l k) = absurd (not_far k)
        go (same k s) = s

    never : (L T : ℕ) → (timing L T).kind ≡ Far → ⊥
    never L T = go (goes_by largest_limit L T)
      where
        go : Goes largest_limit (offset L T) (timing L T) (timing L T) → (timing L T).kind ≡ Far → ⊥
        go (far n d h l k) = absurd (omega arith)
        go (same k s) = k

    above_largest : (limit L T : ℕ) → largest_limit ≤ limit → timing_within limit L T ≡ timing L T
    above_largest limit L T h = go (goes_by limit L T)
      where
        go : Goes limit (offset L T) (timing_within limit L T) (timing L T) → timing_within limit L T ≡ timing L T
        go (far n d k l f) = absurd (omega arith)
        go (same k s) = s
