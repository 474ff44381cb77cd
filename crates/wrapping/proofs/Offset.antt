-- There is one offset, whatever the wrap: each is taken by its distance from the lowest one. Assumes nothing.
use Prim.Native.Nat.{ℕ, zero, suc, ◌+◌, ◌-◌, ◌/◌, ◌%◌, ◌≤◌, ◌<◌}
use mathlib.Core.Path.{◌≡◌, sym, ap, ◌∙◌}
use native.Mathlib.Nat.{div-add-mod', mod-lt, mod-eq_of_lt, add-mul}
use native.Mathlib.Omega.{arith}
use lib.Dec.{leb→le, le→leb}
use lib.IntN.{ℤ, pos, negsuc, neg_ℤ, ◌+ℤ◌, ◌-ℤ◌, +ℤ_assoc}
use lib.Signed.{◌≤ℤ◌, le_z_yes}
use mir.Syntax.{w64}
use mir.Val.{SFits, to_z, of_z}
use mir.Facts.{to_z_pos, to_z-of_z}
use Rattle.wrapping.specs.Wrapping.{modulo, offset, IsOffset, OneOffset}
use Rattle.wrapping.proofs.Signed.{by_lt, sub_lt, sub_le}
use Rattle.wrapping.proofs.Modulo.{same_mod, modulo_sub}

-- T - L + half a wrap, modulo a wrap
abbrev pub distance : ℕ → ℕ → ℕ → ℕ
distance half L T = (T + half + (half + half) - L % (half + half)) % (half + half)

-- the number at distance s from the lowest offset
abbrev pub at : ℕ → ℕ → ℤ
at half s = pos s -ℤ pos half

distance_lt : (half L T : ℕ) → 0 < half → distance half L T < half + half
distance_lt half L T h = mod-lt (T + half + (half + half) - L % (half + half)) {m = half + half} (omega arith)

pub offset_at : (half L T : ℕ) → 0 < half → offset half L T ≡ at half (distance half L T)
unfolding offset
offset_at half L T h =
    let l = mod-lt L {m = half + half} (omega arith) in
    let e : T + half + (half + half - L % (half + half)) ≡ T + half + (half + half) - L % (half + half) = omega arith in
    ap (at half) (modulo_sub (T + half) L (half + half) (omega arith) ∙ ap (λ (n : ℕ). n % (half + half)) e)

-- L + d
pub sum_at : (half L s : ℕ) → pos L +ℤ at half s ≡ at half (L + s)
sum_at half L s = sym (+ℤ_assoc (pos L) (pos s) (neg_ℤ (pos half)))

-- what is as far as a distance is the distance
one_distance : (half L T s : ℕ) → s < half + half
    → (L + s + half) % (half + half) ≡ T % (half + half) → s ≡ distance half L T
one_distance half L T s h e =
    let wrap = half + half in
    let l = mod-lt L {m = wrap} (omega arith) in
    let whole-L = div-add-mod' L wrap in
    let whole-T = div-add-mod' T wrap in
    let whole = div-add-mod' (L + s + half) wrap in
    let more = add-mul (L / wrap + T / wrap) 2 wrap in
    let both = add-mul (L / wrap) (T / wrap) wrap in
    sym (mod-eq_of_lt h)
    ∙ same_mod s (T + half + wrap - L % wrap) (L / wrap + T / wrap + 2) ((L + s + half) / wrap) wrap (omega arith)

-- how far L and a distance come
modulo_sum : (half L s : ℕ) → 0 < half → modulo (pos L +ℤ at half s) (half + half) ≡ (L + s + half) % (half + half)
modulo_sum half L s h =
    let e : half + half - half % (half + half) ≡ half = rw (mod-eq_of_lt {n = half} {m = half + half} (omega arith)) (omega arith) in
    rw (sum_at half L s)
    (modulo_sub (L + s) half (half + half) (omega arith) ∙ ap (λ (n : ℕ). (L + s + n) % (half + half)) e)

-- from L by the distance one comes to T
to_T : (half L T : ℕ) → 0 < half → (L + distance half L T + half) % (half + half) ≡ T % (half + half)
to_T half L T h =
    let wrap = half + half in
    let l = mod-lt L {m = wrap} (omega arith) in
    let whole-L = div-add-mod' L wrap in
    let whole = div-add-mod' (T + half + wrap - L % wrap) wrap in
    let more = add-mul (L / wrap) 2 wrap in
    same_mod (L + distance half L T + half) T ((T + half + wrap - L % wrap) / wrap) (L / wrap + 2) wrap (omega arith)

at_in_range : (h s : ℕ) → s < suc h + suc h → (neg_ℤ (pos (suc h)) ≤ℤ at (suc h) s) × (at (suc h) s ≤ℤ pos (suc h - 1))
at_in_range h s below =
    by_lt s (suc h)
    (λ k. rw (sub_lt s (suc h) k) (le_z_yes (omega (arith, le→leb)), le_z_yes tt))
    (λ k. rw (sub_le s (suc h) k) (le_z_yes tt, le_z_yes (omega (arith, le→leb))))

record Distance (half : ℕ) (d : ℤ) : Type 0 where
  s : ℕ
  within : s < half + half
  there : d ≡ at half s

-- every number in range has a distance
distance_of : (h : ℕ) (d : ℤ) → neg_ℤ (pos (suc h)) ≤ℤ d → d ≤ℤ pos (suc h - 1) → Distance (suc h) d
distance_of h (pos n) low high =
    let k = leb→le n (suc h - 1) high.le in
    record {
      s = n + suc h;
      within = omega arith;
      there = sym (sub_le (n + suc h) (suc h) (omega arith) ∙ ap pos (omega arith));
    }
distance_of h (negsuc n) low high =
    let k = leb→le n h low.le in
    record {
      s = suc h - suc n;
      within = omega arith;
      there = sym (sub_lt (suc h - suc n) (suc h) (omega arith) ∙ ap negsuc (omega arith));
    }

is_offset : (h L T : ℕ) → IsOffset (neg_ℤ (pos (suc h))) (pos (suc h - 1)) (suc h + suc h) L T (offset (suc h) L T)
is_offset h L T =
    let s = distance (suc h) L T in
    let range = at_in_range h s (distance_lt (suc h) L T (omega arith)) in
    rw (offset_at (suc h) L T (omega arith))
    (record {
      low = range.0;
      high = range.1;
      same = modulo_sum (suc h) L s (omega arith) ∙ to_T (suc h) L T (omega arith);
    })

no_other : (h L T : ℕ) (e : ℤ) → IsOffset (neg_ℤ (pos (suc h))) (pos (suc h - 1)) (suc h + suc h) L T e → e ≡ offset (suc h) L T
no_other h L T e p =
    let w = distance_of h e p.low p.high in
    let same : (L + w.s + suc h) % (suc h + suc h) ≡ T % (suc h + suc h) =
    sym (modulo_sum (suc h) L w.s (omega arith)) ∙ ap (λ (z : ℤ). modulo (pos L +ℤ z) (suc h + suc h)) (sym w.there) ∙ p.same in
    w.there ∙ ap (at (suc h)) (one_distance (suc h) L T w.s w.within same) ∙ sym (offset_at (suc h) L T (omega arith))

pub one_offset : OneOffset
one_offset zero L T h = absurd (omega arith)
one_offset (suc h) L T _ = record { is = is_offset h L T; only = no_other h L T }

-- ---- as an i64 holds it

-- a distance less half a wrap
abbrev pub held : ℕ → ℕ → ℤ
held half s = to_z w64 (of_z w64 (to_z w64 s -ℤ pos half))

pub fits : (half s : ℕ) → half ≤ 2_147_483_648 → s < half + half → SFits w64 (to_z w64 s -ℤ pos half)
fits zero s small h = absurd (omega arith)
fits (suc half) s small h =
    rw (to_z_pos w64 {n = s} (omega arith))
    (by_lt s (suc half)
    (λ k. rw (sub_lt s (suc half) k) (record { sfits = omega arith }))
    (λ k. rw (sub_le s (suc half) k) (record { sfits = omega arith })))

pub held_at : (half s : ℕ) → half ≤ 2_147_483_648 → s < half + half → held half s ≡ at half s
held_at half s small h = to_z-of_z (fits half s small h) ∙ ap (λ (z : ℤ). z -ℤ pos half) (to_z_pos w64 {n = s} (omega arith))
