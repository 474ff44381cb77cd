-- Where the first start is: the formula that finds it, once for every FN, and the search that says it. Assumes nothing.
use Prim.Native.Nat.{ℕ, zero, suc, ◌+◌, ◌-◌, ◌*◌, ◌%◌, ◌^◌, ◌≤◌, ◌<◌, ◌∣◌}
use mathlib.Core.Path.{◌≡◌, sym, ap, subst, ◌∙◌}
use mathlib.Core.Bool.{cond}
use mathlib.Core.List.{List}
use mathlib.Core.Logic.{⊎_elim}
use native.Mathlib.Nat.{eq-or-lt_of_le, mod-lt, mod-eq_of_lt, add-mod-mod, div-one, mod-mod_of_dvd, mod-eq-zero_of_dvd, dvd_of_mod-eq-zero, dvd-sub, le_of_dvd, pos_of_dvd_of_pos, dvd_refl, dvd-mul_left, pow-le-pow_right}
use native.Mathlib.Omega.{arith}
use lib.Pow.{pow-add}
use borrow.Author.Tests.{eq-eqb, ne_eqb, lt-ltb, le-ltb}
use lib.Dec.{ltb}
use Rattle.wire.specs.Bits.{bits}
use Rattle.frame.specs.declared.layout.Cip.{Cip}
use Rattle.std.specs.Prelude.{Option, None, Some}
use Rattle.source_packet.specs.Blocks.{blocks_in, count_of, is_start, start_from, first_start, Earliest, IsFirstStart}

-- ---- the formula, over a number p of counts that divides 256 and whose multiples are the starts

module _ (c : Cip) (p : ℕ) (whole : p ∣ 256) (lowest : (n : ℕ) → n < 256 → bits 0 c.fraction_number n ≡ n % p) where
  -- a block's place in its source packet
  place : (i : ℕ) → bits 0 c.fraction_number (count_of c i) ≡ (c.dbc + i) % p
  place i = lowest (count_of c i) (mod-lt (c.dbc + i) (omega arith)) ∙ mod-mod_of_dvd p (c.dbc + i) whole

  earliest : c.dbc < 256 → Earliest c ((256 - c.dbc) % p)
  unfolding is_start
  earliest small =
      let some : 0 < p = pos_of_dvd_of_pos whole (omega arith) in
      let i = (256 - c.dbc) % p in
      let all : c.dbc + (256 - c.dbc) ≡ 256 = omega arith in
      let at : (c.dbc + i) % p ≡ 0 = add-mod-mod c.dbc (256 - c.dbc) p ∙ ap (λ (n : ℕ). n % p) all ∙ mod-eq-zero_of_dvd p whole in
      record {
        start = eq-eqb _ 0 (place i ∙ at);
        first = λ j h. ne_eqb _ 0 (λ e.
            let apart : p ∣ c.dbc + i - (c.dbc + j) = dvd-sub p (dvd_of_mod-eq-zero p at) (dvd_of_mod-eq-zero p (sym (place j) ∙ e)) in
            absurd (omega (arith, h, mod-lt (256 - c.dbc) some, le_of_dvd (omega (arith, h)) apart)));
      }

-- ---- its two cases: up to eight bits of a count, and more

bits_of : (fn n : ℕ) → bits 0 fn n ≡ n % 2 ^ fn
bits_of fn n = ap (λ (m : ℕ). m % 2 ^ fn) (div-one n)

pub narrow : (c : Cip) → c.fraction_number ≤ 8 → c.dbc < 256 → Earliest c ((256 - c.dbc) % 2 ^ c.fraction_number)
narrow c h =
    let fn = c.fraction_number in
    let eight : 8 - fn + fn ≡ 8 = omega (arith, h) in
    let whole : 2 ^ (8 - fn) * 2 ^ fn ≡ 256 = sym (pow-add 2 (8 - fn) fn) ∙ ap (λ (k : ℕ). 2 ^ k) eight in
    earliest c (2 ^ fn) (subst (λ (n : ℕ). 2 ^ fn ∣ n) whole (dvd-mul_left (2 ^ fn) (2 ^ (8 - fn)))) (λ n k. bits_of fn n)

pub wide : (c : Cip) → 8 ≤ c.fraction_number → c.dbc < 256 → Earliest c ((256 - c.dbc) % 256)
wide c h =
    let fn = c.fraction_number in
    earliest c 256 (dvd_refl 256) (λ n k. bits_of fn n ∙ mod-eq_of_lt (omega (arith, k, pow-le-pow_right {n = 2} (omega arith) h)) ∙ sym (mod-eq_of_lt k))

-- ---- the search

module _ (c : Cip) (r : ℕ) (next : Earliest c r) where
  found : (n i : ℕ) → i ≤ r → start_from c i n ≡ cond (ltb r (i + n)) (Some r) None
  unfolding start_from
  found zero i h = rw (le-ltb r (i + 0) (omega (arith, h)))
  found (suc n) i h =
      ⊎_elim
      (λ e. rw (e, next.start, lt-ltb r (r + suc n) (omega arith)))
      (λ k.
      let on : i + suc n ≡ suc i + n = omega arith in
      rw (next.first i k, on) (found n (suc i) k))
      (eq-or-lt_of_le h)

  -- r is the answer where there are more than r blocks, and else there is none
  module _ (payload : List ℕ) where
    pub in_frame : r < blocks_in c payload → (Some r ≡ first_start c payload) × IsFirstStart c payload (Some r)
    unfolding first_start
    in_frame h = (rw (found (blocks_in c payload) 0 (omega arith), lt-ltb r (0 + blocks_in c payload) (omega (arith, h))), (h, next))

    pub past_frame : blocks_in c payload ≤ r → (None ≡ first_start c payload) × IsFirstStart c payload None
    unfolding first_start
    past_frame h = (rw (found (blocks_in c payload) 0 (omega arith), le-ltb r (0 + blocks_in c payload) (omega (arith, h))), λ i k. next.first i (omega (arith, h, k)))

-- what is answered as a block is in the frame
pub first_in : (c : Cip) (payload : List ℕ) {i : ℕ} {s : Option ℕ} → s ≡ Some i → IsFirstStart c payload s → i < blocks_in c payload
first_in c payload e h = (subst (λ (t : Option ℕ). IsFirstStart c payload t) e h).0
