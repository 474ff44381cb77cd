-- Offsets in range by their distances from the lowest and from the highest one: their order and their sum. Assumes nothing.
use Prim.Native.Nat.{ℕ, zero, suc, ◌+◌, ◌-◌, ◌≤◌, ◌<◌}
use mathlib.Core.Path.{◌≡◌, refl, sym, ap, ◌∙◌}
use mathlib.Core.Bool.{Bool, true, false, cond}
use native.Mathlib.Omega.{arith}
use lib.Dec.{ltb, leb→le}
use lib.IntN.{ℤ, pos, negsuc, neg_ℤ, ◌+ℤ◌, ◌-ℤ◌, +ℤ_assoc, +ℤ_comm, neg_ℤ-+ℤ}
use lib.Signed.{lt_z, ◌≤ℤ◌}
use borrow.Author.Tests.{lt-ltb, le-ltb}
use Rattle.wrapping.proofs.Signed.{by_lt, sub_lt, sub_le, sub_is}
use Rattle.tally.specs.Tally.{above_lowest, greater as further}
use Rattle.report.specs.Report.{lesser, greater}

abbrev half : ℕ
half = 2_147_483_648

abbrev highest : ℕ
highest = 2_147_483_647

-- by the distance above the lowest, and below the highest
abbrev pub above : ℕ → ℤ
above n = pos n -ℤ pos half

abbrev pub below : ℕ → ℤ
below n = pos highest -ℤ pos n

abbrev pub below_highest : ℤ → ℕ
below_highest d = 4_294_967_295 - above_lowest d

-- ---- an offset in range

pub record InRange (d : ℤ) : Type 0 where
  pub low : neg_ℤ (pos half) ≤ℤ d
  pub high : d ≤ℤ pos highest

pub near : (d : ℤ) → above_lowest d ≤ 4_294_967_295
near (pos n) = omega arith
near (negsuc n) = omega arith

pub is_above : (d : ℤ) → InRange d → above (above_lowest d) ≡ d
is_above (pos n) r =
    let h = leb→le n highest r.high.le in
    sub_le (above_lowest (pos n)) half (omega arith) ∙ ap pos (omega arith)
is_above (negsuc n) r =
    let h = leb→le n highest r.low.le in
    sub_lt (highest - n) half (omega arith) ∙ ap negsuc (omega arith)

pub is_below : (d : ℤ) → InRange d → below (below_highest d) ≡ d
is_below (pos n) r =
    let h = leb→le n highest r.high.le in
    sub_is highest (below_highest (pos n)) ∙ sub_le highest (below_highest (pos n)) (omega arith) ∙ ap pos (omega arith)
is_below (negsuc n) r =
    let h = leb→le n highest r.low.le in
    sub_is highest (below_highest (negsuc n)) ∙ sub_lt highest (below_highest (negsuc n)) (omega arith) ∙ ap negsuc (omega arith)

-- ---- order

-- of two differences
order : (a b c d m n : ℕ) → (a + d < c + b → m < n) → (c + b ≤ a + d → n ≤ m) → lt_z (pos a -ℤ pos b) (pos c -ℤ pos d) ≡ ltb m n
order a b c d m n less others =
    rw (sub_is a b, sub_is c d)
    (by_lt a b
    (λ h. by_lt c d
    (λ k. rw (sub_lt a b h, sub_lt c d k) (same (d - suc c) (b - suc a) (λ z. less (omega arith)) (λ z. others (omega arith))))
    (λ k. rw (sub_lt a b h, sub_le c d k) (sym (lt-ltb m n (less (omega arith))))))
    (λ h. by_lt c d
    (λ k. rw (sub_le a b h, sub_lt c d k) (sym (le-ltb m n (others (omega arith)))))
    (λ k. rw (sub_le a b h, sub_le c d k) (same (a - b) (c - d) (λ z. less (omega arith)) (λ z. others (omega arith))))))
  where
    same : (p q : ℕ) → (p < q → m < n) → (q ≤ p → n ≤ m) → ltb p q ≡ ltb m n
    same p q f g = by_lt p q (λ h. lt-ltb p q h ∙ sym (lt-ltb m n (f h))) (λ h. le-ltb p q h ∙ sym (le-ltb m n (g h)))

pick : (f : ℕ → ℤ) (t : Bool) (m n : ℕ) → f (cond t n m) ≡ cond t (f n) (f m)
pick f true m n = refl
pick f false m n = refl

pub greater_above : (m n : ℕ) → above (further m n) ≡ greater (above m) (above n)
greater_above m n =
    pick above (ltb m n) m n ∙ ap (λ (t : Bool). cond t (above n) (above m)) (sym (order m half n half m n (λ h. omega arith) (λ h. omega arith)))

pub lesser_below : (m n : ℕ) → below (further m n) ≡ lesser (below m) (below n)
lesser_below m n =
    pick below (ltb m n) m n ∙ ap (λ (t : Bool). cond t (below n) (below m)) (sym (order highest n highest m m n (λ h. omega arith) (λ h. omega arith)))

-- from nothing
pub further_0 : (n : ℕ) → further 0 n ≡ n
further_0 zero = refl
further_0 (suc n) = rw (lt-ltb 0 (suc n) (omega arith))

-- ---- sums

pub sum_of : (a b c d : ℕ) → pos (a + c) -ℤ pos (b + d) ≡ (pos a -ℤ pos b) +ℤ (pos c -ℤ pos d)
sum_of a b c d =
    +ℤ_assoc (pos a) (pos c) (neg_ℤ (pos b +ℤ pos d))
    ∙ ap (λ (z : ℤ). pos a +ℤ (pos c +ℤ z)) (neg_ℤ-+ℤ (pos b) (pos d))
    ∙ ap (λ (z : ℤ). pos a +ℤ z) (sym (+ℤ_assoc (pos c) (neg_ℤ (pos b)) (neg_ℤ (pos d))) ∙ ap (λ (z : ℤ). z +ℤ neg_ℤ (pos d)) (+ℤ_comm (pos c) (neg_ℤ (pos b))) ∙ +ℤ_assoc (neg_ℤ (pos b)) (pos c) (neg_ℤ (pos d)))
    ∙ sym (+ℤ_assoc (pos a) (neg_ℤ (pos b)) (pos c -ℤ pos d))
