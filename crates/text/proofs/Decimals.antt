-- A number in decimal: its last digit after the others, and how many digits it has. Assumes nothing.
use Prim.Native.Nat.{ℕ, zero, suc, ◌+◌, ◌*◌, ◌/◌, ◌%◌, ◌^◌, ◌≤◌, ◌<◌}
use mathlib.Core.Path.{◌≡◌, refl, ap}
use mathlib.Core.Bool.{Bool, true, false}
use mathlib.Core.List.{List, [], ◌∷◌, ◌++◌, append_assoc}
use native.Mathlib.Nat.{pow-suc}
use native.Mathlib.Omega.{arith}
use borrow.Author.Tests.{lt-ltb, le-ltb, ltb-true, ltb-false}
use lib.Dec.{ltb}
use lib.ListN.{length, length-append}
use Rattle.text.specs.Text.{digits, decimal}

-- where there may be more digits than n has, it does not matter how many there may be
enough : (j k n : ℕ) (small : Bool) → ltb n 10 ≡ small → n < j → n < k → digits j n ≡ digits k n
unfolding digits
enough zero k n small e hj hk = absurd (omega arith)
enough (suc j) zero n small e hj hk = absurd (omega arith)
enough (suc j) (suc k) n true e hj hk = rw e
enough (suc j) (suc k) n false e hj hk =
    let h : 10 ≤ n = ltb-false n 10 e in
    rw e (ap (λ (l : List ℕ). l ++ ((48 + n % 10) ∷ [])) (enough j k (n / 10) (ltb (n / 10) 10) refl (omega arith) (omega arith)))

pub decimal_small : (n : ℕ) → n < 10 → decimal n ≡ (48 + n) ∷ []
unfolding decimal digits
decimal_small n h = rw (lt-ltb n 10 h)

decimal_large : (n : ℕ) → 10 ≤ n → decimal n ≡ decimal (n / 10) ++ ((48 + n % 10) ∷ [])
unfolding decimal digits
decimal_large n h =
    rw (le-ltb n 10 h) (ap (λ (l : List ℕ). l ++ ((48 + n % 10) ∷ [])) (enough n (suc (n / 10)) (n / 10) (ltb (n / 10) 10) refl (omega arith) (omega arith)))

decimal_large_length : (n : ℕ) → 10 ≤ n → length (decimal n) ≡ length (decimal (n / 10)) + 1
decimal_large_length n h = rw (decimal_large n h, length-append (decimal (n / 10)) ((48 + n % 10) ∷ []))

one_more : (k n : ℕ) (small : Bool) → ltb n 10 ≡ small → length (decimal (n / 10)) ≤ k → length (decimal n) ≤ suc k
one_more k n true e h = rw (decimal_small n (ltb-true n 10 e)) (omega arith)
one_more k n false e h = omega (arith, decimal_large_length n (ltb-false n 10 e))

-- a number below a power of ten has no more digits than its exponent
pub below_power : (k n : ℕ) → n < 10 ^ suc k → length (decimal n) ≤ suc k
below_power zero n h = rw (decimal_small n h) (omega arith)
below_power (suc k) n h =
    let g : n < 10 ^ suc k * 10 = rw pow-suc at h in
    one_more (suc k) n (ltb n 10) refl (below_power k (n / 10) (omega arith))

-- one of 64 bits has at most 20
pub decimal_length : (n : ℕ) → n < 2 ^ 64 → length (decimal n) ≤ 20
decimal_length n h = below_power 19 n (omega arith)

-- ---- Two digits at a time

pub decimal_two : (n : ℕ) → 10 ≤ n → n < 100 → decimal n ≡ (48 + n / 10) ∷ (48 + n % 10) ∷ []
decimal_two n l h = rw (decimal_large n l, decimal_small (n / 10) (omega arith))

pub decimal_pair : (n : ℕ) → 100 ≤ n → decimal n ≡ decimal (n / 100) ++ ((48 + n % 100 / 10) ∷ (48 + n % 100 % 10) ∷ [])
decimal_pair n h =
    let e : n / 10 / 10 ≡ n / 100 = omega arith in
    let f : n / 10 % 10 ≡ n % 100 / 10 = omega arith in
    let g : n % 10 ≡ n % 100 % 10 = omega arith in
    rw (decimal_large n (omega arith), decimal_large (n / 10) (omega arith), e, f, g) (append_assoc (decimal (n / 100)) ((48 + n % 100 / 10) ∷ []) ((48 + n % 100 % 10) ∷ []))

pub small_length : (n : ℕ) → n < 10 → length (decimal n) ≡ 1
small_length n h = ap length (decimal_small n h)

pub two_length : (n : ℕ) → 10 ≤ n → n < 100 → length (decimal n) ≡ 2
two_length n l h = ap length (decimal_two n l h)

pub pair_length : (n : ℕ) → 100 ≤ n → length (decimal n) ≡ length (decimal (n / 100)) + 2
pair_length n h = rw (decimal_pair n h) (length-append (decimal (n / 100)) _)

pub four_length : (n : ℕ) → 10000 ≤ n → length (decimal n) ≡ length (decimal (n / 10000)) + 4
four_length n h =
    let e : n / 100 / 100 ≡ n / 10000 = omega arith in
    rw (← e) (omega (arith, pair_length n (omega arith), pair_length (n / 100) (omega arith)))

-- the four digits of a number below ten thousand, also where the first are zeros
abbrev pub four_digits : ℕ → List ℕ
four_digits n = (48 + n / 1000) ∷ (48 + n / 100 % 10) ∷ (48 + n / 10 % 10) ∷ (48 + n % 10) ∷ []

pub decimal_four : (n : ℕ) → 10000 ≤ n → decimal n ≡ decimal (n / 10000) ++ four_digits (n % 10000)
decimal_four n h =
    let e : n / 100 / 100 ≡ n / 10000 = omega arith in
    let a : n / 100 % 100 / 10 ≡ n % 10000 / 1000 = omega arith in
    let b : n / 100 % 100 % 10 ≡ n % 10000 / 100 % 10 = omega arith in
    let c : n % 100 / 10 ≡ n % 10000 / 10 % 10 = omega arith in
    let d : n % 100 % 10 ≡ n % 10000 % 10 = omega arith in
    rw (decimal_pair n (omega arith), decimal_pair (n / 100) (omega arith), e, a, b, c, d) (append_assoc (decimal (n / 10000)) ((48 + n % 10000 / 1000) ∷ (48 + n % 10000 / 100 % 10) ∷ []) ((48 + n % 10000 / 10 % 10) ∷ (48 + n % 10000 % 10) ∷ []))
