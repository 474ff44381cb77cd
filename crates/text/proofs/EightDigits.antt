-- The eight digits of a number below a hundred million as one number of eight bytes. Assumes nothing.
use Prim.Native.Nat.{ℕ, ◌+◌, ◌-◌, ◌*◌, ◌/◌, ◌%◌, ◌≤◌, ◌<◌}
use mathlib.Core.Path.{◌≡◌, ap, ◌∙◌}
use native.Mathlib.Omega.{arith}
use Rattle.text.specs.Private.{digit_bytes}

-- ---- Hundreds of two numbers side by side

by_hundred : (n : ℕ) → n < 10000 → n * 5243 / 524288 ≡ n / 100
by_hundred n h = omega arith

hundreds_beside : (a b : ℕ) → (a + b * 4294967296) * 5243 / 524288 ≡ a * 5243 / 524288 + b * 42950656
hundreds_beside a b = omega arith

-- the lower one's, and those of the higher
lower_hundreds : (a b : ℕ) → a < 10000 → (a + b * 4294967296) * 5243 / 524288 % 128 ≡ a / 100
lower_hundreds a b h = rw (hundreds_beside a b, by_hundred a h) (omega arith)

higher_hundreds : (a b : ℕ) → a < 10000 → b < 10000 → (a + b * 4294967296) * 5243 / 524288 / 4294967296 % 128 ≡ b / 100
higher_hundreds a b h k =
    let e : (a / 100 + b * 42950656) / 4294967296 ≡ b * 5243 / 524288 = omega arith in
    rw (hundreds_beside a b, by_hundred a h, e, by_hundred b k) (omega arith)

-- ---- Tens of pairs side by side

by_ten : (p : ℕ) → p < 100 → p * 103 / 1024 ≡ p / 10
by_ten p h = omega arith

tens_beside : (p y : ℕ) → (p + y * 65536) * 103 / 1024 ≡ p * 103 / 1024 + y * 6592
tens_beside p y = omega arith

-- the lowest pair's, and what is behind them
lowest_tens : (p y : ℕ) → p < 100 → (p + y * 65536) * 103 / 1024 % 16 ≡ p / 10
lowest_tens p y h = rw (tens_beside p y, by_ten p h) (omega arith)

tens_behind : (p y : ℕ) → p < 100 → (p + y * 65536) * 103 / 1024 / 65536 ≡ y * 103 / 1024
tens_behind p y h = rw (tens_beside p y, by_ten p h) (omega arith)

-- ---- Pairs, and their digits

abbrev pairs_of : ℕ → ℕ
pairs_of n = n / 100 + n % 100 * 65536

abbrev tens_of : ℕ → ℕ
tens_of n = n / 100 / 10 + n % 100 / 10 * 65536

two_pairs : (a b : ℕ) → (a + b * 4294967296) * 65536 - (a / 100 + b / 100 * 4294967296) * 6553599 ≡ pairs_of a + pairs_of b * 4294967296
two_pairs a b = omega arith

-- of each pair, the tens are its first byte, and what they leave of it is the second
pair_bytes : (high low : ℕ) → 808464432 + (high + low * 65536) * 256 - (high / 10 + low / 10 * 65536) * 2559 ≡ 48 + high / 10 + 256 * (48 + high % 10) + 65536 * (48 + low / 10) + 16777216 * (48 + low % 10)
pair_bytes high low = omega arith

four_bytes : (n : ℕ) → n < 10000 → 808464432 + pairs_of n * 256 - tens_of n * 2559 ≡ digit_bytes n
four_bytes n h =
    let a : n / 100 / 10 ≡ n / 1000 = omega arith in
    let b : n % 100 / 10 ≡ n / 10 % 10 = omega arith in
    let c : n % 100 % 10 ≡ n % 10 = omega arith in
    pair_bytes (n / 100) (n % 100) ∙ rw (a, b, c)

fewer_tens : (high low : ℕ) → (high / 10 + low / 10 * 65536) * 2559 ≤ (high + low * 65536) * 256
fewer_tens high low = omega arith

both_fours : (a b s t : ℕ) → s * 2559 ≤ a * 256 → t * 2559 ≤ b * 256
    → 3472328296227680304 + (a + b * 4294967296) * 256 - (s + t * 4294967296) * 2559 ≡ (808464432 + a * 256 - s * 2559) + 4294967296 * (808464432 + b * 256 - t * 2559)
both_fours a b s t h k = omega arith

-- ---- All of it

module _ (a b : ℕ) (ha : a < 10000) (hb : b < 10000) where
  abbrev all : ℕ
  all = pairs_of a + pairs_of b * 4294967296

  abbrev behind : ℕ
  behind = a % 100 + pairs_of b * 65536

  nested : all ≡ a / 100 + behind * 65536
  nested = omega arith

  abbrev by_ten_all : ℕ
  by_ten_all = all * 103 / 1024

  first : by_ten_all % 16 ≡ a / 100 / 10
  first = rw nested (lowest_tens (a / 100) behind (omega arith))

  once : by_ten_all / 65536 ≡ behind * 103 / 1024
  once = rw nested (tens_behind (a / 100) behind (omega arith))

  second : by_ten_all / 65536 % 16 ≡ a % 100 / 10
  second = rw once (lowest_tens (a % 100) (pairs_of b) (omega arith))

  twice : by_ten_all / 4294967296 ≡ pairs_of b * 103 / 1024
  twice =
      let e : by_ten_all / 4294967296 ≡ by_ten_all / 65536 / 65536 = omega arith in
      e ∙ ap (λ (k : ℕ). k / 65536) once ∙ tens_behind (a % 100) (pairs_of b) (omega arith)

  third : by_ten_all / 4294967296 % 16 ≡ b / 100 / 10
  third = rw twice (lowest_tens (b / 100) (b % 100) (omega arith))

  fourth : by_ten_all / 281474976710656 % 16 ≡ b % 100 / 10
  fourth =
      let e : by_ten_all / 281474976710656 ≡ by_ten_all / 4294967296 / 65536 = omega arith in
      rw (e, twice, tens_behind (b / 100) (b % 100) (omega arith), by_ten (b % 100) (omega arith)) (omega arith)

  all_tens : by_ten_all % 16 + by_ten_all / 65536 % 16 * 65536 + (by_ten_all / 4294967296 % 16 + by_ten_all / 281474976710656 % 16 * 65536) * 4294967296 ≡ tens_of a + tens_of b * 4294967296
  all_tens = rw (first, second, third, fourth)

  all_bytes : 3472328296227680304 + all * 256 - (tens_of a + tens_of b * 4294967296) * 2559 ≡ digit_bytes a + 4294967296 * digit_bytes b
  all_bytes =
      both_fours (pairs_of a) (pairs_of b) (tens_of a) (tens_of b) (fewer_tens (a / 100) (a % 100)) (fewer_tens (b / 100) (b % 100))
      ∙ (λ i. four_bytes a ha i + 4294967296 * four_bytes b hb i)

  all_below : all < 28147497671065600
  all_below = omega arith

-- ---- Step by step, as the code has it

module _ (n both by-hundreds hundreds : ℕ) (small : n < 100000000) (eb : both ≡ n / 10000 + n % 10000 * 4294967296) (eq : by-hundreds ≡ both * 5243 / 524288)
    (eh : hundreds ≡ by-hundreds % 128 + by-hundreds / 4294967296 % 128 * 4294967296) where
  high_below : n / 10000 < 10000
  high_below = omega arith

  low_below : n % 10000 < 10000
  low_below = omega arith

  hundreds_are : hundreds ≡ n / 10000 / 100 + n % 10000 / 100 * 4294967296
  hundreds_are = eh ∙ rw (eq, eb) (λ i. lower_hundreds (n / 10000) (n % 10000) high_below i + higher_hundreds (n / 10000) (n % 10000) high_below low_below i * 4294967296)

  pub fewer_hundreds : hundreds * 6553599 ≤ both * 65536
  fewer_hundreds = rw (hundreds_are, eb) (less (n / 10000) (n % 10000))
    where
      less : (a b : ℕ) → (a / 100 + b / 100 * 4294967296) * 6553599 ≤ (a + b * 4294967296) * 65536
      less a b = omega arith

  pairs_are : both * 65536 - hundreds * 6553599 ≡ all (n / 10000) (n % 10000) high_below low_below
  pairs_are = rw (hundreds_are, eb) (two_pairs (n / 10000) (n % 10000))

  pub pairs_below : both * 65536 - hundreds * 6553599 < 28147497671065600
  pairs_below = rw pairs_are (all_below (n / 10000) (n % 10000) high_below low_below)

  pub eight_bytes : (pairs by-tens low high : ℕ) → pairs ≡ both * 65536 - hundreds * 6553599 → by-tens ≡ pairs * 103 / 1024
      → low ≡ by-tens % 16 + by-tens / 65536 % 16 * 65536 → high ≡ by-tens / 4294967296 % 16 + by-tens / 281474976710656 % 16 * 65536
      → 3472328296227680304 + pairs * 256 - (low + high * 4294967296) * 2559 ≡ digit_bytes (n / 10000) + 4294967296 * digit_bytes (n % 10000)
  eight_bytes pairs by-tens low high ep et el eg =
      let e = ep ∙ pairs_are in
      let t : low + high * 4294967296 ≡ tens_of (n / 10000) + tens_of (n % 10000) * 4294967296 = rw (el, eg, et, e) (all_tens (n / 10000) (n % 10000) high_below low_below) in
      rw (t, e) (all_bytes (n / 10000) (n % 10000) high_below low_below)
