-- Where a text of up to eight digits begins among the eight, and that its two ends make it whole. Assumes nothing.
use Prim.Native.Nat.{ℕ, ◌+◌, ◌*◌, ◌/◌, ◌%◌, ◌≤◌, ◌<◌}
use mathlib.Core.Path.{◌≡◌, sym, ap, ◌∙◌}
use mathlib.Core.List.{List, [], ◌∷◌, ◌++◌, append-nil}
use native.Mathlib.Omega.{arith}
use lib.ListN.{length}
use lib.Seq.{sets}
use Rattle.text.specs.Text.{decimal}
use Rattle.text.specs.Private.{digit_bytes, low_bytes}
use Rattle.text.proofs.Decimals.{decimal_small, decimal_two, decimal_pair, four_length, four_digits, decimal_four}
use Rattle.text.proofs.Sets.{front_over}

-- ---- Numbers below ten thousand by their digits

one : (h : ℕ) → h < 10 → decimal h ≡ (48 + h % 10) ∷ []
one h l = let e : h ≡ h % 10 = omega arith in decimal_small h l ∙ ap (λ (k : ℕ). (48 + k) ∷ []) e

two : (h : ℕ) → 10 ≤ h → h < 100 → decimal h ≡ (48 + h / 10 % 10) ∷ (48 + h % 10) ∷ []
two h g l = let e : h / 10 ≡ h / 10 % 10 = omega arith in decimal_two h g l ∙ ap (λ (k : ℕ). (48 + k) ∷ (48 + h % 10) ∷ []) e

three : (h : ℕ) → 100 ≤ h → h < 1000 → decimal h ≡ (48 + h / 100 % 10) ∷ (48 + h / 10 % 10) ∷ (48 + h % 10) ∷ []
three h g l =
    let e : h / 100 ≡ h / 100 % 10 = omega arith in
    let f : h % 100 / 10 ≡ h / 10 % 10 = omega arith in
    let k : h % 100 % 10 ≡ h % 10 = omega arith in
    decimal_pair h g ∙ ap (λ (x : List ℕ). x ++ ((48 + h % 100 / 10) ∷ (48 + h % 100 % 10) ∷ [])) (decimal_small (h / 100) (omega arith)) ∙ (λ i. (48 + e i) ∷ (48 + f i) ∷ (48 + k i) ∷ [])

four : (h : ℕ) → 1000 ≤ h → h < 10000 → decimal h ≡ four_digits h
four h g l =
    let e : h / 100 / 10 ≡ h / 1000 = omega arith in
    let f : h % 100 / 10 ≡ h / 10 % 10 = omega arith in
    let k : h % 100 % 10 ≡ h % 10 = omega arith in
    decimal_pair h (omega arith) ∙ ap (λ (x : List ℕ). x ++ ((48 + h % 100 / 10) ∷ (48 + h % 100 % 10) ∷ [])) (decimal_two (h / 100) (omega arith) (omega arith))
    ∙ (λ i. (48 + e i) ∷ (48 + h / 100 % 10) ∷ (48 + f i) ∷ (48 + k i) ∷ [])

-- ---- The bytes of the eight

-- the bytes of four that are behind the first, the second and the third
abbrev past_1 : ℕ → List ℕ
past_1 r = r / 256 % 256 ∷ r / 65536 % 256 ∷ r / 16777216 % 256 ∷ []

abbrev past_2 : ℕ → List ℕ
past_2 r = r / 65536 % 256 ∷ r / 16777216 % 256 ∷ []

abbrev past_3 : ℕ → List ℕ
past_3 r = r / 16777216 % 256 ∷ []

lowest : (r a y : ℕ) → a < 256 → r ≡ a + 256 * y → (r % 256 ≡ a) × (r / 256 ≡ y)
lowest r a y h e = (omega arith, omega arith)

-- the bytes a, b, c and d, and m behind them
module _ (text a b c d m : ℕ) (ha : a < 256) (hb : b < 256) (hc : c < 256) (hd : d < 256) (e : text ≡ a + 256 * (b + 256 * (c + 256 * (d + 256 * m)))) where
  behind_1 : text / 256 ≡ b + 256 * (c + 256 * (d + 256 * m))
  behind_1 = (lowest text a _ ha e).1

  behind_2 : text / 65536 ≡ c + 256 * (d + 256 * m)
  behind_2 = let two : text / 65536 ≡ text / 256 / 256 = omega arith in two ∙ (lowest (text / 256) b _ hb behind_1).1

  behind_3 : text / 16777216 ≡ d + 256 * m
  behind_3 = let three : text / 16777216 ≡ text / 65536 / 256 = omega arith in three ∙ (lowest (text / 65536) c _ hc behind_2).1

  behind_4 : text / 4294967296 ≡ m
  behind_4 = let four : text / 4294967296 ≡ text / 16777216 / 256 = omega arith in four ∙ (lowest (text / 16777216) d _ hd behind_3).1

  four_bytes : low_bytes text ≡ a ∷ b ∷ c ∷ d ∷ []
  four_bytes i = (lowest text a _ ha e).0 i ∷ (lowest (text / 256) b _ hb behind_1).0 i ∷ (lowest (text / 65536) c _ hc behind_2).0 i ∷ (lowest (text / 16777216) d _ hd behind_3).0 i ∷ []

  -- those from the second, the third and the fourth on
  three_bytes : low_bytes (text / 256) ≡ b ∷ c ∷ d ∷ past_3 (text / 256)
  three_bytes =
      let p : text / 256 / 256 ≡ c + 256 * (d + 256 * m) = (lowest (text / 256) b _ hb behind_1).1 in
      let two : text / 256 / 65536 ≡ text / 256 / 256 / 256 = omega arith in
      let q : text / 256 / 65536 ≡ d + 256 * m = two ∙ (lowest (text / 256 / 256) c _ hc p).1 in
      λ i. (lowest (text / 256) b _ hb behind_1).0 i ∷ (lowest (text / 256 / 256) c _ hc p).0 i ∷ (lowest (text / 256 / 65536) d _ hd q).0 i ∷ past_3 (text / 256)

  two_bytes : low_bytes (text / 65536) ≡ c ∷ d ∷ past_2 (text / 65536)
  two_bytes =
      let p : text / 65536 / 256 ≡ d + 256 * m = (lowest (text / 65536) c _ hc behind_2).1 in
      λ i. (lowest (text / 65536) c _ hc behind_2).0 i ∷ (lowest (text / 65536 / 256) d _ hd p).0 i ∷ past_2 (text / 65536)

  one_byte : low_bytes (text / 16777216) ≡ d ∷ past_1 (text / 16777216)
  one_byte i = (lowest (text / 16777216) d _ hd behind_3).0 i ∷ past_1 (text / 16777216)

nest : (a b c d m : ℕ) → a + 256 * b + 65536 * c + 16777216 * d + 4294967296 * m ≡ a + 256 * (b + 256 * (c + 256 * (d + 256 * m)))
nest a b c d m = omega arith

nest_four : (a b c d : ℕ) → a + 256 * b + 65536 * c + 16777216 * d ≡ a + 256 * (b + 256 * (c + 256 * (d + 256 * 0)))
nest_four a b c d = omega arith

first_digit : (h : ℕ) → h < 10000 → 48 + h / 1000 < 256
first_digit h l = omega arith

digit : (h : ℕ) → 48 + h % 10 < 256
digit h = omega arith

-- of the eight digits of h and l, the last four, and those from one of the first four on
module _ (text h l : ℕ) (hh : h < 10000) (hl : l < 10000) (e : text ≡ digit_bytes h + 4294967296 * digit_bytes l) where
  abbrev nested : text ≡ (48 + h / 1000) + 256 * ((48 + h / 100 % 10) + 256 * ((48 + h / 10 % 10) + 256 * ((48 + h % 10) + 256 * digit_bytes l)))
  nested = e ∙ nest (48 + h / 1000) (48 + h / 100 % 10) (48 + h / 10 % 10) (48 + h % 10) (digit_bytes l)

  last_four : low_bytes (text / 4294967296) ≡ four_digits l
  last_four =
      ap low_bytes (behind_4 text _ _ _ _ _ (first_digit h hh) (digit (h / 100)) (digit (h / 10)) (digit h) nested)
      ∙ four_bytes (digit_bytes l) _ _ _ _ 0 (first_digit l hl) (digit (l / 100)) (digit (l / 10)) (digit l) (nest_four (48 + l / 1000) (48 + l / 100 % 10) (48 + l / 10 % 10) (48 + l % 10))

  from_1 : low_bytes text ≡ four_digits h
  from_1 = four_bytes text _ _ _ _ _ (first_digit h hh) (digit (h / 100)) (digit (h / 10)) (digit h) nested

  from_2 : low_bytes (text / 256) ≡ (48 + h / 100 % 10) ∷ (48 + h / 10 % 10) ∷ (48 + h % 10) ∷ past_3 (text / 256)
  from_2 = three_bytes text _ _ _ _ _ (first_digit h hh) (digit (h / 100)) (digit (h / 10)) (digit h) nested

  from_3 : low_bytes (text / 65536) ≡ (48 + h / 10 % 10) ∷ (48 + h % 10) ∷ past_2 (text / 65536)
  from_3 = two_bytes text _ _ _ _ _ (first_digit h hh) (digit (h / 100)) (digit (h / 10)) (digit h) nested

  from_4 : low_bytes (text / 16777216) ≡ (48 + h % 10) ∷ past_1 (text / 16777216)
  from_4 = one_byte text _ _ _ _ _ (first_digit h hh) (digit (h / 100)) (digit (h / 10)) (digit h) nested

-- ---- Both ends

-- a front of so many digits with more bytes behind it, and the last four digits
abbrev pub EndsMake : ℕ → ℕ → ℕ → ℕ → List ℕ → ℕ → Type 0
EndsMake n first size last d at = (sets (sets d at (low_bytes first)) (at + size) (low_bytes last) ≡ sets d at (decimal n)) × (at + size + 4 ≡ at + length (decimal n))

join : (n first size last : ℕ) (g : List ℕ) → 10000 ≤ n → low_bytes first ≡ decimal (n / 10000) ++ g → length g ≤ 4 → length (decimal (n / 10000)) ≡ size → low_bytes last ≡ four_digits (n % 10000)
    → (d : List ℕ) (at : ℕ) → EndsMake n first size last d at
join n first size last g big ef few es el d at = (
  (λ i. sets (sets d at (ef i)) (at + sym es i) (el i)) ∙ front_over (decimal (n / 10000)) g (four_digits (n % 10000)) (decimal n) d at few (decimal_four n big),
  omega (arith, es, four_length n big),
)

front_below : (n k : ℕ) → n < k * 10000 → n / 10000 < k
front_below n k h = omega arith

front_from : (n k : ℕ) → k * 10000 ≤ n → k ≤ n / 10000
front_from n k h = omega arith

module _ (n text : ℕ) (small : n < 100000000) (e : text ≡ digit_bytes (n / 10000) + 4294967296 * digit_bytes (n % 10000)) (d : List ℕ) (at : ℕ) where
  abbrev h : ℕ
  h = n / 10000

  hh : h < 10000
  hh = front_below n 10000 small

  hl : n % 10000 < 10000
  hl = lower n
    where
      lower : (n : ℕ) → n % 10000 < 10000
      lower n = omega arith

  back : low_bytes (text / 4294967296) ≡ four_digits (n % 10000)
  back = last_four text h (n % 10000) hh hl e

  pub five_digits : 10000 ≤ n → n < 100000 → EndsMake n (text / 16777216) 1 (text / 4294967296) d at
  five_digits big less =
      let w = one h (front_below n 10 less) in
      join n _ 1 _ (past_1 (text / 16777216)) big (from_4 text h (n % 10000) hh hl e ∙ ap (λ (x : List ℕ). x ++ past_1 (text / 16777216)) (sym w)) (omega arith) (ap length w) back d at

  pub six_digits : 100000 ≤ n → n < 1000000 → EndsMake n (text / 65536) 2 (text / 4294967296) d at
  six_digits big less =
      let w = two h (front_from n 10 big) (front_below n 100 less) in
      join n _ 2 _ (past_2 (text / 65536)) (omega (arith, big)) (from_3 text h (n % 10000) hh hl e ∙ ap (λ (x : List ℕ). x ++ past_2 (text / 65536)) (sym w)) (omega arith) (ap length w) back d at

  pub seven_digits : 1000000 ≤ n → n < 10000000 → EndsMake n (text / 256) 3 (text / 4294967296) d at
  seven_digits big less =
      let w = three h (front_from n 100 big) (front_below n 1000 less) in
      join n _ 3 _ (past_3 (text / 256)) (omega (arith, big)) (from_2 text h (n % 10000) hh hl e ∙ ap (λ (x : List ℕ). x ++ past_3 (text / 256)) (sym w)) (omega arith) (ap length w) back d at

  pub eight_digits : 10000000 ≤ n → EndsMake n text 4 (text / 4294967296) d at
  eight_digits big =
      let w = four h (front_from n 1000 big) hh in
      join n _ 4 _ [] (omega (arith, big)) (from_1 text h (n % 10000) hh hl e ∙ sym w ∙ sym (append-nil (decimal h))) (omega arith) (ap length w) back d at
