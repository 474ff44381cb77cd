-- Fields taken out by a shift and a mask, and put together by a shift and an or, at every shift and width. Assumes nothing.
use Prim.Native.Nat.{ℕ, suc, ◌+◌, ◌-◌, ◌*◌, ◌/◌, ◌%◌, ◌^◌, ◌<◌}
use mathlib.Core.Path.{◌≡◌, refl, sym, ap, ◌∙◌}
use mathlib.Core.List.{List, [], ◌∷◌}
use native.Mathlib.Nat.{mod-eq_of_lt, mod-one, div-one}
use native.Mathlib.Omega.{arith}
use lib.Arith.{digits_lt}
use lib.Bits.{bit_or, bit_and, or_shifted, and_mask}
use lib.ListN.{length}
use lib.Pow.{pow-add, mod-pow-add, mod-mod-pow, field, high, low}
use Rattle.wire.specs.Bits.{bits, width, unpack, pack, Fit}

-- `(hi << k) | lo` at w bits is hi × 2 ^ k + lo, where lo has k bits and nothing is shifted out
pub joined : (hi k w : ℕ) {lo : ℕ} → lo < 2 ^ k → hi * 2 ^ k < 2 ^ w → bit_or ((hi * 2 ^ k) % 2 ^ w) lo ≡ hi * 2 ^ k + lo
joined hi k w {lo} h fits = rw (mod-eq_of_lt fits) (or_shifted hi k lo h)

-- `(n >> s) & mask` with a mask of w ones is the field of w bits above the lowest s
pub masked : (s w n : ℕ) → bit_and (n / 2 ^ s) (2 ^ w - 1) ≡ bits s w n
masked s w n = and_mask (n / 2 ^ s) w

-- the same at the masks of the frame's fields, by which `simp masks` rewrites
pub mask1 : (n : ℕ) → bit_and n 0x1 ≡ n % 2
mask1 n = and_mask n 1

pub mask2 : (n : ℕ) → bit_and n 0x3 ≡ n % 4
mask2 n = and_mask n 2

pub mask3 : (n : ℕ) → bit_and n 0x7 ≡ n % 8
mask3 n = and_mask n 3

pub mask4 : (n : ℕ) → bit_and n 0xf ≡ n % 16
mask4 n = and_mask n 4

pub mask6 : (n : ℕ) → bit_and n 0x3f ≡ n % 64
mask6 n = and_mask n 6

pub mask7 : (n : ℕ) → bit_and n 0x7f ≡ n % 128
mask7 n = and_mask n 7

pub mask12 : (n : ℕ) → bit_and n 0xfff ≡ n % 4096
mask12 n = and_mask n 12

-- with `div-one` for the lowest field of a row, which is not shifted
pub ruleset masks = (mask1, mask2, mask3, mask4, mask6, mask7, mask12, div-one)

-- ---- rows

pub length_unpack : (ws : List ℕ) (n : ℕ) → length (unpack ws n) ≡ length ws
length_unpack [] n = refl
length_unpack (w ∷ ws) n = ap suc (length_unpack ws n)

-- the fields of a row go by the number's remainder
unpack_cong : (ws : List ℕ) (m n : ℕ) → m % 2 ^ width ws ≡ n % 2 ^ width ws → unpack ws m ≡ unpack ws n
unpack_cong [] m n e = refl
unpack_cong (w ∷ ws) m n e =
    let k = width ws in
    let hd : bits k w m ≡ bits k w n = sym (field m w k) ∙ ap (λ (z : ℕ). z / 2 ^ k) e ∙ field n w k in
    let tl : m % 2 ^ k ≡ n % 2 ^ k = sym (mod-mod-pow m w k) ∙ ap (λ (z : ℕ). z % 2 ^ k) e ∙ mod-mod-pow n w k in
    λ i. hd i ∷ unpack_cong ws m n tl i

pub pack_lt : (ws vs : List ℕ) → Fit ws vs → pack ws vs < 2 ^ width ws
pack_lt [] [] h = omega arith
pack_lt [] (v ∷ vs) h = absurd h
pack_lt (w ∷ ws) [] h = absurd h
pack_lt (w ∷ ws) (v ∷ vs) h = rw (pow-add 2 w (width ws)) (digits_lt h.0 (pack_lt ws vs h.1))

pub unpack_pack : (ws vs : List ℕ) → Fit ws vs → unpack ws (pack ws vs) ≡ vs
unpack_pack [] [] h = refl
unpack_pack [] (v ∷ vs) h = absurd h
unpack_pack (w ∷ ws) [] h = absurd h
unpack_pack (w ∷ ws) (v ∷ vs) h =
    let k = width ws in
    let l = pack_lt ws vs h.1 in
    let hd : bits k w (v * 2 ^ k + pack ws vs) ≡ v = ap (λ (z : ℕ). z % 2 ^ w) (high v k l) ∙ mod-eq_of_lt h.0 in
    let tl : unpack ws (v * 2 ^ k + pack ws vs) ≡ vs =
    unpack_cong ws _ (pack ws vs) (low v k l ∙ sym (mod-eq_of_lt l)) ∙ unpack_pack ws vs h.1 in
    λ i. hd i ∷ tl i

pack_mod : (ws : List ℕ) (n : ℕ) → pack ws (unpack ws n) ≡ n % 2 ^ width ws
pack_mod [] n = sym (mod-one n)
pack_mod (w ∷ ws) n = rw (pack_mod ws n) (sym (mod-pow-add n w (width ws)))

pub pack_unpack : (ws : List ℕ) (n : ℕ) → n < 2 ^ width ws → pack ws (unpack ws n) ≡ n
pack_unpack ws n h = pack_mod ws n ∙ mod-eq_of_lt h
