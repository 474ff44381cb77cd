-- The k bytes of a list from a place on, and the number in them. Assumes nothing.
use Prim.Native.Nat.{ℕ, zero, suc, ◌+◌, ◌*◌, ◌^◌, ◌≤◌, ◌<◌}
use mathlib.Core.Path.{◌≡◌, refl, subst}
use mathlib.Core.Bool.{Bool, true, false, cond}
use mathlib.Core.List.{List, [], ◌∷◌, ◌++◌}
use native.Mathlib.Omega.{arith}
use lib.Dec.{leb}
use lib.ListN.{length, take, drop, replicate, length-drop, take-append-drop}
use lib.Seq.{length-take-le, take_all, get_or-drop, drop-drop}
use Rattle.wire.specs.Numbers.{Bytes, bytes, part, number_at, spelled_or_0}
use Rattle.wire.proofs.Numbers.{bytes_number, number_lt, there}

bytes_taken : (k : ℕ) (bs : List ℕ) → Bytes bs → Bytes (take k bs)
bytes_taken zero bs byte i = omega arith
bytes_taken (suc k) [] byte i = omega arith
bytes_taken (suc k) (b ∷ bs) byte zero = byte 0
bytes_taken (suc k) (b ∷ bs) byte (suc i) = bytes_taken k bs (λ j. byte (suc j)) i

-- a part, and what stands behind it
pub cut : (bs : List ℕ) (at k : ℕ) → part at k bs ++ drop (at + k) bs ≡ drop at bs
cut bs at k = rw (← drop-drop k at bs) (take-append-drop k (drop at bs))

pub length_part : (bs : List ℕ) (at k : ℕ) → at + k ≤ length bs → length (part at k bs) ≡ k
length_part bs at k h = length-take-le k (drop at bs) (rw (length-drop at bs) (omega arith))

module _ (bs : List ℕ) (byte : Bytes bs) (at k : ℕ) (h : at + k ≤ length bs) where
  byte_part : Bytes (part at k bs)
  byte_part = bytes_taken k (drop at bs) (λ i. rw (get_or-drop at bs i 0) (byte (at + i)))

  pub number_part_lt : number_at at k bs < 2 ^ (8 * k)
  number_part_lt = subst (λ (n : ℕ). number_at at k bs < 2 ^ (8 * n)) (length_part bs at k h) (number_lt (part at k bs) byte_part)

  pub bytes_part : bytes k (number_at at k bs) ≡ part at k bs
  bytes_part = subst (λ (n : ℕ). bytes n (number_at at k bs) ≡ part at k bs) (length_part bs at k h) (bytes_number (part at k bs) byte_part)

-- What `array` takes, the k bytes at `at` or zeros, is read from its first place on as s is at `at`, whichever byte comes first.
pub taken_spells : (spelled : List ℕ → ℕ) (at k : ℕ) (s : List ℕ) {taken : List ℕ} → spelled (replicate k 0) ≡ 0 → length taken ≡ k
    → taken ≡ cond (leb (at + k) (length s)) (part at k s) (replicate k 0) → spelled_or_0 spelled 0 k taken ≡ spelled_or_0 spelled at k s
taken_spells spelled at k s {taken} zeros l e = rw (there spelled 0 k taken (omega arith), take_all k taken (omega arith), e) (by (leb (at + k) (length s)))
  where
    by : (b : Bool) → spelled (cond b (part at k s) (replicate k 0)) ≡ cond b (spelled (part at k s)) 0
    by true = refl
    by false = zeros
