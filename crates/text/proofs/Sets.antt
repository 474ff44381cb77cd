-- Text stored in a buffer: one text after another, in any order. Assumes nothing.
use Prim.Native.Nat.{ℕ, suc, ◌+◌, ◌-◌, ◌≤◌, ◌<◌}
use mathlib.Core.Path.{◌≡◌, refl, sym, ap, ◌∙◌}
use mathlib.Core.List.{List, [], ◌∷◌, ◌++◌, append_assoc}
use native.Mathlib.Nat.{add-zero, add-suc, suc-add}
use native.Mathlib.Numerals.{add-one}
use native.Mathlib.Omega.{arith}
use lib.ListN.{length, take, drop, get_or, set}
use borrow.Rule.Slice.PartMut.{put_mid}
use Rattle.std.proofs.lemmas.Slice.{put_mid-paste}
use Rattle.std.proofs.lemmas.List.Edits.{paste_all, sets-eq}
use lib.Seq.{sets, take-suc, set-set, set_comm, length-take-le}

pub sets_append : (s t d : List ℕ) (i : ℕ) → sets d i (s ++ t) ≡ sets (sets d i s) (i + length s) t
sets_append [] t d i = ap (λ (k : ℕ). sets d k t) (sym (add-zero i))
sets_append (a ∷ s) t d i =
    sets_append s t (set d i a) (suc i) ∙ ap (λ (k : ℕ). sets (sets (set d i a) (suc i) s) k t) (suc-add i (length s) ∙ sym (add-suc i (length s)))

-- a text of which the front is put first
pub front_first : (s t all d : List ℕ) (i : ℕ) → all ≡ s ++ t → sets (sets d i s) (i + length s) t ≡ sets d i all
front_first s t all d i e = rw e (sym (sets_append s t d i))

-- a byte and a text at later places may change places
past : (t d : List ℕ) (i j a : ℕ) → i < j → set (sets d j t) i a ≡ sets (set d i a) j t
past [] d i j a h = refl
past (b ∷ t) d i j a h = past t (set d j b) i (suc j) a (omega arith) ∙ ap (λ (x : List ℕ). sets x (suc j) t) (set_comm d j i b a (λ e. absurd (omega arith)))

-- what is put over a text that is no longer is all that is left of both
put_over : (g t d : List ℕ) (i : ℕ) → length g ≤ length t → sets (sets d i g) i t ≡ sets d i t
put_over [] t d i h = refl
put_over (a ∷ g) [] d i h = absurd (omega arith)
put_over (a ∷ g) (b ∷ t) d i h =
    ap (λ (x : List ℕ). sets x (suc i) t) (past g (set d i a) i (suc i) b (omega arith) ∙ ap (λ (x : List ℕ). sets x (suc i) g) (set-set d i a b)) ∙ put_over g t (set d i b) (suc i) (omega arith)

-- a text of which the front is put first, with more behind it
pub front_over : (s g t all d : List ℕ) (i : ℕ) → length g ≤ length t → all ≡ s ++ t → sets (sets d i (s ++ g)) (i + length s) t ≡ sets d i all
front_over s g t all d i h e =
    ap (λ (x : List ℕ). sets x (i + length s) t) (sets_append s g d i) ∙ put_over g t (sets d i s) (i + length s) h ∙ front_first s t all d i e

-- a turn of the loop that puts a text
pub sets_more : (d : List ℕ) (i : ℕ) (s : List ℕ) (j : ℕ) → j < length s → set (sets d i (take j s)) (i + j) (get_or s j 0) ≡ sets d i (take (j + 1) s)
sets_more d i s j h =
    let l : length (take j s) ≡ j = length-take-le j s (omega arith) in
    sym (rw (add-one, take-suc s j 0, sets_append, l))

-- a part of a buffer that a text is copied to
pub part_set : (d text part : List ℕ) (at end : ℕ) → part ≡ text → at + length text ≡ end → end ≤ length d → put_mid at (end - at) d part ≡ sets d at text
part_set d text part at end e n h =
    put_mid-paste at (end - at) d part text (length text) e (omega arith) refl ∙ paste_all d at text (length text) refl ∙ sym (append_assoc (take at d) text (drop (at + length text) d)) ∙ sym (sets-eq text d at (omega arith))

apart : (s t d : List ℕ) (i j : ℕ) → i + length s ≤ j → sets (sets d j t) i s ≡ sets (sets d i s) j t
apart [] t d i j h = refl
apart (a ∷ s) t d i j h = ap (λ (x : List ℕ). sets x (suc i) s) (past t d i j a (omega arith)) ∙ apart s t (set d i a) (suc i) j (omega arith)

-- a text of which the end is put first
pub end_first : (s t d : List ℕ) (i : ℕ) → sets (sets d (i + length s) t) i s ≡ sets d i (s ++ t)
end_first s t d i = apart s t d i (i + length s) (omega arith) ∙ sym (sets_append s t d i)
