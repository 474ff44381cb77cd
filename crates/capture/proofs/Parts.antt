-- Bytes that come later change nothing of a record that is there whole. Assumes nothing.
use Prim.Native.Nat.{ℕ, ◌+◌, ◌≤◌}
use mathlib.Core.Path.{◌≡◌, refl, sym, ap, subst, ◌∙◌}
use mathlib.Core.Bool.{Bool, true, false, cond, not, ◌||◌}
use mathlib.Core.List.{List, ◌++◌}
use mathlib.Core.Logic.{◌⊎◌, inl, inr, ⊎_elim}
use native.Mathlib.Omega.{arith}
use borrow.Author.Tests.{eqb-true, ltb-false}
use lib.Dec.{T, eqb, ltb}
use lib.ListN.{length, drop, length-append, length-drop}
use lib.Seq.{take-append-le, drop-append-le}
use Rattle.wire.specs.Numbers.{part, spelled_or_0, number_or_0, number, little_endian}
use Rattle.wire.proofs.Numbers.{there}
use Rattle.capture.specs.Records.{whole, length_of, kind_of, size_of, body_of, wrong_for, wrong_length, retired_kind, unknown_kind, entry_of}
use Rattle.capture.specs.Parts.{ReadInParts}
use Rattle.capture.proofs.Fronts.{body_by, wrong, retired, unknown, known, all_there, sized}

pub never : {X : Type 0} → true ≡ false → X
never e = absurd (subst T e tt)

-- ---- what is there is read the same

module _ (at k : ℕ) (s t : List ℕ) (h : at + k ≤ length s) where
  part_same : part at k (s ++ t) ≡ part at k s
  part_same = rw (drop-append-le at s t (omega arith), take-append-le k (drop at s) t (rw (length-drop at s) (omega arith)))

  longer : at + k ≤ length (s ++ t)
  longer = rw (length-append s t) (omega arith)

  pub read_same : (spelled : List ℕ → ℕ) → spelled_or_0 spelled at k (s ++ t) ≡ spelled_or_0 spelled at k s
  read_same spelled = there spelled at k (s ++ t) longer ∙ ap spelled part_same ∙ sym (there spelled at k s h)

-- ---- how long a record is that is not refused

-- no wrong length: right for its kind
right_for : (n k : ℕ) → wrong_length n k ≡ false → wrong_for k n ≡ false
unfolding wrong_length
right_for n k = go (ltb n 2)
  where
    go : (short : Bool) → short || wrong_for k n ≡ false → wrong_for k n ≡ false
    go true p = never p
    go false p = p

-- and no unknown kind: at least 10
by_kind : (one two three five under-10 is-10 is_14 : Bool) → cond one under-10 (cond (two || three) (not is-10) (cond five (not is_14) false)) ≡ false → not (one || two || five) ≡ false
    → (under-10 ≡ false) ⊎ ((is-10 ≡ true) ⊎ (is_14 ≡ true))
by_kind true two three five true e f p q = never p
by_kind true two three five false e f p q = inl refl
by_kind false true three five d true f p q = inr (inl refl)
by_kind false true three five d false f p q = never p
by_kind false false true five d true f p q = inr (inl refl)
by_kind false false true five d false f p q = never p
by_kind false false false true d e true p q = inr (inr refl)
by_kind false false false true d e false p q = never p
by_kind false false false false d e f p q = never q

pub at_least_10 : (n k : ℕ) → wrong_length n k ≡ false → unknown_kind k ≡ false → 10 ≤ n
unfolding unknown_kind
at_least_10 n k p q =
    ⊎_elim (λ d. ltb-false n 10 d)
    (⊎_elim (λ e. let h : n ≡ 10 = eqb-true n 10 e in omega arith) (λ e. let h : n ≡ 14 = eqb-true n 14 e in omega arith))
    (by_kind (eqb k 1) (eqb k 2) (eqb k 3) (eqb k 5) (ltb n 10) (eqb n 10) (eqb n 14) (right_for n k p) q)

-- 14 where there is a limit
is_14 : (n k : ℕ) → eqb k 5 ≡ true → wrong_length n k ≡ false → n ≡ 14
is_14 n k e p = go (eqb n 14) refl (subst (λ (k : ℕ). wrong_for k n ≡ false) (eqb-true k 5 e) (right_for n k p))
  where
    go : (b : Bool) → eqb n 14 ≡ b → not b ≡ false → n ≡ 14
    go true e q = eqb-true n 14 e
    go false e q = never q

at_least_2 : (n k : ℕ) (short : Bool) → ltb n 2 ≡ short → wrong_length n k ≡ false → 2 ≤ n
unfolding wrong_length
at_least_2 n k true e p = never (rw e at p)
at_least_2 n k false e p = ltb-false n 2 e

-- a length under 2 is wrong for every kind
wrong_same : (n k k' : ℕ) (short : Bool) → ltb n 2 ≡ short → (2 ≤ n → k' ≡ k) → wrong_length n k' ≡ wrong_length n k
unfolding wrong_length
wrong_same n k k' true e f = rw e
wrong_same n k k' false e f = rw (f (ltb-false n 2 e))

-- ---- the record at the front

module _ (rest later : List ℕ) (some : length rest ≡ 0 → ⊥) (all : size_of rest ≤ length rest) where
  abbrev both : List ℕ
  both = rest ++ later

  abbrev n : ℕ
  n = length_of rest

  abbrev k : ℕ
  k = kind_of rest

  some_more : length both ≡ 0 → ⊥
  some_more e = let l = length-append rest later in some (omega arith)

  all_more : 2 + n ≤ length both
  all_more = rw (length-append rest later) (omega arith)

  length_same : n ≡ length_of both
  unfolding length_of
  length_same = sym (read_same 0 2 rest later (omega arith) little_endian)

  kind_same : 2 ≤ n → k ≡ kind_of both
  unfolding kind_of
  kind_same h = sym (read_same 2 2 rest later (omega arith) little_endian)

  -- the limit is read where there is one
  body_same : 10 ≤ n → wrong_length n k ≡ false → unknown_kind k ≡ false → body_of k both ≡ body_of k rest
  unfolding unknown_kind
  body_same h w known = go (eqb k 1) (eqb k 2) (eqb k 5) refl known
    where
      id_same : number_or_0 4 8 both ≡ number_or_0 4 8 rest
      id_same = read_same 4 8 rest later (omega arith) number

      go : (one two five : Bool) → eqb k 5 ≡ five → not (one || two || five) ≡ false → body_by one two both ≡ body_by one two rest
      go true two five e q = rw (read_same 4 8 rest later (omega arith) little_endian)
      go false true five e q = rw id_same
      go false false true e q = let whole : n ≡ 14 = is_14 n k e w in rw (id_same, read_same 12 4 rest later (omega arith) little_endian)
      go false false false e q = never q

  by_checks : (w r u : Bool) → wrong_length n k ≡ w → retired_kind k ≡ r → unknown_kind k ≡ u → entry_of both ≡ entry_of rest
  by_checks true r u ew er eu =
      let same = wrong_same n k (kind_of both) (ltb n 2) refl (λ h. sym (kind_same h)) in
      sym (wrong both some_more length_same refl all_more (sym (same ∙ ew))) ∙ wrong rest some refl refl all (sym ew)
  by_checks false true u ew er eu =
      sym (retired both some_more length_same (kind_same (at_least_2 n k (ltb n 2) refl ew)) all_more (sym ew) (sym er))
      ∙ retired rest some refl refl all (sym ew) (sym er)
  by_checks false false true ew er eu =
      sym (unknown both some_more length_same (kind_same (at_least_2 n k (ltb n 2) refl ew)) all_more (sym ew) (sym er) (sym eu))
      ∙ unknown rest some refl refl all (sym ew) (sym er) (sym eu)
  by_checks false false false ew er eu =
      sym (known both some_more length_same (kind_same (at_least_2 n k (ltb n 2) refl ew)) all_more (sym ew) (sym er) (sym eu))
      ∙ ap (whole (2 + n)) (body_same (at_least_10 n k ew eu) ew eu) ∙ known rest some refl refl all (sym ew) (sym er) (sym eu)

pub read_in_parts : ReadInParts
read_in_parts rest later size held e =
    let p = sized rest size held e in
    by_checks rest later (λ z. omega (arith, p.0, p.1)) (let l = all_there rest size held e in omega (arith, p.1)) _ _ _ refl refl refl ∙ e
