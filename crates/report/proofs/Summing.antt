-- The sums with one frame more. Assumes nothing.
use Prim.Native.Nat.{ℕ, ◌+◌, ◌-◌, ◌*◌, ◌%◌, ◌^◌, ◌≤◌, ◌<◌}
use mathlib.Core.Path.{◌≡◌, refl, sym, ap, ◌∙◌, subst}
use mathlib.Core.Bool.{Bool, true, false, cond}
use mathlib.Core.List.{List, [], ◌∷◌, ◌++◌, append-nil}
use native.Mathlib.Omega.{arith}
use lib.IntN.{ℤ, pos, ◌+ℤ◌, ◌-ℤ◌}
use lib.ListN.{length, take, length-append}
use lib.Seq.{take_all, take-append-le, length-take-le}
use borrow.Author.Tests.{lt-ltb, le-ltb}
use Rattle.wrapping.proofs.Signed.{by_lt}
use Rattle.tally.specs.declared.Sums.{Sums}
use Rattle.tally.specs.Tally.{is_timed, most_summed, above_lowest, greater as further, raised, sums_after}
use Rattle.report.specs.Report.{ListedFrame, capped64, offsets, lesser, greater, fold}
use Rattle.report.specs.Totals.{SumsOver}
use Rattle.report.proofs.Counting.{raised_capped}
use Rattle.report.proofs.Distances.{above, below, below_highest, InRange, near, is_above, is_below, greater_above, lesser_below, further_0, sum_of}

fold_more : (f : ℤ → ℤ → ℤ) (d : ℤ) (ds : List ℤ) (e : ℤ) → fold f d (ds ++ (e ∷ [])) ≡ f (fold f d ds) e
unfolding fold
fold_more f d [] e = refl
fold_more f d (c ∷ ds) e = fold_more f (f d c) ds e

-- ---- the offsets

offsets_more : (xs : List ListedFrame) (x : ListedFrame) → offsets (xs ++ (x ∷ [])) ≡ offsets xs ++ cond (is_timed x.timing.kind) (x.timing.offset ∷ []) []
unfolding offsets
offsets_more [] x = refl
offsets_more (y ∷ xs) x = rw (offsets_more xs x) (go (is_timed y.timing.kind) (offsets xs) (cond (is_timed x.timing.kind) (x.timing.offset ∷ []) []))
  where
    go : (b : Bool) (ds es : List ℤ) → cond b (y.timing.offset ∷ (ds ++ es)) (ds ++ es) ≡ cond b (y.timing.offset ∷ ds) ds ++ es
    go true ds es = refl
    go false ds es = refl

-- ---- the sums of the first `most` of the offsets ds

-- what they stand for, and nothing where none is summed
abbrev StandsFor : Sums → List ℤ → Type 0
StandsFor s [] = (s.smallest_below ≡ 0) × (s.largest_above ≡ 0) × (s.sum_above ≡ 0)
StandsFor s (d ∷ ds) = SumsOver s (d ∷ ds)

-- and with it what they need to go on: no sum wraps
pub record SumsOf (most : ℕ) (s : Sums) (ds : List ℤ) : Type 0 where
  pub summed : s.summed ≡ length (take most ds)
  pub unsummed : s.unsummed ≡ capped64 (length ds - most)
  pub stands : StandsFor s (take most ds)
  pub small : s.sum_above ≤ s.summed * 4_294_967_295

pub stands_summed : (s : Sums) (ds : List ℤ) → StandsFor s ds → SumsOver s ds
stands_summed s [] w = tt
stands_summed s (d ∷ ds) w = w

-- one offset more
module _ (most : ℕ) (not-many : most ≤ 1_000_000) (s : Sums) (ds : List ℤ) (was : SumsOf most s ds) (d : ℤ) (r : InRange d) where
  longer : length (ds ++ (d ∷ [])) ≡ length ds + 1
  longer = length-append ds (d ∷ [])

  -- that is summed
  module _ (h : s.summed < most) where
    few : length ds < most
    few = by_lt (length ds) most (λ k. k) (λ k. absurd (omega (arith, h, was.summed, length-take-le most ds k)))

    all : take most ds ≡ ds
    all = take_all most ds (omega (arith, few))

    all_more : take most (ds ++ (d ∷ [])) ≡ ds ++ (d ∷ [])
    all_more = take_all most (ds ++ (d ∷ [])) (omega (arith, longer, few))

    length_is : s.summed ≡ length ds
    length_is = was.summed ∙ ap length all

    abbrev added : Sums
    added =
        record {
          sum_above = (s.sum_above + above_lowest d) % 2 ^ 64;
          unsummed = s.unsummed;
          summed = s.summed + 1;
          largest_above = further s.largest_above (above_lowest d);
          smallest_below = further s.smallest_below (below_highest d);
        }

    no_wrap : (s.sum_above + above_lowest d) % 2 ^ 64 ≡ s.sum_above + above_lowest d
    no_wrap = omega (arith, was.small, near d, h, not-many)

    stands_more : (l : List ℤ) → s.summed ≡ length l → StandsFor s l → StandsFor added (l ++ (d ∷ []))
    unfolding fold
    stands_more [] e w =
        let total : (s.sum_above + above_lowest d) % 2 ^ 64 ≡ above_lowest d = no_wrap ∙ omega (arith, w.2) in
        let one : (s.summed + 1) * 2_147_483_648 ≡ 2_147_483_648 = omega (arith, e) in (
          ap (λ (n : ℕ). below (further n (below_highest d))) w.0 ∙ ap below (further_0 (below_highest d)) ∙ is_below d r,
          ap (λ (n : ℕ). above (further n (above_lowest d))) w.1 ∙ ap above (further_0 (above_lowest d)) ∙ is_above d r,
          (λ i. pos (total i) -ℤ pos (one i)) ∙ is_above d r,
        )
    stands_more (c ∷ l) e w =
        let one_more : (s.summed + 1) * 2_147_483_648 ≡ s.summed * 2_147_483_648 + 2_147_483_648 = omega arith in (
          lesser_below s.smallest_below (below_highest d) ∙ (λ i. lesser (w.0 i) (is_below d r i)) ∙ sym (fold_more lesser c l d),
          greater_above s.largest_above (above_lowest d) ∙ (λ i. greater (w.1 i) (is_above d r i)) ∙ sym (fold_more greater c l d),
          (λ i. pos (no_wrap i) -ℤ pos (one_more i)) ∙ sum_of s.sum_above (s.summed * 2_147_483_648) (above_lowest d) 2_147_483_648 ∙ (λ i. w.2 i +ℤ is_above d r i) ∙ sym (fold_more ◌+ℤ◌ c l d),
        )

    summed_more : SumsOf most added (ds ++ (d ∷ []))
    summed_more =
        record {
          summed = ap (λ (n : ℕ). n + 1) length_is ∙ sym longer ∙ ap length (sym all_more);
          unsummed = was.unsummed ∙ ap capped64 (omega (arith, few, longer));
          stands = subst (StandsFor added) (sym all_more) (stands_more ds length_is (subst (StandsFor s) all was.stands));
          small = subst (λ (n : ℕ). n ≤ (s.summed + 1) * 4_294_967_295) (sym no_wrap) (omega (arith, was.small, near d));
        }

  -- that is one too many
  module _ (h : most ≤ s.summed) where
    many : most ≤ length ds
    many = by_lt (length ds) most (λ k. absurd (omega (arith, k, h, was.summed, ap length (take_all most ds (omega (arith, k)))))) (λ k. k)

    abbrev passed : Sums
    passed =
        record {
          sum_above = s.sum_above;
          unsummed = raised s.unsummed;
          summed = s.summed;
          largest_above = s.largest_above;
          smallest_below = s.smallest_below;
        }

    stands_still : (l : List ℤ) → StandsFor s l → StandsFor passed l
    stands_still [] w = w
    stands_still (c ∷ l) w = w

    unsummed_more : SumsOf most passed (ds ++ (d ∷ []))
    unsummed_more =
        let same : take most (ds ++ (d ∷ [])) ≡ take most ds = take-append-le most ds (d ∷ []) many in
        record {
          summed = was.summed ∙ ap length (sym same);
          unsummed = ap raised was.unsummed ∙ raised_capped (length ds - most) ∙ ap capped64 (omega (arith, longer, many));
          stands = subst (StandsFor passed) (sym same) (stands_still (take most ds) was.stands);
          small = was.small;
        }

one_offset : (s : Sums) (ds : List ℤ) → SumsOf most_summed s ds → (d : ℤ) → InRange d → SumsOf most_summed (sums_after (above_lowest d) s) (ds ++ (d ∷ []))
unfolding sums_after
one_offset s ds was d r =
    by_lt s.summed 1_000_000
    (λ h. rw (lt-ltb s.summed 1_000_000 h) (summed_more most_summed (omega arith) s ds was d r h))
    (λ h. rw (le-ltb s.summed 1_000_000 h) (unsummed_more most_summed (omega arith) s ds was d r h))

pub sums_more : (s : Sums) (xs : List ListedFrame) (x : ListedFrame) → InRange x.timing.offset → SumsOf most_summed s (offsets xs)
    → SumsOf most_summed (cond (is_timed x.timing.kind) (sums_after (above_lowest x.timing.offset) s) s) (offsets (xs ++ (x ∷ [])))
sums_more s xs x r was = subst (SumsOf most_summed _) (sym (offsets_more xs x)) (go (is_timed x.timing.kind))
  where
    go : (b : Bool) → SumsOf most_summed (cond b (sums_after (above_lowest x.timing.offset) s) s) (offsets xs ++ cond b (x.timing.offset ∷ []) [])
    go true = one_offset s (offsets xs) was x.timing.offset r
    go false = subst (SumsOf most_summed s) (sym (append-nil (offsets xs))) was
