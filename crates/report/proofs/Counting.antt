-- Counts and kinds with one frame more. Assumes nothing.
use Prim.Native.Nat.{ℕ, suc, ◌+◌}
use mathlib.Core.Path.{◌≡◌, refl, sym, ap, ◌∙◌}
use mathlib.Core.Bool.{Bool, true, false, cond}
use mathlib.Core.List.{List, [], ◌∷◌, ◌++◌}
use native.Mathlib.Omega.{arith}
use lib.Dec.{ltb}
use lib.ListN.{length, length-append}
use borrow.Author.Tests.{ltb-true, ltb-false}
use Rattle.presentation.specs.declared.Kind.TheVariants.{None, Cut, Outside, Late, Ahead, Unclear, Far}
use Rattle.tally.specs.declared.Kinds.{Kinds}
use Rattle.tally.specs.Tally.{raised, raised_if, kinds_after}
use Rattle.stream.specs.declared.Counts.{Counts}
use Rattle.stream.specs.declared.Record.{Record}
use Rattle.stream.specs.Records.{bump}
use Rattle.stream.specs.Answers.{answer_of, after}
use Rattle.stream.proofs.Laws.{after_frames, after_sequence_breaks, after_block_breaks, after_format_changes, after_mr_changes}
use Rattle.report.specs.Report.{ListedFrame, how_many, capped32, capped64, counts_of, is_kind, kinds_of}
use Rattle.report.proofs.Following.{shown_of}

how_many_more : (p : ListedFrame → Bool) (xs : List ListedFrame) (x : ListedFrame) → how_many p (xs ++ (x ∷ [])) ≡ how_many p xs + cond (p x) 1 0
unfolding how_many
how_many_more p [] x = omega arith
how_many_more p (y ∷ xs) x = rw (how_many_more p xs x) (go (p y))
  where
    go : (b : Bool) → cond b (suc (how_many p xs + cond (p x) 1 0)) (how_many p xs + cond (p x) 1 0) ≡ cond b (suc (how_many p xs)) (how_many p xs) + cond (p x) 1 0
    go true = omega arith
    go false = refl

-- ---- counts of accepted frames and of flags

bump_capped : (b : Bool) (n : ℕ) → bump b (capped32 n) ≡ capped32 (n + cond b 1 0)
unfolding bump
bump_capped false n = omega arith
bump_capped true n = go (ltb (capped32 n) 4_294_967_295) refl
  where
    go : (b : Bool) → ltb (capped32 n) 4_294_967_295 ≡ b → cond b (capped32 n + 1) (capped32 n) ≡ capped32 (n + 1)
    go true e = let h = ltb-true (capped32 n) 4_294_967_295 e in omega arith
    go false e = let h = ltb-false (capped32 n) 4_294_967_295 e in omega arith

flag_more : (p : ListedFrame → Bool) (xs : List ListedFrame) (x : ListedFrame) (c : ℕ) → c ≡ capped32 (how_many p xs) → bump (p x) c ≡ capped32 (how_many p (xs ++ (x ∷ [])))
flag_more p xs x c e = ap (bump (p x)) e ∙ bump_capped (p x) (how_many p xs) ∙ ap capped32 (sym (how_many_more p xs x))

frames_more : (xs : List ListedFrame) (x : ListedFrame) (c : ℕ) → c ≡ capped32 (length xs) → bump true c ≡ capped32 (length (xs ++ (x ∷ [])))
frames_more xs x c e = ap (bump true) e ∙ bump_capped true (length xs) ∙ ap capped32 (sym (length-append xs (x ∷ [])))

pub counts_more : (r : Record) (xs : List ListedFrame) (frame : List ℕ) (L : ℕ) → r.counts ≡ counts_of xs
    → (after r frame L).counts ≡ counts_of (xs ++ (shown_of (answer_of r frame L) ∷ []))
unfolding counts_of
counts_more r xs frame L e =
    let x = shown_of (answer_of r frame L) in
    let frames = after_frames r frame L ∙ frames_more xs x _ (ap (λ (c : Counts). c.frames) e) in
    let sequence = after_sequence_breaks r frame L ∙ flag_more (λ x. x.flags.sequence) xs x _ (ap (λ (c : Counts). c.sequence_breaks) e) in
    let block = after_block_breaks r frame L ∙ flag_more (λ x. x.flags.block) xs x _ (ap (λ (c : Counts). c.block_breaks) e) in
    let format = after_format_changes r frame L ∙ flag_more (λ x. x.flags.format) xs x _ (ap (λ (c : Counts). c.format_changes) e) in
    let mr = after_mr_changes r frame L ∙ flag_more (λ x. x.flags.mr) xs x _ (ap (λ (c : Counts). c.mr_changes) e) in
    λ i. record { frames = frames i; sequence_breaks = sequence i; block_breaks = block i; format_changes = format i; mr_changes = mr i }

-- ---- counts of kinds, and any that goes up like them

pub raised_capped : (n : ℕ) → raised (capped64 n) ≡ capped64 (n + 1)
unfolding raised
raised_capped n = go (ltb (capped64 n) 18_446_744_073_709_551_615) refl
  where
    go : (b : Bool) → ltb (capped64 n) 18_446_744_073_709_551_615 ≡ b → cond b (capped64 n + 1) (capped64 n) ≡ capped64 (n + 1)
    go true e = let h = ltb-true (capped64 n) 18_446_744_073_709_551_615 e in omega arith
    go false e = let h = ltb-false (capped64 n) 18_446_744_073_709_551_615 e in omega arith

kind_more : (p : ListedFrame → Bool) (xs : List ListedFrame) (x : ListedFrame) (c : ℕ) → c ≡ capped64 (how_many p xs) → raised_if (p x) c ≡ capped64 (how_many p (xs ++ (x ∷ [])))
kind_more p xs x c e = ap (raised_if (p x)) e ∙ go (p x) ∙ ap capped64 (sym (how_many_more p xs x))
  where
    go : (b : Bool) → raised_if b (capped64 (how_many p xs)) ≡ capped64 (how_many p xs + cond b 1 0)
    go true = raised_capped (how_many p xs)
    go false = omega arith

pub kinds_more : (xs : List ListedFrame) (x : ListedFrame) (k : Kinds) → k ≡ kinds_of xs → kinds_after x.timing.kind k ≡ kinds_of (xs ++ (x ∷ []))
unfolding kinds_of kinds_after
kinds_more xs x k e =
    let none = kind_more (is_kind None) xs x _ (ap (λ (k : Kinds). k.none) e) in
    let cut = kind_more (is_kind Cut) xs x _ (ap (λ (k : Kinds). k.cut) e) in
    let outside = kind_more (is_kind Outside) xs x _ (ap (λ (k : Kinds). k.outside) e) in
    let late = kind_more (is_kind Late) xs x _ (ap (λ (k : Kinds). k.late) e) in
    let ahead = kind_more (is_kind Ahead) xs x _ (ap (λ (k : Kinds). k.ahead) e) in
    let unclear = kind_more (is_kind Unclear) xs x _ (ap (λ (k : Kinds). k.unclear) e) in
    let far = kind_more (is_kind Far) xs x _ (ap (λ (k : Kinds). k.far) e) in
    λ i. record { none = none i; cut = cut i; outside = outside i; late = late i; ahead = ahead i; unclear = unclear i; far = far i }
