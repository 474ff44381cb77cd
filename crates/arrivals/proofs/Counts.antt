-- A count that goes up with a flag holds, at the end of a replay, how often the flag was raised, up to its cap. Assumes nothing.
use Prim.Native.Nat.{ℕ, suc, ◌+◌, ◌≤◌, min}
use mathlib.Core.Path.{◌≡◌, refl, ap, ◌∙◌}
use mathlib.Core.Bool.{Bool, true, false, cond}
use mathlib.Core.List.{List, [], ◌∷◌}
use native.Mathlib.Omega.{arith}
use lib.Dec.{ltb}
use lib.ListN.{length}
use borrow.Author.Tests.{ltb-true, ltb-false}
use Rattle.stream.specs.declared.Record.{Record}
use Rattle.stream.specs.Records.{bump}
use Rattle.stream.specs.Answers.{Answer, answer_of, after}
use Rattle.stream.proofs.Laws.{after_frames, after_sequence_breaks, after_block_breaks, after_format_changes, after_mr_changes}
use Rattle.arrivals.specs.Arrivals.{Arrival, replay, how_many, WithinCap, Counted}

abbrev cap : ℕ
cap = 4_294_967_295

bump_le : (b : Bool) (n : ℕ) → n ≤ cap → bump b n ≤ cap
unfolding bump
bump_le true n h = go (ltb n cap) refl
  where
    go : (b : Bool) → ltb n cap ≡ b → cond b (n + 1) n ≤ cap
    go true e = omega (arith, ltb-true n cap e)
    go false e = h
bump_le false n h = h

-- one frame more: m is how often the flag is raised later
bump_more : (b : Bool) (n m : ℕ) → n ≤ cap → min cap (bump b n + m) ≡ min cap (n + cond b (suc m) m)
unfolding bump
bump_more true n m h = go (ltb n cap) refl
  where
    go : (b : Bool) → ltb n cap ≡ b → min cap (cond b (n + 1) n + m) ≡ min cap (n + suc m)
    go true e = omega arith
    go false e = omega (arith, ltb-false n cap e)
bump_more false n m h = refl

module _ (c : Record → ℕ) (f : Answer → Bool) (law : (r : Record) (frame : List ℕ) (L : ℕ) → c (after r frame L) ≡ bump (f (answer_of r frame L)) (c r)) where
  counted : (r : Record) (l : List Arrival) → c r ≤ cap → c (replay r l).1 ≡ min cap (c r + how_many f (replay r l).0)
  unfolding replay how_many
  counted r [] h = omega arith
  counted r (a ∷ l) h =
      let q = law r a.frame a.time in
      let b = f (answer_of r a.frame a.time) in
      counted (after r a.frame a.time) l (rw q (bump_le b (c r) h))
      ∙ rw q (bump_more b (c r) (how_many f (replay (after r a.frame a.time) l).0) h)

how_many_all : (xs : List Answer) → how_many (λ x. true) xs ≡ length xs
unfolding how_many
how_many_all [] = refl
how_many_all (x ∷ xs) = ap suc (how_many_all xs)

pub replay_counted : (r : Record) (l : List Arrival) → WithinCap r.counts → Counted r.counts (replay r l).1 (replay r l).0
replay_counted r l h =
    record {
      frames =
          counted (λ r. r.counts.frames) (λ x. true) after_frames r l h.0
          ∙ ap (λ (n : ℕ). min cap (r.counts.frames + n)) (how_many_all (replay r l).0);
      sequence_breaks = counted (λ r. r.counts.sequence_breaks) (λ x. x.flags.sequence) after_sequence_breaks r l h.1;
      block_breaks = counted (λ r. r.counts.block_breaks) (λ x. x.flags.block) after_block_breaks r l h.2;
      format_changes = counted (λ r. r.counts.format_changes) (λ x. x.flags.format) after_format_changes r l h.3;
      mr_changes = counted (λ r. r.counts.mr_changes) (λ x. x.flags.mr) after_mr_changes r l h.4;
    }
