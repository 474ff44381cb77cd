-- What P says of a record in use and of what its stream's lines show goes on with every record of a capture. Assumes nothing.
use Prim.Native.Nat.{ℕ, zero, suc}
use mathlib.Core.Path.{◌≡◌, refl, sym, ap, ◌∙◌, subst}
use mathlib.Core.Logic.{◌≢◌}
use mathlib.Core.Bool.{Bool, true, false, cond, ◌||◌, false≢true}
use mathlib.Core.List.{List, [], ◌∷◌, ◌++◌}
use mathlib.Core.Option.{some}
use native.Mathlib.Omega.{arith}
use lib.Dec.{eqb}
use lib.ListN.{set, get_elem?, replicate}
use borrow.Author.Tests.{eqb-true, eqb-false, eq-eqb, ne_eqb}
use Rattle.refusal.specs.Refusals.{if_accepted, first_of}
use Rattle.refusal.proofs.First.{clear}
use Rattle.stream.specs.declared.Record.{Record}
use Rattle.stream.specs.Records.{unused, admitted_within}
use Rattle.stream.specs.Answers.{Answer, answer_of, refused_with, after, id_of}
use Rattle.stream.proofs.Laws.{after_id}
use Rattle.table.specs.Table.{Table, holds, is_unused, any, place, at, admit_checks, number_with, receive, admit}
use Rattle.arrivals.specs.Arrivals.{StreamRecord}
use Rattle.table.proofs.Receiving.{number_any}
use Rattle.arrivals.proofs.Places.{at_get_or, at_set_other, held, place_stream}
use Rattle.capture.specs.Records.{Held, damaged, arrival, admission, frame_in}
use Rattle.capture.proofs.Kept.{kept}
use Rattle.lines.specs.Lines.{refused}
use Rattle.listing.specs.Listing.{Said, admission_line, frame_line, said_of, step, visit}
use Rattle.report.specs.Report.{ListedFrame, is_about, frames_by, since}

-- ---- places of a table

-- what stands at a place that has been set
set_there : (t : Table) (i : ℕ) (x r : Record) → get_elem? (set t i x) i ≡ some r → r ≡ x
set_there [] i x r e = let z : ◌≡◌ {A = ℕ} 0 1 = cc in absurd (omega arith)
set_there (s ∷ t) zero x r e = cc
set_there (s ∷ t) (suc i) x r e = set_there t i x r e

any_at : (p : Record → Bool) (t : Table) (i : ℕ) (r : Record) → get_elem? t i ≡ some r → p r ≡ true → any p t ≡ true
unfolding any
any_at p [] i r e h = let z : ◌≡◌ {A = ℕ} 0 1 = cc in absurd (omega arith)
any_at p (s ∷ t) zero r e h = let z : s ≡ r = cc in rw (z, h)
any_at p (s ∷ t) (suc i) r e h = or_true (p s) (any p t) (any_at p t i r e h)
  where
    or_true : (a b : Bool) → b ≡ true → a || b ≡ true
    or_true true b e = refl
    or_true false b e = e

none_in_use : (n i : ℕ) (r : Record) → get_elem? (replicate n unused) i ≡ some r → r.in_use ≡ true → ⊥
unfolding unused
none_in_use zero i r e u = let z : ◌≡◌ {A = ℕ} 0 1 = cc in omega arith
none_in_use (suc n) zero r e u = let z : unused ≡ r = cc in false≢true (ap (λ (y : Record). y.in_use) z ∙ u)
none_in_use (suc n) (suc i) r e u = none_in_use n i r e u

-- ---- what the lines show, and one line more

-- what the line of an accepted frame shows of its answer
abbrev pub shown_of : Answer → ListedFrame
shown_of a = record { flags = a.flags; timing = a.timing }

abbrev Shows : Type 0
Shows = ℕ → List ListedFrame

abbrev more : Said → Shows → Shows
more x shows id = cond (is_about id x.stream) (frames_by x.line (shows id)) (shows id)

since_more : (id : ℕ) (shown : List ListedFrame) (said : List Said) (x : Said) → since id shown (said ++ (x ∷ [])) ≡ more x (λ id. since id shown said) id
unfolding since
since_more id shown [] x = refl
since_more id shown (y ∷ said) x = since_more id (more y (λ id. shown) id) said x

-- ---- P holds of a record newly admitted of which nothing is shown, and goes on with each accepted frame

module _ (P : Record → List ListedFrame → Type 0) (none_yet : (id limit : ℕ) → P (admitted_within id limit) [])
    (one_more : (r : Record) (shown : List ListedFrame) (frame : List ℕ) (L : ℕ) → P r shown
    → P (after r frame L) (shown ++ (shown_of (answer_of r frame L) ∷ []))) where
  -- and no two records in use hold one id
  pub record Follows (t : Table) (shows : Shows) : Type 0 where
    pub own : (i : ℕ) (r : Record) → get_elem? t i ≡ some r → r.in_use ≡ true → P r (shows r.id)
    pub one : (i j : ℕ) (r s : Record) → get_elem? t i ≡ some r → get_elem? t j ≡ some s → r.in_use ≡ true → s.in_use ≡ true → r.id ≡ s.id → i ≡ j

  alike : (t : Table) (f g : Shows) → ((id : ℕ) → g id ≡ f id) → Follows t f → Follows t g
  alike t f g e was = record { own = λ i r h u. subst (P r) (sym (e r.id)) (was.own i r h u); one = was.one }

  -- another record x at the place p
  module _ (t : Table) (f g : Shows) (p : ℕ) (x : Record) (was : Follows t f)
      (new : P x (g x.id))
      (others : (i : ℕ) (r : Record) → i ≢ p → get_elem? t i ≡ some r → r.in_use ≡ true → g r.id ≡ f r.id)
      (apart : (i : ℕ) (r : Record) → i ≢ p → get_elem? t i ≡ some r → r.in_use ≡ true → r.id ≢ x.id) where
    -- a place is p, and x stands there, or it is another, and is as it was
    by_place : {X : Type 0} (i : ℕ) (r : Record) → get_elem? (set t p x) i ≡ some r → (i ≡ p → r ≡ x → X) → (i ≢ p → get_elem? t i ≡ some r → X) → X
    by_place {X} i r e here there = go (eqb i p) refl
      where
        go : (b : Bool) → eqb i p ≡ b → X
        go true h =
            let q = eqb-true i p h in
            here q (set_there t p x r (subst (λ (m : ℕ). get_elem? (set t p x) m ≡ some r) q e))
        go false h = let n = eqb-false i p h in there n (sym (at_set_other t i p x n) ∙ e)

    with_set : Follows (set t p x) g
    with_set =
        record {
          own = λ i r e u. by_place i r e
              (λ q z. subst (λ (y : Record). P y (g y.id)) (sym z) new)
              (λ n h. subst (P r) (sym (others i r n h u)) (was.own i r h u));
          one = λ i j r s e d u v same. by_place i r e
              (λ q z. by_place j s d
              (λ k y. q ∙ sym k)
              (λ n h. absurd (apart j s n h v (sym same ∙ ap (λ (y : Record). y.id) z))))
              (λ n h. by_place j s d
              (λ k y. absurd (apart i r n h u (same ∙ ap (λ (y : Record). y.id) y)))
              (λ m k. was.one i j r s h k u v same));
        }

  -- ---- one record of a capture

  module _ (t : Table) (f : Shows) (was : Follows t f) where
    -- where the record at the place p holds k, the others hold something else
    other_id : (k p : ℕ) (r : Record) → StreamRecord t k p r → (i : ℕ) (s : Record) → i ≢ p → get_elem? t i ≡ some s → s.in_use ≡ true → k ≢ s.id
    other_id k p r x i s n h u e = n (was.one i p s r h x.there u x.in_use (sym e ∙ sym x.id))

    -- a refusal shows nothing more
    after_refusal : (id n : ℕ) → Follows t (more (record { stream = some id; line = refused n }) f)
    after_refusal id n = alike t f _ (λ k. same (eqb id k) (f k)) was
      where
        same : (b : Bool) (x : List ListedFrame) → cond b x x ≡ x
        same true x = refl
        same false x = refl

    module _ (frame : List ℕ) (L : ℕ) where
      abbrev home : ℕ
      home = place (holds (id_of frame)) t

      after_arrival : (n : ℕ) → number_with t frame ≡ n
          → (let a = if_accepted n (answer_of (at t home) frame L) (refused_with n) in Follows (if_accepted n (set t home (after (at t home) frame L)) t) (more (said_of a) f))
      unfolding answer_of refused_with id_of
      after_arrival (suc n) e = was
      after_arrival zero e =
          let k = id_of frame in
          let found = place_stream k t (number_any t frame e) in
          let r = found.0 in
          let x = found.1 in
          let line : Record → Said = λ y. record { stream = some k; line = frame_line (answer_of y frame L) } in
          let named : (after r frame L).id ≡ k = after_id r frame L ∙ x.id in
          subst (λ (y : Record). Follows (set t home (after y frame L)) (more (line y) f)) (sym (at_get_or t home r unused x.there))
          (with_set t f (more (line r) f) home (after r frame L) was
          (subst (λ (id : ℕ). P (after r frame L) (more (line r) f id)) (sym named)
          (rw (eq-eqb k k refl) (one_more r (f k) frame L (subst (λ (id : ℕ). P r (f id)) x.id (was.own home r x.there x.in_use)))))
          (λ i s n h u. rw (ne_eqb k s.id (other_id k home r x i s n h u)))
          (λ i s n h u z. other_id k home r x i s n h u (sym (z ∙ named))))

    module _ (id : ℕ) where
      after_admission : (limit n : ℕ) → first_of (admit_checks limit t id) ≡ n → Follows (if_accepted n (set t (place is_unused t) (admitted_within id limit)) t) (more (record { stream = some id; line = admission_line n }) f)
      unfolding admitted_within
      after_admission limit (suc n) e = after_refusal id (suc n)
      after_admission limit zero e =
          let none = clear (admit_checks limit t id) tt e in
          let not-held : (i : ℕ) (r : Record) → get_elem? t i ≡ some r → r.in_use ≡ true → id ≢ r.id = λ i r h u z. false≢true (sym none.1.0 ∙ any_at (holds id) t i r h (held id r u (sym z))) in
          with_set t f _ (place is_unused t) (admitted_within id limit) was
          (rw (eq-eqb id id refl) (none_yet id limit))
          (λ i r n h u. rw (ne_eqb id r.id (not-held i r h u)))
          (λ i r n h u z. not-held i r h u (sym z))

    after_record : (bytes : List ℕ) (held : Held) → Follows (step t bytes held).1 (more (step t bytes held).0 f)
    unfolding receive admit
    after_record bytes (damaged n) = was
    after_record bytes (arrival L) = after_arrival (frame_in bytes) L (number_with t (frame_in bytes)) refl
    after_record bytes (admission id limit) = after_admission id limit (first_of (admit_checks limit t id)) refl

  -- ---- all of them

  pub follows : (capture : List ℕ) → Follows (visit capture).1 (λ id. since id [] (visit capture).0)
  unfolding visit since
  follows capture =
      kept step (λ said t. Follows t (λ id. since id [] said))
      (λ said t bytes held was. alike _ _ _ (λ id. since_more id [] said _) (after_record t _ was bytes held))
      capture (replicate 64 unused)
      (record { own = λ i r e u. absurd (none_in_use 64 i r e u); one = λ i j r s e d u v q. absurd (none_in_use 64 i r e u) })
