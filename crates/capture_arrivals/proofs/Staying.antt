-- A stream that is admitted stays so: no record of a capture clears another record of the table than an unused one. Assumes nothing.
use Prim.Native.Nat.{ℕ, zero, suc, ◌≤◌}
use mathlib.Core.Path.{◌≡◌, refl, sym, ap, ◌∙◌, subst}
use mathlib.Core.Bool.{Bool, true, false, not, cond, false≢true}
use mathlib.Core.List.{List, [], ◌∷◌}
use mathlib.Core.Option.{some}
use native.Mathlib.Omega.{arith}
use borrow.Author.Tests.{eqb-true, eqb-false}
use lib.Dec.{eqb}
use lib.ListN.{take, set, get_elem?, replicate}
use Rattle.refusal.specs.Refusals.{first_of, if_accepted}
use Rattle.capture.specs.Records.{Held, damaged, arrival, admission, frame_in}
use Rattle.capture.specs.Walk.{CaptureRecord, records_in, steps}
use Rattle.stream.specs.declared.Record.{Record}
use Rattle.stream.specs.Records.{unused, admitted_within}
use Rattle.stream.specs.Answers.{after, id_of}
use Rattle.stream.proofs.Laws.{after_in_use, after_id, after_limit}
use Rattle.table.specs.Table.{Table, holds, is_unused, place, at, admit_checks, admit, number_with, receive}
use Rattle.arrivals.proofs.Places.{at_get_or, at_set_same, at_set_other}
use Rattle.listing.specs.Listing.{step}
use Rattle.capture_arrivals.specs.Staying.{StandsAt, StaysAdmitted}

as_it_was : (t : Table) (i : ℕ) (r : Record) → get_elem? t i ≡ some r → r.in_use ≡ true → StandsAt t i r
as_it_was t i r e u = record { now = r; there = e; in_use = u; id = refl; limit = refl }

-- the first unused record, if there is one, is not in use
first_unused : (t : Table) (r : Record) → get_elem? t (place is_unused t) ≡ some r → r.in_use ≡ true → ⊥
unfolding place
first_unused [] r e u = let z : ◌≡◌ {A = ℕ} 0 1 = cc in omega arith
first_unused (s ∷ t) r e u = go (first_unused t r) s.in_use refl e
  where
    go : (get_elem? t (place is_unused t) ≡ some r → r.in_use ≡ true → ⊥) → (used : Bool) → s.in_use ≡ used
        → get_elem? (s ∷ t) (cond (not used) 0 (suc (place is_unused t))) ≡ some r → ⊥
    go later true h e = later e u
    go later false h e = let z : s ≡ r = cc in false≢true (sym h ∙ ap (λ (x : Record). x.in_use) z ∙ u)

-- ---- one record of a capture

module _ (t : Table) (i : ℕ) (r : Record) (e : get_elem? t i ≡ some r) (u : r.in_use ≡ true) where
  -- another record x at the place p
  with_set : (p : ℕ) (x : Record) → (i ≡ p → StandsAt (set t p x) i r) → StandsAt (set t p x) i r
  with_set p x here = go (eqb i p) refl
    where
      go : (b : Bool) → eqb i p ≡ b → StandsAt (set t p x) i r
      go true h = here (eqb-true i p h)
      go false h = as_it_was (set t p x) i r (at_set_other t i p x (eqb-false i p h) ∙ e) u

  after_arrival : (frame : List ℕ) (L : ℕ) → StandsAt (receive t frame L).1 i r
  unfolding receive
  after_arrival frame L = go (number_with t frame)
    where
      home : ℕ
      home = place (holds (id_of frame)) t

      -- the record that takes the step is r
      stepped : i ≡ home → StandsAt (set t home (after (at t home) frame L)) i r
      stepped q =
          let is-r : at t home ≡ r = at_get_or t home r unused (subst (λ (p : ℕ). get_elem? t p ≡ some r) q e) in
          subst (λ (x : Record). StandsAt (set t home (after x frame L)) i r) (sym is-r)
          (record {
            now = after r frame L;
            there = subst (λ (p : ℕ). get_elem? (set t p (after r frame L)) i ≡ some (after r frame L)) q (at_set_same t i r (after r frame L) e);
            in_use = after_in_use r frame L ∙ u;
            id = after_id r frame L;
            limit = after_limit r frame L;
          })

      go : (n : ℕ) → StandsAt (if_accepted n (set t home (after (at t home) frame L)) t) i r
      go zero = with_set home (after (at t home) frame L) stepped
      go (suc n) = as_it_was t i r e u

  after_admission : (id limit : ℕ) → StandsAt (admit limit t id).1 i r
  unfolding admit
  after_admission id limit = go (first_of (admit_checks limit t id))
    where
      go : (n : ℕ) → StandsAt (if_accepted n (set t (place is_unused t) (admitted_within id limit)) t) i r
      go zero = with_set (place is_unused t) (admitted_within id limit) (λ q. absurd (first_unused t r (subst (λ (p : ℕ). get_elem? t p ≡ some r) q e) u))
      go (suc n) = as_it_was t i r e u

  after_record : (bytes : List ℕ) (held : Held) → StandsAt (step t bytes held).1 i r
  after_record bytes (damaged n) = as_it_was t i r e u
  after_record bytes (arrival L) = after_arrival (frame_in bytes) L
  after_record bytes (admission id limit) = after_admission id limit

-- ---- all of them

after_records : (n : ℕ) (rs : List CaptureRecord) (t : Table) (i : ℕ) (r : Record) → get_elem? t i ≡ some r → r.in_use ≡ true → StandsAt (steps step t (take n rs)).1 i r
unfolding steps
after_records zero rs t i r e u = as_it_was t i r e u
after_records (suc n) [] t i r e u = as_it_was t i r e u
after_records (suc n) (x ∷ rs) t i r e u =
    let one = after_record t i r e u x.bytes x.held in
    let all = after_records n rs (step t x.bytes x.held).1 i one.now one.there one.in_use in
    record { now = all.now; there = all.there; in_use = all.in_use; id = all.id ∙ one.id; limit = all.limit ∙ one.limit }

after_more : (m n : ℕ) (rs : List CaptureRecord) (t : Table) (i : ℕ) (r : Record) → m ≤ n → get_elem? (steps step t (take m rs)).1 i ≡ some r → r.in_use ≡ true
    → StandsAt (steps step t (take n rs)).1 i r
unfolding steps
after_more zero n rs t i r h e u = after_records n rs t i r e u
after_more (suc m) zero rs t i r h e u = absurd (omega arith)
after_more (suc m) (suc n) [] t i r h e u = as_it_was t i r e u
after_more (suc m) (suc n) (x ∷ rs) t i r h e u = after_more m n rs (step t x.bytes x.held).1 i r (omega arith) e u

pub stays_admitted : StaysAdmitted
stays_admitted capture m n i r h e u = after_more m n (records_in capture) (replicate 64 unused) i r h e u
