-- A capture without kind 5 lists as it would without limits: no record in use has another limit than the largest. Assumes nothing.
use Rattle.std.proofs.Common.{◌≡◌, ℕ, zero, suc, Bool, true, false, cond, ◌&&◌, ◌||◌, eqb, List, [], ◌∷◌, ◌++◌, length, take, drop, set, replicate, sym, refl, ap, ◌∙◌, subst}
use mathlib.Core.Bool.{false≢true}
use Rattle.capture.specs.Records.{Held, damaged, arrival, admission, Front, end, cut, whole, frame_in, entry_of}
use Rattle.capture.specs.Walk.{walk_by, walk_from, walk, records_in}
use Rattle.capture.proofs.Limits.{largest_but_5}
use Rattle.capture.proofs.Kept.{kept}
use Rattle.capture.proofs.Steps.{record_step}
use Rattle.refusal.specs.Refusals.{if_accepted, first_of}
use Rattle.presentation.specs.declared.Kind.{Kind}
use Rattle.presentation.specs.declared.Kind.TheVariants.{None, Cut, Outside, Late, Ahead, Unclear, Far}
use Rattle.presentation.specs.declared.Stamp.{Stamp}
use Rattle.presentation.specs.declared.Stamp.TheVariants.{Absent, Short, Present}
use Rattle.presentation.specs.Presentation.{largest_limit, timing, stamp_of, timing_of, presentation_within, presentation}
use Rattle.presentation.proofs.Limits.{far_above_limit}
use Rattle.tally.specs.Tally.{same_kind}
use Rattle.stream.specs.declared.Record.{Record}
use Rattle.stream.specs.Records.{unused, admitted_within}
use Rattle.stream.specs.Step.{stepped}
use Rattle.stream.specs.Answers.{Answer, refused_with, step_of, answer_of, after, id_of}
use Rattle.stream.proofs.Laws.{admitted_limit, after_limit}
use Rattle.table.specs.Table.{Table, holds, is_unused, any, place, at, admit_checks, admit, number_with, receive}
use Rattle.table.proofs.Receiving.{number_any}
use Rattle.lines.specs.Lines.{Line, admitted, refused, frame}
use Rattle.listing.specs.Listing.{Said, said_of, step, visit}
use Rattle.listing.specs.Unlimited.{unlimited, unlimited_step, NoneIs5, is_far, NoneIsFar, UnlimitedWithout5}

-- ---- tables without limits

abbrev FreeRecord : Record → Type 0
FreeRecord r = r.in_use ≡ true → r.limit ≡ largest_limit

abbrev Free : Table → Type 0
Free [] = Unit {0}
Free (r ∷ t) = FreeRecord r × Free t

free_set : (t : Table) (i : ℕ) (r : Record) → Free t → FreeRecord r → Free (set t i r)
free_set [] i r f g = tt
free_set (s ∷ t) zero r f g = (g, f.1)
free_set (s ∷ t) (suc i) r f g = (f.0, free_set t i r f.1 g)

free_unused : FreeRecord unused
unfolding unused
free_unused u = absurd (false≢true u)

free_start : (n : ℕ) → Free (replicate n unused)
free_start zero = tt
free_start (suc n) = (free_unused, free_start n)

-- the record of an admitted stream has the largest limit
free_at : (t : Table) (id : ℕ) → Free t → any (holds id) t ≡ true → (at t (place (holds id) t)).limit ≡ largest_limit
unfolding any place
free_at [] id f a = absurd (false≢true a)
free_at (r ∷ t) id f a = go (free_at t id f.1) r.in_use (eqb r.id id) refl a
  where
    go : (any (holds id) t ≡ true → (at t (place (holds id) t)).limit ≡ largest_limit) → (used same : Bool) → r.in_use ≡ used
        → (used && same) || any (holds id) t ≡ true → (at (r ∷ t) (cond (used && same) 0 (suc (place (holds id) t)))).limit ≡ largest_limit
    go later true true u a = f.0 u
    go later true false u a = later a
    go later false same u a = later a

-- an admission, by its number
admitted_free : (t : Table) (n i : ℕ) (r : Record) → Free t → FreeRecord r → Free (if_accepted n (set t i r) t)
admitted_free t zero i r f g = free_set t i r f g
admitted_free t (suc n) i r f g = f

-- ---- one record

-- what is said of it is the same, and the table afterwards has no limits either
record Same (t : Table) (bytes : List ℕ) (held : Held) : Type 0 where
  pub said : step t bytes held ≡ unlimited_step t bytes held
  pub free : Free (step t bytes held).1

same_arrival : (t : Table) (bytes : List ℕ) (L : ℕ) → Free t → Same t bytes (arrival L)
unfolding receive answer_of refused_with step_of stepped
same_arrival t bytes L f = record { said = λ i. (said (number_with t frame) refl i, (received (number_with t frame)).1); free = free_after (number_with t frame) refl }
  where
    frame : List ℕ
    frame = frame_in bytes

    home : ℕ
    home = place (holds (id_of frame)) t

    -- by the number
    received : ℕ → Answer × Table
    received n = (if_accepted n (answer_of (at t home) frame L) (refused_with n), if_accepted n (set t home (after (at t home) frame L)) t)

    said : (n : ℕ) → number_with t frame ≡ n → said_of (received n).0 ≡ said_of (unlimited L (received n).0)
    said (suc n) e = refl
    said zero e = rw (free_at t (id_of frame) f (number_any t frame e))

    free_after : (n : ℕ) → number_with t frame ≡ n → Free (received n).1
    free_after (suc n) e = f
    free_after zero e = free_set t home (after (at t home) frame L) f (λ u. after_limit (at t home) frame L ∙ free_at t (id_of frame) f (number_any t frame e))

same : (t : Table) (bytes : List ℕ) (held : Held) → Free t → ((id limit : ℕ) → held ≡ admission id limit → limit ≡ largest_limit) → Same t bytes held
unfolding admit
same t bytes (damaged n) f l = record { said = refl; free = f }
same t bytes (arrival L) f l = same_arrival t bytes L f
same t bytes (admission id limit) f l =
    record {
      said = ap (λ (n : ℕ). step t bytes (admission id n)) (l id limit refl);
      free = admitted_free t (first_of (admit_checks limit t id)) (place is_unused t) (admitted_within id limit) f (λ u. admitted_limit id limit ∙ l id limit refl);
    }

-- ---- all of them

same_walk : (k : ℕ) (rest : List ℕ) (t : Table) → Free t → NoneIs5 (walk_from record_step k rest tt).0 → walk_from step k rest t ≡ walk_from unlimited_step k rest t
unfolding walk_from
same_walk zero rest t f none = refl
same_walk (suc k) rest t f none = by_front (same_walk k) (entry_of rest) refl none
  where
    by_front : ((rest : List ℕ) (t : Table) → Free t → NoneIs5 (walk_from record_step k rest tt).0 → walk_from step k rest t ≡ walk_from unlimited_step k rest t)
        → (front : Front) → entry_of rest ≡ front → NoneIs5 (walk_by record_step (walk_from record_step k) rest tt front).0
        → walk_by step (walk_from step k) rest t front ≡ walk_by unlimited_step (walk_from unlimited_step k) rest t front
    by_front onward end e none = refl
    by_front onward cut e none = refl
    by_front onward (whole size held) e none =
        let one = same t (take size rest) held f (λ id limit h. largest_but_5 rest size id limit (e ∙ ap (whole size) h) none.0) in
        let more = onward (drop size rest) (step t (take size rest) held).1 one.free none.1 in
        ap (λ (w : List Said × Table). ((step t (take size rest) held).0 ∷ w.0, w.1)) more
        ∙ ap (λ (a : Said × Table). let b = walk_from unlimited_step k (drop size rest) a.1 in (a.0 ∷ b.0, b.1)) one.said

same_visit : (capture : List ℕ) → NoneIs5 (records_in capture) → visit capture ≡ walk unlimited_step capture (replicate 64 unused)
unfolding visit walk records_in
same_visit capture none = same_walk (length capture) capture (replicate 64 unused) (free_start 64) none

-- ---- no line shows a frame as far

-- the time of a reading without a record is never far
not_far : (L : ℕ) (s : Stamp) → same_kind (timing_of largest_limit L s).kind Far ≡ false
not_far L Absent = refl
not_far L Short = refl
not_far L (Present T) = by_kind (timing L T).kind (far_above_limit.never L T)
  where
    by_kind : (kind : Kind) → (kind ≡ Far → ⊥) → same_kind kind Far ≡ false
    by_kind None h = refl
    by_kind Cut h = refl
    by_kind Outside h = refl
    by_kind Late h = refl
    by_kind Ahead h = refl
    by_kind Unclear h = refl
    by_kind Far h = absurd (h refl)

-- a line that shows none, or a refusal
by_number : (n : ℕ) (line : Line) → is_far line ≡ false → is_far (if_accepted n line (refused n)) ≡ false
by_number zero line h = h
by_number (suc n) line h = refl

line_not_far : (t : Table) (bytes : List ℕ) (held : Held) → is_far (unlimited_step t bytes held).0.line ≡ false
unfolding presentation_within
line_not_far t bytes (damaged n) = refl
line_not_far t bytes (arrival L) =
    let a = (receive t (frame_in bytes) L).0 in
    by_number a.number (frame a.fields.header.stream.tag a.flags (presentation L a.fields a.payload)) (not_far L (stamp_of a.fields a.payload))
line_not_far t bytes (admission id limit) = by_number (admit largest_limit t id).0 admitted refl

none_more : (xs : List Said) (x : Said) → NoneIsFar xs → is_far x.line ≡ false → NoneIsFar (xs ++ (x ∷ []))
none_more [] x h e = (e, tt)
none_more (y ∷ xs) x h e = (h.0, none_more xs x h.1 e)

pub unlimited_without_5 : UnlimitedWithout5
unlimited_without_5 =
    record {
      same = same_visit;
      none_far = λ capture none. subst (λ (w : List Said × Table). NoneIsFar w.0) (sym (same_visit capture none))
          (kept unlimited_step (λ said t. NoneIsFar said) (λ said t bytes held h. none_more said (unlimited_step t bytes held).0 h (line_not_far t bytes held)) capture (replicate 64 unused) tt);
    }
