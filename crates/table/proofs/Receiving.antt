-- What a frame is answered with a table, from what the reader said of it and what the search for its stream found.
-- Assumes nothing.
use Prim.Native.Nat.{ℕ, zero, suc}
use mathlib.Core.Path.{◌≡◌, refl, sym, ap, ◌∙◌}
use mathlib.Core.Bool.{Bool, true, false, not, cond}
use mathlib.Core.List.{List, [], ◌∷◌}
use native.Mathlib.Omega.{arith}
use lib.Dec.{ltb}
use lib.ListN.{length, set}
use Rattle.refusal.specs.declared.Refusal.{Refusal}
use Rattle.refusal.specs.declared.Refusal.TheVariants.{NotAdmitted}
use Rattle.frame.specs.declared.layout.Fields.{Fields}
use Rattle.std.specs.Prelude.{Result, Ok, Err, Some, None, position}
use Rattle.frame.specs.Layout.{fields_of}
use Rattle.refusal.specs.Refusals.{number_of, ◌answers◌, first_of}
use Rattle.frame.specs.Checks.{frame_checks, refusal}
use Rattle.frame.specs.Reading.{ReadAnswer, reading_by, reading, read_answer}
use Rattle.refusal.proofs.First.{positive, or_else, both, then}
use Rattle.stream.specs.declared.Record.{Record}
use Rattle.frame.proofs.Groups.{frame_numbered}
use Rattle.stream.specs.Answers.{answer_of, after, id_of, receipt_answer}
use Rattle.frame.proofs.Answers.{data_payload}
use Rattle.stream.specs.Answers.{step_of}
use Rattle.table.specs.Table.{Table, any, place, holds, at, number_with, receive, receive_alone, only, Receives, ReceivesAlone}
use Rattle.table.specs.Private.{reading_for, served, judged}
use Rattle.stream.specs.declared.Judged.{Judged}
use Rattle.table.proofs.Searched.{searched, found_at, found_none}
use Rattle.table.proofs.Changing.{long, stopped, passed}

-- ---- the number, from the reader's and the search's
-- before the table is searched
abbrev pub number_before : ℕ → List ℕ → ℕ
number_before n frame = first_of (long n ∷ frame_checks frame)

abbrev pub unadmitted : Bool → ℕ
unadmitted found = cond (not found) 15 0

pub number_then : (t : Table) (frame : List ℕ) → number_with t frame ≡ or_else (number_before (length t) frame) (unadmitted (any (holds (id_of frame)) t))
unfolding number_with first_of
number_then t frame = then (long (length t) ∷ frame_checks frame) (not (any (holds (id_of frame)) t) answers 15 ∷ []) (frame_numbered frame)

-- an accepted frame's stream is admitted
pub number_any : (t : Table) (frame : List ℕ) → number_with t frame ≡ 0 → any (holds (id_of frame)) t ≡ true
number_any t frame e =
    go (any (holds (id_of frame)) t) (both (number_before (length t) frame) (unadmitted (any (holds (id_of frame)) t)) (sym (number_then t frame) ∙ e)).1
  where
    go : (b : Bool) → unadmitted b ≡ 0 → b ≡ true
    go true e = refl
    go false e = absurd (omega arith)

past_20 : (b : Bool) (n : ℕ) → cond b 20 n ≡ 0 → n ≡ 0
past_20 true n e = absurd (omega (arith, e))
past_20 false n e = e

-- ---- what the reader said
refused_as : (n : ℕ) (frame : List ℕ) (r : Refusal) → read_answer (Err r) ≡ reading_by n frame → n ≡ number_of r
refused_as n frame r e = ap (λ (a : ReadAnswer). a.number) (sym e)

accepted_as : (n : ℕ) (f : Fields) (frame : List ℕ) → read_answer (Ok f) ≡ reading_by n frame → (n ≡ 0) × (f ≡ fields_of frame)
accepted_as zero f frame e = (refl, ap (λ (a : ReadAnswer). a.fields) e)
accepted_as (suc n) f frame e = let same : 0 ≡ suc n = ap (λ (a : ReadAnswer). a.number) e in absurd (omega (arith, same))

-- `read_for`: past 64 records, and up to them
pub too_long_reading : (n : ℕ) (frame : List ℕ) (r : Refusal) → number_of r ≡ first_of (long n ∷ []) → read_answer (Err r) ≡ reading_for n frame
unfolding reading_for
too_long_reading n frame r e = let p = positive r in rw (← stopped (long n) tt (frame_checks frame) r e, p.1) refl

pub short_enough : (n : ℕ) (frame : List ℕ) → 0 ≡ first_of (long n ∷ []) → reading frame ≡ reading_for n frame
unfolding reading_for reading refusal
short_enough n frame e = ap (λ (m : ℕ). reading_by m frame) (passed (long n) tt (frame_checks frame) (first_of (frame_checks frame)) e refl)

-- an accepted frame that was read is served by the step of its bytes
module _ (r : Record) (frame : List ℕ) (L : ℕ) (accepted : refusal frame ≡ 0) where
  served_after : (served r (fields_of frame) frame L).after ≡ after r frame L
  unfolding served after step_of
  served_after = rw (data_payload frame accepted)

  served_answer : receipt_answer (Ok (judged (fields_of frame) (served r (fields_of frame) frame L))) frame ≡ answer_of r frame L
  unfolding served answer_of step_of
  served_answer = rw (data_payload frame accepted)

-- ---- the answer and the table afterwards
module _ (t : Table) (frame : List ℕ) (L : ℕ) where
  refuses : (r : Refusal) → number_with t frame ≡ number_of r → Receives t frame L (Err r) t
  unfolding receive
  refuses r e = let p = positive r in record { answer = rw (e, p.1); table = rw (e, p.1) }

  accepts : number_with t frame ≡ 0 → (i : ℕ) → place (holds (id_of frame)) t ≡ i → (answer_of (at t i) frame L ≡ (receive t frame L).0) × (set t i (after (at t i) frame L) ≡ (receive t frame L).1)
  unfolding receive
  accepts e i p = (rw (e, p), rw (e, p))

  pub receives_refused : (r : Refusal) → read_answer (Err r) ≡ reading_for (length t) frame → Receives t frame L (Err r) t
  unfolding reading_for or_else
  receives_refused r e = let p = positive r in refuses r (rw (number_then t frame, refused_as (number_before (length t) frame) frame r e, p.1))

  -- past the reader the search for the frame's stream decides
  module _ (f : Fields) (e : read_answer (Ok f) ≡ reading_for (length t) frame) where
    abbrev id : ℕ
    id = f.header.stream.id

    accepted : (number_before (length t) frame ≡ 0) × (f ≡ fields_of frame)
    unfolding reading_for
    accepted = accepted_as (number_before (length t) frame) f frame e

    same_id : id ≡ id_of frame
    unfolding id_of
    same_id = ap (λ (g : Fields). g.header.stream.id) accepted.1

    decided : (b : Bool) → any (holds id) t ≡ b → number_with t frame ≡ unadmitted b
    unfolding or_else
    decided b h = rw (number_then t frame, accepted.0, ← same_id, h)

    pub receives_unadmitted : position (holds id) t ≡ None → (r : Refusal) → number_of r ≡ 15 → Receives t frame L (Err r) t
    receives_unadmitted none r n = refuses r (decided false (found_none (holds id) t none) ∙ sym n)

    pub receives_served : (i : ℕ) → position (holds id) t ≡ Some i
        → Receives t frame L (Ok (judged f (served (at t i) f frame L))) (set t i (served (at t i) f frame L).after)
    unfolding first_of refusal
    receives_served i h =
        let found = found_at (holds id) t h in
        let there : place (holds (id_of frame)) t ≡ i = rw (← same_id) found.1 in
        let by_number = accepts (decided true found.0) i there in
        let read : refusal frame ≡ 0 = past_20 (ltb 64 (length t)) (refusal frame) accepted.0 in
        record {
          answer = ap (λ (g : Fields). receipt_answer (Ok (judged g (served (at t i) g frame L))) frame) accepted.1 ∙ served_answer (at t i) frame L read ∙ by_number.0;
          table = ap (λ (g : Fields). set t i (served (at t i) g frame L).after) accepted.1 ∙ ap (set t i) (served_after (at t i) frame L read) ∙ by_number.1;
        }

-- ---- a record lent alone
found_alone : (id : ℕ) (last : Record) (b : Bool) → holds id last ≡ b → position (holds id) (last ∷ []) ≡ cond b (Some 0) None
unfolding any place
found_alone id last true e = searched (holds id) (last ∷ []) ∙ rw e refl
found_alone id last false e = searched (holds id) (last ∷ []) ∙ rw e refl

module _ (last : Record) (frame : List ℕ) (L : ℕ) where
  alone : (q : Result Judged Refusal) (r : Record) → Receives (last ∷ []) frame L q (r ∷ []) → ReceivesAlone last frame L q r
  unfolding receive_alone
  alone q r h = record { answer = h.answer; lent = ap only h.table }

  pub alone_refused : (r : Refusal) → read_answer (Err r) ≡ reading_for 1 frame → ReceivesAlone last frame L (Err r) last
  alone_refused r e = alone (Err r) last (receives_refused (last ∷ []) frame L r e)

  module _ (f : Fields) (e : read_answer (Ok f) ≡ reading_for 1 frame) where
    pub alone_unadmitted : holds f.header.stream.id last ≡ false → ReceivesAlone last frame L (Err NotAdmitted) last
    alone_unadmitted h =
        alone (Err NotAdmitted) last (receives_unadmitted (last ∷ []) frame L f e (found_alone f.header.stream.id last false h) NotAdmitted refl)

    pub alone_served : holds f.header.stream.id last ≡ true
        → ReceivesAlone last frame L (Ok (judged f (served last f frame L))) (served last f frame L).after
    alone_served h =
        alone (Ok (judged f (served last f frame L))) (served last f frame L).after
        (receives_served (last ∷ []) frame L f e 0 (found_alone f.header.stream.id last true h))
