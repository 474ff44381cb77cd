-- A newly admitted listener of one sender's successive frames raises no sequence or block flag. Assumes nothing.
use Prim.Native.Nat.{ℕ, zero, suc, ◌≤◌}
use mathlib.Core.Path.{◌≡◌, refl, sym, ap, ◌∙◌, subst}
use mathlib.Core.Bool.{Bool, true, false, cond, ◌||◌, false≢true}
use mathlib.Core.List.{List, [], ◌∷◌, ◌++◌}
use native.Mathlib.Omega.{arith}
use borrow.Author.Tests.{ltb-false, le-ltb, not-false}
use lib.ListN.{length, drop, set, length-set}
use Rattle.frame.specs.declared.layout.Fields.{Fields}
use Rattle.refusal.specs.Refusals.{first_of, if_accepted}
use Rattle.frame.specs.Checks.{refusal}
use Rattle.refusal.proofs.First.{clear, or_else}
use Rattle.writer.specs.declared.Sender.{Sender}
use Rattle.writer.specs.Writing.{write_refusal, advanced, writing}
use Rattle.round_trip.specs.ReadBack.{SenderTyped, GivenTyped, header_written, fields_written, frame_left}
use Rattle.round_trip.specs.Successive.{Call, successive, CallsTyped, Delivered, sender_after, Gapless}
use Rattle.round_trip.proofs.ReadBack.{left_bytes, fields_back}
use Rattle.round_trip.proofs.Gapless.{advanced_typed, gapless}
use Rattle.stream.specs.declared.Record.{Record}
use Rattle.stream.specs.Records.{admitted_within}
use Rattle.stream.specs.Answers.{Answer, answer_of, after, id_of}
use Rattle.stream.proofs.Laws.{Expects, expects_any, no_breaks, expects_next}
use Rattle.table.specs.Table.{Table, holds, is_unused, any, place, admit_checks, admit, number_with}
use Rattle.table.proofs.Receiving.{number_then}
use Rattle.arrivals.specs.Arrivals.{Arrival, run, of_stream, StreamRecord, those, answers_to, replay}
use Rattle.arrivals.specs.Listener.{OneId, Unbroken, frames, Listener}
use Rattle.arrivals.proofs.Places.{stream_place, one_higher}
use Rattle.arrivals.proofs.Claim.{of_stream_lem, over_a_table}

-- ---- the frames of a sender carry the id

abbrev OfId : ℕ → List (List ℕ) → Type 0
OfId k [] = Unit {0}
OfId k (f ∷ fs) = (id_of f ≡ k) × OfId k fs

-- a call that is answered n, where the frames of the calls after it carry the id
module _ (k : ℕ) (s : Sender) (c : Call) (cs : List Call) (sender : SenderTyped s) (given : GivenTyped c.given) (one : write_refusal c.given (length c.payload) (length c.out) ≡ 0 → c.given.stream.id ≡ k)
    (later : (t : Sender) → SenderTyped t → (fs : List (List ℕ)) → Delivered (successive t cs) fs → OfId k fs) where
  one_id : (n : ℕ) → write_refusal c.given (length c.payload) (length c.out) ≡ n → (fs : List (List ℕ))
      → Delivered (if_accepted n (frame_left s c.given c.payload c.out ∷ []) [] ++ successive (if_accepted n (advanced s c.given c.payload) s) cs) fs
      → OfId k fs
  unfolding id_of fields_written header_written
  one_id zero e [] h = absurd h
  one_id zero e (f ∷ fs) h =
      let g = c.given in
      let p = c.payload in (
        ap id_of (h.0.1 ∙ ap (λ (x : List ℕ). x ++ h.0.0) (left_bytes s g p c.out e)) ∙ ap (λ (x : Fields). x.header.stream.id) (fields_back s g p h.0.0 (length c.out) sender given e) ∙ one e,
        later (advanced s g p) (advanced_typed s g p) fs h.1,
      )
  one_id (suc n) e fs h = later s sender fs h

sent_ids : (k : ℕ) (s : Sender) (calls : List Call) → SenderTyped s → CallsTyped calls → OneId k calls → (fs : List (List ℕ)) → Delivered (successive s calls) fs → OfId k fs
unfolding successive writing
sent_ids k s [] sender given one [] h = tt
sent_ids k s [] sender given one (f ∷ fs) h = absurd h
sent_ids k s (c ∷ cs) sender given one fs h =
    one_id k s c cs sender given.0 one.0 (λ t typed rest. sent_ids k t cs typed given.1 one.1 rest) (write_refusal c.given (length c.payload) (length c.out)) refl fs h

-- from any one of them on
ids_drop : (k n : ℕ) (fs : List (List ℕ)) → OfId k fs → OfId k (drop n fs)
ids_drop k zero fs h = h
ids_drop k (suc n) [] h = tt
ids_drop k (suc n) (f ∷ fs) h = ids_drop k n fs h.1

gapless_drop : (n : ℕ) (s : Sender) (fs : List (List ℕ)) → Gapless s fs → (t : Sender) × Gapless t (drop n fs)
gapless_drop zero s fs h = (s, h)
gapless_drop (suc n) s [] h = (s, tt)
gapless_drop (suc n) s (f ∷ fs) h = gapless_drop n (sender_after s f) fs h.2

-- ---- the replay of a newly admitted record

unbroken : (r : Record) (s : Sender) (l : List Arrival) → Expects r s.sequence s.dbc → Gapless s (frames l) → Unbroken (replay r l).0
unfolding replay answer_of sender_after
unbroken r s [] x h = tt
unbroken r s (a ∷ l) x h =
    let q = no_breaks r a.frame a.time s.sequence s.dbc x h.1.sequence h.1.dbc in
    let y = expects_next r a.frame a.time s.sequence s.dbc x h.1.sequence h.1.dbc in
    ((refl, q.0, q.1), unbroken (after r a.frame a.time) (sender_after s a.frame) l y h.2)

-- ---- admission

neither : (b c : Bool) → b || c ≡ false → (b ≡ false) × (c ≡ false)
neither true c e = absurd (false≢true (sym e))
neither false c e = (refl, e)

module _ (k limit : ℕ) where
  abbrev new : Record
  new = admitted_within k limit

  new_record : (t : Table) → any (holds k) t ≡ false → any is_unused t ≡ true → StreamRecord (set t (place is_unused t) new) k (place is_unused t) new
  unfolding any place admitted_within
  new_record [] h u = absurd (false≢true u)
  new_record (s ∷ t) h u =
      let p = neither (holds k s) (any (holds k) t) h in
      go (λ v. new_record t p.1 v) p.0 (is_unused s) u
    where
      go : (any is_unused t ≡ true → StreamRecord (set t (place is_unused t) new) k (place is_unused t) new) → holds k s ≡ false
          → (b : Bool) → b || any is_unused t ≡ true
          → StreamRecord (set (s ∷ t) (cond b 0 (suc (place is_unused t))) new) k (cond b 0 (suc (place is_unused t))) new
      go ih e true v = record { there = refl; in_use = refl; id = refl; lowest = λ j q lt. absurd (omega arith) }
      go ih e false v = one_higher k s (set t (place is_unused t) new) (place is_unused t) new e (ih v)

-- what a table is after an admission
record Admitted (u : Table) (k limit : ℕ) : Type 0 where
  place : ℕ
  stream : StreamRecord u k place (admitted_within k limit)
  short : length u ≤ 64

admitted_table : (t : Table) (k limit : ℕ) → (admit limit t k).0 ≡ 0 → Admitted (admit limit t k).1 k limit
unfolding admit
admitted_table t k limit e =
    let c = clear (admit_checks limit t k) tt e in
    let i = place is_unused t in
    subst (λ (n : ℕ). Admitted (if_accepted n (set t i (new k limit)) t) k limit) (sym e)
    (record {
      place = i;
      stream = new_record k limit t c.1.0 (not-false (any is_unused t) c.1.1.1.0);
      short = rw (length-set t i (new k limit)) (ltb-false 64 (length t) c.0);
    })

-- ---- every frame is accepted

accepts : (u : Table) (frame : List ℕ) → length u ≤ 64 → refusal frame ≡ 0 → any (holds (id_of frame)) u ≡ true → number_with u frame ≡ 0
unfolding refusal or_else first_of
accepts u frame short e h = number_then u frame ∙ rw (le-ltb 64 (length u) short, e, h)

module _ (u : Table) (k limit : ℕ) (x : Admitted u k limit) where
  abbrev AllMine : List Arrival → Type 0
  AllMine [] = Unit {0}
  AllMine (a ∷ l) = (of_stream u k a ≡ true) × AllMine l

  all_mine : (s : Sender) (l : List Arrival) → Gapless s (frames l) → OfId k (frames l) → AllMine l
  all_mine s [] g h = tt
  all_mine s (a ∷ l) g h =
      let there : any (holds (id_of a.frame)) u ≡ true = rw h.0 (stream_place k u x.place (new k limit) x.stream).0 in
      (of_stream_lem u a k (accepts u a.frame x.short g.0 there) h.0, all_mine (sender_after s a.frame) l g.2 h.1)

  those_all : (l : List Arrival) → AllMine l → those (of_stream u k) l ≡ l
  unfolding those
  those_all [] h = refl
  those_all (a ∷ l) h = rw (h.0, those_all l h.1)

  answers_all : (l : List Arrival) (xs : List Answer) → AllMine l → length xs ≡ length l → answers_to (of_stream u k) l xs ≡ xs
  unfolding answers_to
  answers_all [] [] h e = refl
  answers_all [] (y ∷ xs) h e = absurd (omega arith)
  answers_all (a ∷ l) [] h e = absurd (omega arith)
  answers_all (a ∷ l) (y ∷ xs) h e = rw (h.0, answers_all l xs h.1 (omega arith))

  heard : (s : Sender) (l : List Arrival) → Gapless s (frames l) → OfId k (frames l) → Unbroken (run u l).0
  heard s l g h =
      let claim = over_a_table u in
      let mine = all_mine s l g h in
      let e : (run u l).0 ≡ (replay (new k limit) l).0 =
      sym (answers_all l (run u l).0 mine (claim.one_each l))
      ∙ claim.stream_answers l k x.place (new k limit) x.stream
      ∙ ap (λ (m : List Arrival). (replay (new k limit) m).0) (those_all l mine) in
      rw e (unbroken (new k limit) s l (expects_any k limit s.sequence s.dbc) g)

pub listener : Listener
listener t k limit e s calls sender given one received got n l from =
    let g = gapless_drop n s received (gapless s calls received sender given got) in
    let h = ids_drop k n received (sent_ids k s calls sender given one received got) in
    heard (admit limit t k).1 k limit (admitted_table t k limit e) g.0 l (rw from g.1) (rw from h)
