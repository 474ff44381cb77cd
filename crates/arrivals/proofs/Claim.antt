-- The claim about lists of arrivals, for every start table and for every record lent alone. Assumes nothing.
use Prim.Native.Nat.{ℕ, suc}
use mathlib.Core.Path.{◌≡◌, refl, sym, ap, ◌∙◌, subst, fun_ext}
use mathlib.Core.Logic.{◌≢◌}
use mathlib.Core.Bool.{true, false, false≢true}
use mathlib.Core.List.{List, [], ◌∷◌}
use mathlib.Core.Option.{some}
use native.Mathlib.Omega.{arith}
use lib.Dec.{lit≤, eqb}
use lib.ListN.{length, get_elem?}
use borrow.Author.Tests.{eqb-true, eq-eqb}
use Rattle.stream.specs.declared.Counts.{Counts}
use Rattle.presentation.specs.Presentation.{largest_limit}
use Rattle.stream.specs.Records.{no_counts, admitted_within, admitted}
use Rattle.stream.proofs.Laws.{admitted_counts}
use Rattle.stream.specs.declared.Record.{Record}
use Rattle.stream.specs.Answers.{Answer, id_of}
use Rattle.table.specs.Table.{Table, holds, place, only, number_with, receive, receive_alone}
use Rattle.table.proofs.Lengths.{length_receive}
use Rattle.arrivals.specs.Arrivals.{Arrival, run, run_alone, is_accepted, of_stream, OneStream, StreamRecord, those, answers_to, replay, WithinCap, Counted, Claim}
use Rattle.table.proofs.Receiving.{number_any}
use Rattle.arrivals.proofs.Places.{and_both, stream_place, place_stream, one_stream, accepted, verdict, refused_verdict, accepted_number, number_place}
use Rattle.arrivals.proofs.Directed.{directed, run_directed, one_answer_each, length_kept, place_kept, refused_at, as_replay, exchange_answers, exchange_table}
use Rattle.arrivals.proofs.Counts.{replay_counted}

-- ---- a newly admitted stream has counted nothing, whatever its limit

pub from_zero : (k limit : ℕ) {e : Record} {xs : List Answer} → (WithinCap (admitted_within k limit).counts → Counted (admitted_within k limit).counts e xs) → Counted no_counts e xs
from_zero k limit {e} {xs} counted =
    subst (λ (c : Counts). Counted c e xs) (admitted_counts k limit) (counted (rw (admitted_counts k limit) (lit≤ tt, lit≤ tt, lit≤ tt, lit≤ tt, lit≤ tt)))

-- ---- an accepted arrival is accepted at the place of its stream's record

module _ (t : Table) (a : Arrival) where
  accepted_stream : number_with t a.frame ≡ 0 → (r : Record) × StreamRecord t (id_of a.frame) (place (holds (id_of a.frame)) t) r
  accepted_stream e = place_stream (id_of a.frame) t (number_any t a.frame e)

  -- at the place i, where the verdict says so
  accepted_at : (i : ℕ) → verdict t a ≡ accepted i → (r : Record) × StreamRecord t (id_of a.frame) i r
  accepted_at i p =
      let n = accepted_number t a i p in
      let q = number_place t a n in
      let e : place (holds (id_of a.frame)) t ≡ i = cc in
      subst (λ (j : ℕ). (r : Record) × StreamRecord t (id_of a.frame) j r) e (accepted_stream n)

  pub of_stream_lem : (k : ℕ) → number_with t a.frame ≡ 0 → id_of a.frame ≡ k → of_stream t k a ≡ true
  unfolding of_stream
  of_stream_lem k n e = rw (n, eq-eqb (id_of a.frame) k e)

  stream_of_lem : (k : ℕ) → of_stream t k a ≡ true → (number_with t a.frame ≡ 0) × (id_of a.frame ≡ k)
  unfolding of_stream
  stream_of_lem k e =
      let p = and_both (eqb (number_with t a.frame) 0) (eqb (id_of a.frame) k) e in
      (eqb-true (number_with t a.frame) 0 p.0, eqb-true (id_of a.frame) k p.1)

-- ---- a stream's arrivals are those accepted at its record's place

module _ (t : Table) (k i : ℕ) (r : Record) (x : StreamRecord t k i r) where
  mine : (a : Arrival) → of_stream t k a ≡ true → verdict t a ≡ accepted i
  mine a e =
      let p = stream_of_lem t a k e in
      let q = stream_place k t i r x in
      number_place t a p.0 ∙ ap accepted (rw p.1 q.1)

  others : (a : Arrival) → of_stream t k a ≡ false → verdict t a ≢ accepted i
  others a e p =
      let y = accepted_at t a i p in
      let z = one_stream t (id_of a.frame) k i y.0 r y.1 x in
      let w = of_stream_lem t a k (accepted_number t a i p) z in
      false≢true (sym e ∙ w)

  stream_replay : (l : List Arrival)
      → (answers_to (of_stream t k) l (directed (verdict t) t l).0 ≡ (replay r (those (of_stream t k) l)).0)
      × (get_elem? (directed (verdict t) t l).1 i ≡ some (replay r (those (of_stream t k) l)).1)
  stream_replay l = as_replay (verdict t) (of_stream t k) i mine others t r l x.there

-- ---- over a table

module _ (t : Table) where
  admitted_stream : (a : Arrival) → is_accepted t a ≡ true → (i : ℕ) × (r : Record) × StreamRecord t (id_of a.frame) i r
  admitted_stream a h =
      let x = accepted_stream t a (eqb-true (number_with t a.frame) 0 h) in
      (place (holds (id_of a.frame)) t, x.0, x.1)

  no_stream : (i : ℕ) → ((k : ℕ) (r : Record) → ¬ StreamRecord t k i r) → (a : Arrival) → verdict t a ≢ accepted i
  no_stream i h a p = let x = accepted_at t a i p in h (id_of a.frame) x.0 x.1

  apart : (a b : Arrival) → ¬ OneStream t a b → (i : ℕ) → verdict t a ≡ accepted i → verdict t b ≡ accepted i → ⊥
  apart a b h i p q =
      let x = accepted_at t a i p in
      let y = accepted_at t b i q in
      let e = one_stream t (id_of b.frame) (id_of a.frame) i y.0 x.0 y.1 x.1 in
      h (id_of a.frame, of_stream_lem t a (id_of a.frame) (accepted_number t a i p) refl, of_stream_lem t b (id_of a.frame) (accepted_number t b i q) e)

  stream_counts : (l : List Arrival) (k i : ℕ) (r e : Record) → StreamRecord t k i r → WithinCap r.counts → get_elem? (directed (verdict t) t l).1 i ≡ some e
      → Counted r.counts e (answers_to (of_stream t k) l (directed (verdict t) t l).0)
  stream_counts l k i r e x h p =
      let q = stream_replay t k i r x l in
      let w = q.1 in
      let z : e ≡ (replay r (those (of_stream t k) l)).1 = cc in
      rw (z, q.0) (replay_counted r (those (of_stream t k) l) h)

  directed_claim : Claim t (directed (verdict t) t)
  directed_claim =
      record {
        one_each = one_answer_each (verdict t) t;
        same_length = length_kept (verdict t) t;
        admitted_stream = admitted_stream;
        stream_answers = λ l k i r x. (stream_replay t k i r x l).0;
        stream_record = λ l k i r x. (stream_replay t k i r x l).1;
        refused_answers = λ l m n a e h. refused_at (verdict t) t l m (suc n) a e (refused_verdict t a n h);
        other_records = λ l i h. place_kept (verdict t) t l i (no_stream i h);
        exchange = λ before a b rest h i.
            (exchange_answers (verdict t) a b rest (apart a b h) t before i, exchange_table (verdict t) a b rest (apart a b h) t before i);
        counts = stream_counts;
        since_admission = λ l k i e x p. from_zero k largest_limit (λ within. stream_counts l k i (admitted k) e x within p);
      }

  pub over_a_table : Claim t (run t)
  over_a_table = subst (Claim t) (sym (fun_ext (run_directed t t refl))) directed_claim

-- ---- over a record lent alone, which is a table of one

single : (t : Table) → length t ≡ 1 → only t ∷ [] ≡ t
single [] e = let z : ◌≡◌ {A = ℕ} 0 1 = e in absurd (omega arith)
single (r ∷ []) e = refl
single (r ∷ q ∷ t) e = absurd (omega arith)

run_alone_lem : (r : Record) (l : List Arrival) → run (r ∷ []) l ≡ ((run_alone r l).0, (run_alone r l).1 ∷ [])
unfolding run run_alone receive_alone
run_alone_lem r [] = refl
run_alone_lem r (a ∷ l) =
    let x = receive (r ∷ []) a.frame a.time in
    rw (← single x.1 (length_receive (r ∷ []) a.frame a.time), run_alone_lem (only x.1) l)

pub over_a_record : (r : Record) → Claim (r ∷ []) (λ l. ((run_alone r l).0, (run_alone r l).1 ∷ []))
over_a_record r = subst (Claim (r ∷ [])) (fun_ext (run_alone_lem r)) (over_a_table (r ∷ []))
