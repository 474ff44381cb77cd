-- Only a stream's own answers read its limit: both tables give what the replay of the one record gives. Assumes nothing.
use Prim.Native.Nat.{ℕ}
use mathlib.Core.Path.{◌≡◌, refl, sym, ap, ◌∙◌, fun_ext}
use mathlib.Core.Bool.{Bool, ◌&&◌}
use mathlib.Core.List.{List, [], ◌∷◌}
use mathlib.Core.Option.{some}
use lib.Dec.{eqb}
use lib.ListN.{get_elem?}
use lib.Seq.{map-set_same}
use Rattle.stream.specs.declared.Record.{Record}
use Rattle.stream.specs.Records.{unused, admitted_within}
use Rattle.stream.specs.Answers.{Answer, after, id_of}
use Rattle.stream.proofs.Laws.{after_limit}
use Rattle.table.specs.Table.{Table, at, admit, remove, number_with, receive}
use Rattle.arrivals.specs.Arrivals.{Arrival, run, of_stream, StreamRecord, those, answers_to, replay}
use Rattle.arrivals.specs.Limits.{ids_in, limits_in, OwnLimits}
use Rattle.arrivals.proofs.Places.{key, length_same, held_same, unused_same, number_same, Verdict, refused, accepted, verdict, serve, receive_serve}
use Rattle.arrivals.proofs.Claim.{from_zero, over_a_table}

-- ---- two tables with the same ids

module _ (t u : Table) (e : ids_in t ≡ ids_in u) where
  received_same : (frame : List ℕ) → number_with t frame ≡ number_with u frame
  unfolding key
  received_same = number_same t u e

  admission_same : (limit id : ℕ) → (admit limit t id).0 ≡ (admit limit u id).0
  unfolding key admit
  admission_same limit id = rw (length_same t u e, held_same t u e id, unused_same t u e)

  removal_same : (id : ℕ) → (remove t id).0 ≡ (remove u id).0
  unfolding key remove
  removal_same id = rw (length_same t u e, held_same t u e id)

module _ (t u : Table) (e : ids_in t ≡ ids_in u) (k i : ℕ) (r : Record) (x : StreamRecord t k i r) (y : StreamRecord u k i r) (l : List Arrival) where
  same_stream : of_stream t k ≡ of_stream u k
  unfolding of_stream
  same_stream = fun_ext (λ a. ap (λ (n : ℕ). eqb n 0 && eqb (id_of a.frame) k) (received_same t u e a.frame))

  answers_same : answers_to (of_stream t k) l (run t l).0 ≡ answers_to (of_stream u k) l (run u l).0
  answers_same =
      (over_a_table t).stream_answers l k i r x
      ∙ ap (λ (p : Arrival → Bool). (replay r (those p l)).0) same_stream
      ∙ sym ((over_a_table u).stream_answers l k i r y)

  record_same : get_elem? (run t l).1 i ≡ get_elem? (run u l).1 i
  record_same =
      (over_a_table t).stream_record l k i r x
      ∙ ap (λ (p : Arrival → Bool). some (replay r (those p l)).1) same_stream
      ∙ sym ((over_a_table u).stream_record l k i r y)

-- ---- no arrival changes a limit

serve_limits : (t : Table) (a : Arrival) (v : Verdict) → limits_in (serve t a v).1 ≡ limits_in t
unfolding serve
serve_limits t a (refused n) = refl
serve_limits t a (accepted i) = map-set_same (λ (r : Record). r.limit) t i (after (at t i) a.frame a.time) unused (after_limit (at t i) a.frame a.time)

limits_kept : (t : Table) (l : List Arrival) → limits_in (run t l).1 ≡ limits_in t
unfolding run
limits_kept t [] = refl
limits_kept t (a ∷ l) =
    limits_kept (receive t a.frame a.time).1 l
    ∙ ap (λ (x : Answer × Table). limits_in x.1) (receive_serve t a)
    ∙ serve_limits t a (verdict t a)

pub own_limits : OwnLimits
own_limits =
    record {
      received = received_same;
      admission = admission_same;
      removal = removal_same;
      answers = answers_same;
      record_after = record_same;
      kept = limits_kept;
      since_admission = λ t l k i limit e x p. from_zero k limit (λ within. (over_a_table t).counts l k i (admitted_within k limit) e x within p);
    }
