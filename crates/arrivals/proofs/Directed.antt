-- A run whose verdicts are given. `run` is one, since no call changes a verdict; each part of the claim is shown of such a run.
-- Assumes nothing.
use Prim.Native.Nat.{ℕ, zero, suc}
use mathlib.Core.Path.{◌≡◌, refl, sym, ap, ◌∙◌}
use mathlib.Core.Logic.{◌≢◌}
use mathlib.Core.Bool.{Bool, true, false, cond}
use mathlib.Core.List.{List, [], ◌∷◌, ◌++◌, map}
use mathlib.Core.Option.{some}
use lib.ListN.{length, set, get_elem?, length-set}
use lib.Seq.{get_or-set_other, set_comm}
use Rattle.stream.specs.declared.Record.{Record}
use Rattle.stream.specs.Records.{unused}
use Rattle.stream.specs.Answers.{Answer, refused_with, answer_of, after}
use Rattle.table.specs.Table.{Table, at}
use Rattle.arrivals.specs.Arrivals.{Arrival, run, replay, those, answers_to, swap}
use Rattle.arrivals.proofs.Places.{at_get_or, at_set_same, at_set_other, Verdict, refused, accepted, verdict, serve, receive_serve, key, verdict_same, serve_keys}

-- the verdicts are j's, whatever the table has become
pub directed : (Arrival → Verdict) → Table → List Arrival → List Answer × Table
directed j t [] = ([], t)
directed j t (a ∷ l) = ((serve t a (j a)).0 ∷ (directed j (serve t a (j a)).1 l).0, (directed j (serve t a (j a)).1 l).1)

pub run_directed : (t u : Table) → map key u ≡ map key t → (l : List Arrival) → run u l ≡ directed (verdict t) u l
unfolding run directed
run_directed t u e [] = refl
run_directed t u e (a ∷ l) =
    rw (receive_serve u a, verdict_same u t e a, run_directed t (serve u a (verdict t a)).1 (serve_keys u a (verdict t a) ∙ e) l)

module _ (j : Arrival → Verdict) where
  pub one_answer_each : (u : Table) (l : List Arrival) → length (directed j u l).0 ≡ length l
  unfolding directed
  one_answer_each u [] = refl
  one_answer_each u (a ∷ l) = ap suc (one_answer_each (serve u a (j a)).1 l)

  serve_length : (u : Table) (a : Arrival) (v : Verdict) → length (serve u a v).1 ≡ length u
  unfolding serve
  serve_length u a (refused n) = refl
  serve_length u a (accepted i) = length-set u i (after (at u i) a.frame a.time)

  pub length_kept : (u : Table) (l : List Arrival) → length (directed j u l).1 ≡ length u
  unfolding directed
  length_kept u [] = refl
  length_kept u (a ∷ l) = length_kept (serve u a (j a)).1 l ∙ serve_length u a (j a)

  -- a call leaves every place but the accepted one
  serve_other : (u : Table) (a : Arrival) (v : Verdict) (i : ℕ) → v ≢ accepted i → get_elem? (serve u a v).1 i ≡ get_elem? u i
  unfolding serve
  serve_other u a (refused n) i h = refl
  serve_other u a (accepted m) i h = at_set_other u i m (after (at u m) a.frame a.time) (λ e. h (ap accepted (sym e)))

  pub place_kept : (u : Table) (l : List Arrival) (i : ℕ) → ((a : Arrival) → j a ≢ accepted i) → get_elem? (directed j u l).1 i ≡ get_elem? u i
  unfolding directed
  place_kept u [] i h = refl
  place_kept u (a ∷ l) i h = place_kept (serve u a (j a)).1 l i h ∙ serve_other u a (j a) i (h a)

  pub refused_at : (u : Table) (l : List Arrival) (m n : ℕ) (a : Arrival) → get_elem? l m ≡ some a → j a ≡ refused n
      → get_elem? (directed j u l).0 m ≡ some (refused_with n)
  unfolding directed serve
  refused_at u [] m n a e h = cc
  refused_at u (b ∷ l) zero n a e h =
      let z : b ≡ a = cc in
      rw (z, h)
  refused_at u (b ∷ l) (suc m) n a e h = refused_at (serve u b (j b)).1 l m n a e h

  -- p tells the arrivals that are accepted at place i: their answers, and the record there, are the replay's
  module _ (p : Arrival → Bool) (i : ℕ) (mine : (a : Arrival) → p a ≡ true → j a ≡ accepted i) (others : (a : Arrival) → p a ≡ false → j a ≢ accepted i) where
    abbrev AsReplay : Table → Record → List Arrival → Type 0
    AsReplay u r l =
        (answers_to p l (directed j u l).0 ≡ (replay r (those p l)).0)
        × (get_elem? (directed j u l).1 i ≡ some (replay r (those p l)).1)

    -- the same of a ∷ l, one call further, where the test of a gives b and the verdict is v
    abbrev Next : Table → Record → Arrival → List Arrival → Bool → Verdict → Type 0
    Next u r a l b v =
        (cond b ((serve u a v).0 ∷ answers_to p l (directed j (serve u a v).1 l).0) (answers_to p l (directed j (serve u a v).1 l).0)
        ≡ (replay r (cond b (a ∷ those p l) (those p l))).0)
        × (get_elem? (directed j (serve u a v).1 l).1 i ≡ some (replay r (cond b (a ∷ those p l) (those p l))).1)

    next_replay : (u : Table) (r : Record) (a : Arrival) (l : List Arrival) → get_elem? u i ≡ some r
        → ((u' : Table) (r' : Record) → get_elem? u' i ≡ some r' → AsReplay u' r' l) → (b : Bool) (v : Verdict) → p a ≡ b → j a ≡ v → Next u r a l b v
    unfolding serve replay
    next_replay u r a l e ih true v h k =
        let r' = after r a.frame a.time in
        let q = ih (set u i r') r' (at_set_same u i r r' e) in
        rw (sym k ∙ mine a h, at_get_or u i r unused e) (ap (λ (xs : List Answer). answer_of r a.frame a.time ∷ xs) q.0, q.1)
    next_replay u r a l e ih false v h k = ih (serve u a v).1 r (serve_other u a v i (λ m. others a h (k ∙ m)) ∙ e)

    pub as_replay : (u : Table) (r : Record) (l : List Arrival) → get_elem? u i ≡ some r → AsReplay u r l
    unfolding directed answers_to those replay
    as_replay u r [] e = (refl, e)
    as_replay u r (a ∷ l) e = next_replay u r a l e (λ u' r' e'. as_replay u' r' l e') (p a) (j a) refl refl

-- two calls that are not accepted at one place may change places
module _ (u : Table) (a b : Arrival) where
  abbrev Exchanged : Verdict → Verdict → Type 0
  Exchanged v w =
      ((serve (serve u b w).1 a v).0 ≡ (serve u a v).0)
      × ((serve (serve u a v).1 b w).0 ≡ (serve u b w).0)
      × ((serve (serve u b w).1 a v).1 ≡ (serve (serve u a v).1 b w).1)

  serve_exchange : (v w : Verdict) → ((i : ℕ) → v ≡ accepted i → w ≡ accepted i → ⊥) → Exchanged v w
  unfolding serve
  serve_exchange (refused n) (refused m) h = (refl, refl, refl)
  serve_exchange (refused n) (accepted m) h = (refl, refl, refl)
  serve_exchange (accepted i) (refused m) h = (refl, refl, refl)
  serve_exchange (accepted i) (accepted m) h =
      let ne : i ≢ m = λ e. h i refl (ap accepted (sym e)) in
      let en : m ≢ i = λ e. ne (sym e) in
      let ra = after (at u i) a.frame a.time in
      let rb = after (at u m) b.frame b.time in
      let p = get_or-set_other u m i rb unused ne in
      let q = get_or-set_other u i m ra unused en in
      (rw p, rw q, rw (p, q) (set_comm u m i rb ra en))

module _ (j : Arrival → Verdict) (a b : Arrival) (rest : List Arrival) (apart : (i : ℕ) → j a ≡ accepted i → j b ≡ accepted i → ⊥) where
  pub exchange_answers : (u : Table) (before : List Arrival)
      → (directed j u (before ++ b ∷ a ∷ rest)).0 ≡ swap (length before) (directed j u (before ++ a ∷ b ∷ rest)).0
  unfolding directed swap
  exchange_answers u [] =
      let q = serve_exchange u a b (j a) (j b) apart in
      rw (q.0, q.1, q.2)
  exchange_answers u (c ∷ before) =
      ap (λ (xs : List Answer). (serve u c (j c)).0 ∷ xs) (exchange_answers (serve u c (j c)).1 before)

  pub exchange_table : (u : Table) (before : List Arrival)
      → (directed j u (before ++ b ∷ a ∷ rest)).1 ≡ (directed j u (before ++ a ∷ b ∷ rest)).1
  unfolding directed
  exchange_table u [] = ap (λ (t : Table). (directed j t rest).1) (serve_exchange u a b (j a) (j b) apart).2
  exchange_table u (c ∷ before) = exchange_table (serve u c (j c)).1 before
