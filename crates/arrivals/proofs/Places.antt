-- Places of a list, and what a verdict sees of a table: nothing but which records are in use, and their ids. Assumes nothing.
use Prim.Native.Nat.{ℕ, zero, suc, ◌<◌}
use mathlib.Core.Path.{◌≡◌, refl, sym, ap, ◌∙◌}
use mathlib.Core.Logic.{◌≢◌}
use mathlib.Core.Bool.{Bool, true, false, not, cond, ◌&&◌, ◌||◌, false≢true}
use mathlib.Core.List.{List, [], ◌∷◌, map}
use mathlib.Core.Option.{some}
use native.Mathlib.Omega.{arith}
use lib.Dec.{eqb}
use lib.ListN.{length, get_or, set, get_elem?, length-map}
use lib.Seq.{map-set_same}
use borrow.Author.Tests.{eqb-true, eq-eqb}
use Rattle.refusal.specs.Refusals.{if_accepted}
use Rattle.stream.specs.declared.Record.{Record}
use Rattle.stream.specs.Records.{unused}
use Rattle.stream.specs.Answers.{Answer, refused_with, answer_of, after, id_of}
use Rattle.stream.proofs.Laws.{after_in_use, after_id}
use Rattle.table.specs.Table.{Table, holds, is_unused, any, place, at, number_with, receive}
use Rattle.arrivals.specs.Arrivals.{Arrival, StreamRecord}

-- ---- a list's place

module _ {A : Type 0} where
  pub at_get_or : (l : List A) (i : ℕ) (x d : A) → get_elem? l i ≡ some x → get_or l i d ≡ x
  at_get_or [] i x d e = cc
  at_get_or (y ∷ l) zero x d e = cc
  at_get_or (y ∷ l) (suc i) x d e = at_get_or l i x d e

  pub at_set_same : (l : List A) (i : ℕ) (x y : A) → get_elem? l i ≡ some x → get_elem? (set l i y) i ≡ some y
  at_set_same [] i x y e = cc
  at_set_same (z ∷ l) zero x y e = refl
  at_set_same (z ∷ l) (suc i) x y e = at_set_same l i x y e

  pub at_set_other : (l : List A) (i j : ℕ) (y : A) → i ≢ j → get_elem? (set l j y) i ≡ get_elem? l i
  at_set_other [] i j y h = refl
  at_set_other (z ∷ l) zero zero y h = absurd (h refl)
  at_set_other (z ∷ l) zero (suc j) y h = refl
  at_set_other (z ∷ l) (suc i) zero y h = refl
  at_set_other (z ∷ l) (suc i) (suc j) y h = at_set_other l i j y (λ e. h (ap suc e))

-- ---- whether a record holds an id

pub and_both : (b c : Bool) → b && c ≡ true → (b ≡ true) × (c ≡ true)
and_both true c e = (refl, e)
and_both false c e = absurd (false≢true e)

pub held : (k : ℕ) (r : Record) → r.in_use ≡ true → r.id ≡ k → holds k r ≡ true
held k r u e = rw u (eq-eqb r.id k e)

held_by_lem : (k : ℕ) (r : Record) → holds k r ≡ true → (r.in_use ≡ true) × (r.id ≡ k)
held_by_lem k r h = let p = and_both r.in_use (eqb r.id k) h in (p.0, eqb-true r.id k p.1)

-- ---- the record of a stream is the one at the lowest place that holds its id

module _ (k : ℕ) where
  abbrev Placed : Bool → Table → ℕ → Type 0
  Placed b t i = (b || any (holds k) t ≡ true) × (cond b 0 (suc (place (holds k) t)) ≡ i)

  pub stream_place : (t : Table) (i : ℕ) (r : Record) → StreamRecord t k i r → (any (holds k) t ≡ true) × (place (holds k) t ≡ i)
  unfolding any place
  stream_place [] i r h = let e = h.there in let z : ◌≡◌ {A = ℕ} 0 1 = cc in absurd (omega arith)
  stream_place (s ∷ t) zero r h =
      let e : s ≡ r = let q = h.there in cc in
      let b : holds k s ≡ true = rw e (held k r h.in_use h.id) in
      (rw b, rw b)
  stream_place (s ∷ t) (suc i) r h =
      go (stream_place t i r (record { there = h.there; in_use = h.in_use; id = h.id; lowest = λ j q lt. h.lowest (suc j) q (omega arith) })) (holds k s) refl
    where
      go : (any (holds k) t ≡ true) × (place (holds k) t ≡ i) → (b : Bool) → holds k s ≡ b → Placed b t (suc i)
      go ih true e = let p = held_by_lem k s e in absurd (h.lowest 0 s (omega arith) refl p.0 p.1)
      go ih false e = (ih.0, ap suc ih.1)

  pub one_higher : (s : Record) (t : Table) (i : ℕ) (r : Record) → holds k s ≡ false → StreamRecord t k i r → StreamRecord (s ∷ t) k (suc i) r
  one_higher s t i r h x = record { there = x.there; in_use = x.in_use; id = x.id; lowest = low }
    where
      low : (j : ℕ) (q : Record) → j < suc i → get_elem? (s ∷ t) j ≡ some q → q.in_use ≡ true → q.id ≡ k → ⊥
      low zero q lt e u v =
          let z : s ≡ q = cc in
          false≢true (sym h ∙ rw z (held k q u v))
      low (suc j) q lt e u v = x.lowest j q (omega arith) e u v

  pub place_stream : (t : Table) → any (holds k) t ≡ true → (r : Record) × StreamRecord t k (place (holds k) t) r
  unfolding any place
  place_stream [] e = absurd (false≢true e)
  place_stream (s ∷ t) e = go (place_stream t) (holds k s) refl e
    where
      go : (any (holds k) t ≡ true → (r : Record) × StreamRecord t k (place (holds k) t) r) → (b : Bool) → holds k s ≡ b → b || any (holds k) t ≡ true
          → (r : Record) × StreamRecord (s ∷ t) k (cond b 0 (suc (place (holds k) t))) r
      go ih true h e =
          let p = held_by_lem k s h in
          (s, record { there = refl; in_use = p.0; id = p.1; lowest = λ j x lt. absurd (omega arith) })
      go ih false h e = let x = ih e in (x.0, one_higher s t (place (holds k) t) x.0 h x.1)

-- two streams have two records
pub one_stream : (t : Table) (k m i : ℕ) (r q : Record) → StreamRecord t k i r → StreamRecord t m i q → k ≡ m
one_stream t k m i r q x y =
    let u = x.there in
    let v = y.there in
    let e : r ≡ q = cc in
    sym x.id ∙ ap (λ (z : Record). z.id) e ∙ y.id

-- ---- verdicts

-- an arrival is refused with a number, or accepted for the record at a place
pub data Verdict : Type 0 where
  refused : ℕ → Verdict
  accepted : ℕ → Verdict

unfoldable pub verdict : Table → Arrival → Verdict
verdict t a = let n = number_with t a.frame in if_accepted n (accepted (place (holds (id_of a.frame)) t)) (refused n)

-- what is answered for a verdict, and the table afterwards
unfoldable pub serve : Table → Arrival → Verdict → Answer × Table
serve t a (refused n) = (refused_with n, t)
serve t a (accepted i) = (answer_of (at t i) a.frame a.time, set t i (after (at t i) a.frame a.time))

pub receive_serve : (t : Table) (a : Arrival) → receive t a.frame a.time ≡ serve t a (verdict t a)
unfolding receive serve verdict
receive_serve t a = go (number_with t a.frame)
  where
    go : (n : ℕ) → let i = place (holds (id_of a.frame)) t in (if_accepted n (answer_of (at t i) a.frame a.time) (refused_with n), if_accepted n (set t i (after (at t i) a.frame a.time)) t) ≡ serve t a (if_accepted n (accepted i) (refused n))
    go zero = refl
    go (suc n) = refl

pub refused_verdict : (t : Table) (a : Arrival) (n : ℕ) → number_with t a.frame ≡ suc n → verdict t a ≡ refused (suc n)
unfolding verdict
refused_verdict t a n e = rw e

-- where an arrival is accepted, none of the numbers applies, and the place is that of its stream's record
pub accepted_number : (t : Table) (a : Arrival) (i : ℕ) → verdict t a ≡ accepted i → number_with t a.frame ≡ 0
unfolding verdict
accepted_number t a i e = go (number_with t a.frame) e
  where
    go : (n : ℕ) → if_accepted n (accepted (place (holds (id_of a.frame)) t)) (refused n) ≡ accepted i → n ≡ 0
    go zero e = refl
    go (suc n) e = let z : ◌≡◌ {A = ℕ} 0 1 = cc in absurd (omega arith)

pub number_place : (t : Table) (a : Arrival) → number_with t a.frame ≡ 0 → verdict t a ≡ accepted (place (holds (id_of a.frame)) t)
unfolding verdict
number_place t a e = rw e

-- ---- a verdict goes by the keys alone, and no call changes a key

-- what a step keeps of a record
unfoldable pub key : Record → Bool × ℕ
key r = (r.in_use, r.id)

after_key : (r : Record) (frame : List ℕ) (L : ℕ) → key (after r frame L) ≡ key r
unfolding key
after_key r frame L i = (after_in_use r frame L i, after_id r frame L i)

holds_key : ℕ → Bool × ℕ → Bool
holds_key k x = x.0 && eqb x.1 k

unused_key : Bool × ℕ → Bool
unused_key x = not x.0

-- a search by a test of the keys
module _ (p : Bool × ℕ → Bool) where
  any_key : List (Bool × ℕ) → Bool
  any_key [] = false
  any_key (x ∷ l) = p x || any_key l

  place_key : List (Bool × ℕ) → ℕ
  place_key [] = 0
  place_key (x ∷ l) = cond (p x) 0 (suc (place_key l))

  any_key_lem : (t : Table) → any (λ r. p (key r)) t ≡ any_key (map key t)
  unfolding any any_key
  any_key_lem [] = refl
  any_key_lem (r ∷ t) = ap (λ (b : Bool). p (key r) || b) (any_key_lem t)

  place_key_lem : (t : Table) → place (λ r. p (key r)) t ≡ place_key (map key t)
  unfolding place place_key
  place_key_lem [] = refl
  place_key_lem (r ∷ t) = ap (λ (n : ℕ). cond (p (key r)) 0 (suc n)) (place_key_lem t)

module _ (t u : Table) (e : map key t ≡ map key u) where
  pub length_same : length t ≡ length u
  length_same = sym (length-map t key) ∙ ap length e ∙ length-map u key

  any_same : (p : Bool × ℕ → Bool) → any (λ r. p (key r)) t ≡ any (λ r. p (key r)) u
  any_same p = any_key_lem p t ∙ ap (any_key p) e ∙ sym (any_key_lem p u)

  pub held_same : (k : ℕ) → any (holds k) t ≡ any (holds k) u
  unfolding holds_key key
  held_same k = any_same (holds_key k)

  pub unused_same : any is_unused t ≡ any is_unused u
  unfolding unused_key key
  unused_same = any_same unused_key

  place_same : (k : ℕ) → place (holds k) t ≡ place (holds k) u
  unfolding holds_key key
  place_same k = place_key_lem (holds_key k) t ∙ ap (place_key (holds_key k)) e ∙ sym (place_key_lem (holds_key k) u)

  pub number_same : (frame : List ℕ) → number_with t frame ≡ number_with u frame
  unfolding number_with
  number_same frame = rw (length_same, held_same (id_of frame))

  pub verdict_same : (a : Arrival) → verdict t a ≡ verdict u a
  unfolding verdict
  verdict_same a = rw (number_same a.frame, place_same (id_of a.frame))

pub serve_keys : (t : Table) (a : Arrival) (v : Verdict) → map key (serve t a v).1 ≡ map key t
unfolding serve
serve_keys t a (refused n) = refl
serve_keys t a (accepted i) = map-set_same key t i (after (at t i) a.frame a.time) unused (after_key (at t i) a.frame a.time)
