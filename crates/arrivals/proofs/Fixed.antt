-- The claim fixes every answer and every record: two that meet it for one start table agree. Assumes nothing.
use Prim.Native.Nat.{ℕ, zero, suc}
use mathlib.Core.Path.{◌≡◌, refl, sym, ap, ◌∙◌, subst}
use mathlib.Core.Bool.{Bool, true, false, cond, ◌||◌, false≢true}
use mathlib.Core.List.{List, [], ◌∷◌}
use mathlib.Core.Option.{Option, none, some}
use native.Mathlib.Omega.{arith}
use borrow.Author.Tests.{eqb-true, eqb-false, eq-eqb}
use lib.Dec.{eqb}
use lib.ListN.{length, get_elem?}
use Rattle.stream.specs.declared.Record.{Record}
use Rattle.stream.specs.Answers.{Answer, id_of}
use Rattle.table.specs.Table.{Table, holds, any, place, number_with}
use Rattle.arrivals.specs.Arrivals.{Arrival, is_accepted, of_stream, StreamRecord, answers_to, Claim, run, ListsOfArrivals}
use Rattle.arrivals.proofs.Places.{held, stream_place, place_stream}
use Rattle.arrivals.proofs.Claim.{of_stream_lem, over_a_table, over_a_record}

-- lists with the same element at every place
same_places : {A : Type 0} (l m : List A) → ((i : ℕ) → get_elem? l i ≡ get_elem? m i) → l ≡ m
same_places [] [] h = refl
same_places [] (y ∷ m) h = let e = h 0 in let z : ◌≡◌ {A = ℕ} 0 1 = cc in absurd (omega arith)
same_places (x ∷ l) [] h = let e = h 0 in let z : ◌≡◌ {A = ℕ} 0 1 = cc in absurd (omega arith)
same_places (x ∷ l) (y ∷ m) h =
    let hd : x ≡ y = let e = h 0 in cc in
    let tl = same_places l m (λ i. h (suc i)) in
    λ i. hd i ∷ tl i

-- where a record at a place holds an id, one in the table does
any_there : (k : ℕ) (t : Table) (i : ℕ) (r : Record) → get_elem? t i ≡ some r → holds k r ≡ true → any (holds k) t ≡ true
unfolding any
any_there k [] i r e h = let z : ◌≡◌ {A = ℕ} 0 1 = cc in absurd (omega arith)
any_there k (s ∷ t) zero r e h = let z : s ≡ r = cc in rw (z, h)
any_there k (s ∷ t) (suc i) r e h = go (holds k s) (any_there k t i r e h)
  where
    go : (b : Bool) → any (holds k) t ≡ true → b || any (holds k) t ≡ true
    go true e = refl
    go false e = e

module _ (t : Table) where
  -- answers that agree for every stream and at every refused arrival
  record Agree (l : List Arrival) (xs ys : List Answer) : Type 0 where
    streams : (k i : ℕ) (r : Record) → StreamRecord t k i r → answers_to (of_stream t k) l xs ≡ answers_to (of_stream t k) l ys
    refused : (j n : ℕ) (a : Arrival) → get_elem? l j ≡ some a → number_with t a.frame ≡ suc n → get_elem? xs j ≡ get_elem? ys j

  module _ (own : (a : Arrival) → is_accepted t a ≡ true → (i : ℕ) × (r : Record) × StreamRecord t (id_of a.frame) i r) where
    -- the answers to the first arrival
    first_same : (a : Arrival) (l : List Arrival) (x y : Answer) (xs ys : List Answer) → Agree (a ∷ l) (x ∷ xs) (y ∷ ys) → x ≡ y
    unfolding answers_to
    first_same a l x y xs ys h = go (number_with t a.frame) refl
      where
        go : (n : ℕ) → number_with t a.frame ≡ n → x ≡ y
        go zero e =
            let s = own a (eq-eqb (number_with t a.frame) 0 e) in
            let p = of_stream_lem t a (id_of a.frame) e refl in
            let q = rw p at (h.streams (id_of a.frame) s.0 s.1 s.2) in
            cc
        go (suc n) e = let q = h.refused 0 n a refl e in cc

    -- and those to the others
    rest_agree : (a : Arrival) (l : List Arrival) (x y : Answer) (xs ys : List Answer) → Agree (a ∷ l) (x ∷ xs) (y ∷ ys) → Agree l xs ys
    unfolding answers_to
    rest_agree a l x y xs ys h =
        record {
          streams = λ k i r s. tails (of_stream t k a) (answers_to (of_stream t k) l xs) (answers_to (of_stream t k) l ys) (h.streams k i r s);
          refused = λ j n b e. h.refused (suc j) n b e;
        }
      where
        tails : (b : Bool) (us vs : List Answer) → cond b (x ∷ us) us ≡ cond b (y ∷ vs) vs → us ≡ vs
        tails true us vs e = cc
        tails false us vs e = e

    answers_same : (l : List Arrival) (xs ys : List Answer) → length xs ≡ length l → length ys ≡ length l → Agree l xs ys → xs ≡ ys
    answers_same [] [] [] p q h = refl
    answers_same [] [] (y ∷ ys) p q h = absurd (omega arith)
    answers_same [] (x ∷ xs) ys p q h = absurd (omega arith)
    answers_same (a ∷ l) [] ys p q h = absurd (omega arith)
    answers_same (a ∷ l) (x ∷ xs) [] p q h = absurd (omega arith)
    answers_same (a ∷ l) (x ∷ xs) (y ∷ ys) p q h =
        let hd = first_same a l x y xs ys h in
        let tl = answers_same l xs ys (omega arith) (omega arith) (rest_agree a l x y xs ys h) in
        λ i. hd i ∷ tl i

  -- the record of a stream at a place where r is: r, and the stream is the one whose id it holds
  stream_there : (k i : ℕ) (r q : Record) → get_elem? t i ≡ some r → StreamRecord t k i q → r ≡ q
  stream_there k i r q e s = let w = s.there in cc

  -- a place has a stream's record or none
  module _ (i : ℕ) {X : Type 0} (stream : (k : ℕ) (r : Record) → StreamRecord t k i r → X) (none-there : ((k : ℕ) (r : Record) → ¬ StreamRecord t k i r) → X) where
    at_lowest : (r : Record) → get_elem? t i ≡ some r → r.in_use ≡ true → (b : Bool) → eqb (place (holds r.id) t) i ≡ b → X
    at_lowest r e u true p =
        let s = place_stream r.id t (any_there r.id t i r e (held r.id r u refl)) in
        stream r.id s.0 (subst (λ (j : ℕ). StreamRecord t r.id j s.0) (eqb-true (place (holds r.id) t) i p) s.1)
    at_lowest r e u false p =
        none-there (λ k q s.
        let z : r.id ≡ k = ap (λ (x : Record). x.id) (stream_there k i r q e s) ∙ s.id in
        eqb-false (place (holds r.id) t) i p (rw z (stream_place k t i q s).1))

    when_used : (r : Record) → get_elem? t i ≡ some r → (b : Bool) → r.in_use ≡ b → X
    when_used r e true u = at_lowest r e u (eqb (place (holds r.id) t) i) refl
    when_used r e false u =
        none-there (λ k q s. false≢true (sym u ∙ ap (λ (x : Record). x.in_use) (stream_there k i r q e s) ∙ s.in_use))

    by_place : (o : Option Record) → get_elem? t i ≡ o → X
    by_place none e = none-there (λ k q s. let w = s.there in let z : ◌≡◌ {A = ℕ} 0 1 = cc in omega arith)
    by_place (some r) e = when_used r e r.in_use refl

  pub agree : (go other : List Arrival → List Answer × Table) → Claim t go → Claim t other → (l : List Arrival) → go l ≡ other l
  agree go other p q l =
      let answers : (go l).0 ≡ (other l).0 =
      answers_same p.admitted_stream l (go l).0 (other l).0 (p.one_each l) (q.one_each l)
      (record {
        streams = λ k i r s. p.stream_answers l k i r s ∙ sym (q.stream_answers l k i r s);
        refused = λ j n a e h. p.refused_answers l j n a e h ∙ sym (q.refused_answers l j n a e h);
      }) in
      let records : (go l).1 ≡ (other l).1 =
      same_places (go l).1 (other l).1 (λ i.
      by_place i
      (λ k r s. p.stream_record l k i r s ∙ sym (q.stream_record l k i r s))
      (λ h. p.other_records l i h ∙ sym (q.other_records l i h))
      (get_elem? t i) refl) in
      λ i. (answers i, records i)

-- the claim, of a table and of a record lent alone, and that it leaves nothing open
pub lists_of_arrivals : ListsOfArrivals
lists_of_arrivals =
    record {
      over_a_table = over_a_table;
      over_a_record = over_a_record;
      nothing_open = λ t go claim l. agree t go (run t) claim (over_a_table t) l;
    }
