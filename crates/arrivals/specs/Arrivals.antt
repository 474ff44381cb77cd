-- Lists of arrivals, and the one claim about them (document 01, Lists of arrivals).
use Rattle.std.specs.Prelude.{ℕ, zero, suc, ◌+◌, ◌<◌, ◌≤◌, min, ◌≡◌, Bool, true, cond, ◌&&◌, List, [], ◌∷◌, ◌++◌, eqb, length}
use Rattle.std.proofs.Math.Option.{some}
use Rattle.std.proofs.Math.ListN.{get_elem?}
use Rattle.stream.specs.declared.Record.{Record}
use Rattle.stream.specs.declared.Counts.{Counts}
use Rattle.stream.specs.Records.{admitted}
use Rattle.stream.specs.Answers.{Answer, refused_with, answer_of, after, id_of}
use Rattle.table.specs.Table.{Table, number_with, receive, receive_alone}

-- a frame and the time L with which it comes
pub record Arrival : Type 0 where
  pub frame : List ℕ
  pub time : ℕ

-- ---- Receiving a list

-- the first arrival gets the start table, each later one the table that the one before left
unfoldable pub run : Table → List Arrival → List Answer × Table
run t [] = ([], t)
run t (a ∷ l) = (
  (receive t a.frame a.time).0 ∷ (run (receive t a.frame a.time).1 l).0,
  (run (receive t a.frame a.time).1 l).1,
)

-- the same for a record lent alone
unfoldable pub run_alone : Record → List Arrival → List Answer × Record
run_alone r [] = ([], r)
run_alone r (a ∷ l) = (
  (receive_alone r a.frame a.time).0 ∷ (run_alone (receive_alone r a.frame a.time).1 l).0,
  (run_alone (receive_alone r a.frame a.time).1 l).1,
)

-- ---- Whose an arrival is, by the start table t

-- accepted: none of the numbers that a received frame can be given applies
abbrev pub is_accepted : Table → Arrival → Bool
is_accepted t a = eqb (number_with t a.frame) 0

-- accepted, and of stream k
unfoldable pub of_stream : Table → ℕ → Arrival → Bool
of_stream t k a = is_accepted t a && eqb (id_of a.frame) k

-- both accepted, and of one stream
abbrev pub OneStream : Table → Arrival → Arrival → Type 0
OneStream t a b = (k : ℕ) × (of_stream t k a ≡ true) × (of_stream t k b ≡ true)

-- the record of stream k is r, at place i: it is in use and holds k, and none at a lower place does
pub record StreamRecord (t : Table) (k i : ℕ) (r : Record) : Type 0 where
  pub there : get_elem? t i ≡ some r
  pub in_use : r.in_use ≡ true
  pub id : r.id ≡ k
  pub lowest : (j : ℕ) (s : Record) → j < i → get_elem? t j ≡ some s → s.in_use ≡ true → s.id ≡ k → ⊥

-- the arrivals that pass a test, in their order, and the answers given to them
unfoldable pub those : (Arrival → Bool) → List Arrival → List Arrival
those p [] = []
those p (a ∷ l) = cond (p a) (a ∷ those p l) (those p l)

unfoldable pub answers_to : (Arrival → Bool) → List Arrival → List Answer → List Answer
answers_to p [] xs = []
answers_to p (a ∷ l) [] = []
answers_to p (a ∷ l) (x ∷ xs) = cond (p a) (x ∷ answers_to p l xs) (answers_to p l xs)

-- ---- Replay: a stream's record fed with accepted frames and their L, and nothing else (document 01's book)

unfoldable pub replay : Record → List Arrival → List Answer × Record
replay r [] = ([], r)
replay r (a ∷ l) = (
  answer_of r a.frame a.time ∷ (replay (after r a.frame a.time) l).0,
  (replay (after r a.frame a.time) l).1,
)

-- ---- Exchange: the elements at places n and n + 1 change places

unfoldable pub swap {ℓ} : {A : Type ℓ} → ℕ → List A → List A
swap n [] = []
swap zero (x ∷ []) = x ∷ []
swap zero (x ∷ y ∷ l) = y ∷ x ∷ l
swap (suc n) (x ∷ l) = x ∷ swap n l

-- ---- Counts: how many answers pass a test; the five counts of a record e are the counts c before it and those of the answers xs, up to
-- 4,294,967,295

unfoldable pub how_many : (Answer → Bool) → List Answer → ℕ
how_many f [] = 0
how_many f (x ∷ xs) = cond (f x) (suc (how_many f xs)) (how_many f xs)

abbrev cap : ℕ
cap = 4_294_967_295

abbrev capped : ℕ → ℕ
capped n = min cap n

-- as every record that a caller lends: its counts are 32 bits wide
abbrev pub WithinCap : Counts → Type 0
WithinCap c = (c.frames ≤ cap) × (c.sequence_breaks ≤ cap) × (c.block_breaks ≤ cap) × (c.format_changes ≤ cap) × (c.mr_changes ≤ cap)

pub record Counted (c : Counts) (e : Record) (xs : List Answer) : Type 0 where
  pub frames : e.counts.frames ≡ capped (c.frames + length xs)
  pub sequence_breaks : e.counts.sequence_breaks ≡ capped (c.sequence_breaks + how_many (λ x. x.flags.sequence) xs)
  pub block_breaks : e.counts.block_breaks ≡ capped (c.block_breaks + how_many (λ x. x.flags.block) xs)
  pub format_changes : e.counts.format_changes ≡ capped (c.format_changes + how_many (λ x. x.flags.format) xs)
  pub mr_changes : e.counts.mr_changes ≡ capped (c.mr_changes + how_many (λ x. x.flags.mr) xs)

-- ---- The claim, of a start table t and of the answers and the table that `go` gives for a list of arrivals

pub record Claim (t : Table) (go : List Arrival → List Answer × Table) : Type 0 where
  -- each arrival has one answer, and the table keeps its length
  pub one_each : (l : List Arrival) → length (go l).0 ≡ length l
  pub same_length : (l : List Arrival) → length (go l).1 ≡ length t
  -- the stream of an accepted arrival has a record in the start table
  pub admitted_stream : (a : Arrival) → is_accepted t a ≡ true → (i : ℕ) × (r : Record) × StreamRecord t (id_of a.frame) i r
  -- the answers to a stream's accepted arrivals equal the replay's in every part, in order; its record, at its place, is the replay's
  pub stream_answers : (l : List Arrival) (k i : ℕ) (r : Record) → StreamRecord t k i r
      → answers_to (of_stream t k) l (go l).0 ≡ (replay r (those (of_stream t k) l)).0
  pub stream_record : (l : List Arrival) (k i : ℕ) (r : Record) → StreamRecord t k i r
      → get_elem? (go l).1 i ≡ some (replay r (those (of_stream t k) l)).1
  -- a refused arrival's answer is the first number that applies to it with the start table, the rest zero, no or empty
  pub refused_answers : (l : List Arrival) (j n : ℕ) (a : Arrival) → get_elem? l j ≡ some a → number_with t a.frame ≡ suc n
      → get_elem? (go l).0 j ≡ some (refused_with (suc n))
  -- a record that is no stream's record ends as it started
  pub other_records : (l : List Arrival) (i : ℕ) → ((k : ℕ) (r : Record) → ¬ StreamRecord t k i r) → get_elem? (go l).1 i ≡ get_elem? t i
  -- two neighbours that are not both accepted and of one stream change places: each keeps its answer, and every record ends the same
  pub exchange : (before : List Arrival) (a b : Arrival) (rest : List Arrival) → ¬ OneStream t a b
      → go (before ++ b ∷ a ∷ rest) ≡ (swap (length before) (go (before ++ a ∷ b ∷ rest)).0, (go (before ++ a ∷ b ∷ rest)).1)
  -- each count goes up by the number of the stream's accepted frames, or of those with that flag
  pub counts : (l : List Arrival) (k i : ℕ) (r e : Record) → StreamRecord t k i r → WithinCap r.counts → get_elem? (go l).1 i ≡ some e
      → Counted r.counts e (answers_to (of_stream t k) l (go l).0)
  -- and so since admission it is that number
  pub since_admission : (l : List Arrival) (k i : ℕ) (e : Record) → StreamRecord t k i (admitted k) → get_elem? (go l).1 i ≡ some e
      → Counted (record { frames = 0; sequence_breaks = 0; block_breaks = 0; format_changes = 0; mr_changes = 0 }) e
      (answers_to (of_stream t k) l (go l).0)

-- demand 3: for every start table, and for every record lent alone as a table of one; and the claim leaves nothing open
pub record ListsOfArrivals : Type 0 where
  pub over_a_table : (t : Table) → Claim t (run t)
  pub over_a_record : (r : Record) → Claim (r ∷ []) (λ l. ((run_alone r l).0, (run_alone r l).1 ∷ []))
  -- whatever meets the claim gives every answer and every record as `run` does
  pub nothing_open : (t : Table) (go : List Arrival → List Answer × Table) → Claim t go → (l : List Arrival) → go l ≡ run t l
