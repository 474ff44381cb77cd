-- Tables of stream records: admission, removal and receiving (document 01, Stream records and Numbers answered; request #107).
use Rattle.std.specs.Prelude.{ℕ, suc, ◌≡◌, Bool, false, not, cond, ◌&&◌, ◌||◌, List, [], ◌∷◌, ◌++◌, eqb, ltb, length, get_or, set, Result}
use Rattle.refusal.specs.declared.Refusal.{Refusal}
use Rattle.refusal.specs.Refusals.{verdict_number, if_accepted, Check, ◌answers◌, first_of}
use Rattle.frame.specs.Checks.{frame_checks}
use Rattle.stream.specs.declared.Record.{Record}
use Rattle.presentation.specs.Presentation.{largest_limit}
use Rattle.stream.specs.Records.{unused, admitted_within}
use Rattle.stream.specs.declared.Judged.{Judged}
use Rattle.stream.specs.Answers.{Answer, refused_with, answer_of, after, id_of, receipt_answer}

abbrev pub Table : Type 0
Table = List Record

-- ---- Searching

-- the record is in use and holds the id
abbrev pub holds : ℕ → Record → Bool
holds id r = r.in_use && eqb r.id id

abbrev pub is_unused : Record → Bool
is_unused r = not r.in_use

-- is there a record for which the test holds?
unfoldable pub any : (Record → Bool) → Table → Bool
any p [] = false
any p (r ∷ t) = p r || any p t

-- the lowest place of such a record
unfoldable pub place : (Record → Bool) → Table → ℕ
place p [] = 0
place p (r ∷ t) = cond (p r) 0 (suc (place p t))

-- the record at a place
abbrev pub at : Table → ℕ → Record
at t i = get_or t i unused

-- ---- Admission and removal

-- with a limit of its own: "24 limit too large, after 21 and before 22" (request #107)
abbrev pub admit_checks : ℕ → Table → ℕ → List Check
admit_checks limit t id =
    ltb 64 (length t) answers 20
    ∷ any (holds id) t answers 21
    ∷ ltb largest_limit limit answers 24
    ∷ not (any is_unused t) answers 22
    ∷ []

abbrev pub remove_checks : Table → ℕ → List Check
remove_checks t id =
    ltb 64 (length t) answers 20
    ∷ not (any (holds id) t) answers 23
    ∷ []

-- the number answered, and the table afterwards: the unused record with the lowest place is taken
unfoldable pub admit : ℕ → Table → ℕ → ℕ × Table
admit limit t id =
    let n = first_of (admit_checks limit t id) in
    (n, if_accepted n (set t (place is_unused t) (admitted_within id limit)) t)

-- the record that holds the id is unused again
unfoldable pub remove : Table → ℕ → ℕ × Table
remove t id =
    let n = first_of (remove_checks t id) in
    (n, if_accepted n (set t (place (holds id) t) unused) t)

-- the number of what a change answers
abbrev pub change_number : Result (Unit {0}) Refusal → ℕ
change_number c = verdict_number c

-- what a call answers and leaves: c is the answer, t' the table afterwards, by the rule of admission or of removal
pub record ChangedBy (rule : Table → ℕ → ℕ × Table) (t : Table) (id : ℕ) (c : Result (Unit {0}) Refusal) (t' : Table) : Type 0 where
  pub number : change_number c ≡ (rule t id).0
  pub table : t' ≡ (rule t id).1

-- ---- Receiving

-- 20 before all else, then the reader's numbers, then 15
abbrev pub receive_checks : Table → List ℕ → List Check
receive_checks t frame =
    ltb 64 (length t) answers 20
    ∷ frame_checks frame
    ++ not (any (holds (id_of frame)) t) answers 15
    ∷ []

-- the number that a frame gets with the table t, 0 where it is accepted
unfoldable pub number_with : Table → List ℕ → ℕ
number_with t frame = first_of (receive_checks t frame)

-- what is answered, and the table afterwards: the record of the frame's stream takes the step
unfoldable pub receive : Table → List ℕ → ℕ → Answer × Table
receive t frame L =
    let n = number_with t frame in
    let i = place (holds (id_of frame)) t in
    (if_accepted n (answer_of (at t i) frame L) (refused_with n), if_accepted n (set t i (after (at t i) frame L)) t)

-- what a call answers and leaves: r is the receipt, t' the table afterwards
pub record Receives (t : Table) (frame : List ℕ) (L : ℕ) (r : Result Judged Refusal) (t' : Table) : Type 0 where
  pub answer : receipt_answer r frame ≡ (receive t frame L).0
  pub table : t' ≡ (receive t frame L).1

-- ---- A record lent alone is a table of one

abbrev pub only : Table → Record
only t = at t 0

unfoldable pub receive_alone : Record → List ℕ → ℕ → Answer × Record
receive_alone r frame L = ((receive (r ∷ []) frame L).0, only (receive (r ∷ []) frame L).1)

-- what a call answers and leaves: q is the receipt, r' the record afterwards
pub record ReceivesAlone (r : Record) (frame : List ℕ) (L : ℕ) (q : Result Judged Refusal) (r' : Record) : Type 0 where
  pub answer : receipt_answer q frame ≡ (receive_alone r frame L).0
  pub lent : r' ≡ (receive_alone r frame L).1
