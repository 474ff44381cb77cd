-- Records of which none is listed as admitted: the frames among them are a list of arrivals, and the others change nothing. Assumes nothing.
use Prim.Native.Nat.{ℕ, zero, suc}
use mathlib.Core.Path.{◌≡◌, refl, sym, ap, ◌∙◌, subst}
use mathlib.Core.Bool.{Bool, true, false, cond, ◌||◌, false≢true}
use mathlib.Core.List.{List, [], ◌∷◌, ◌++◌, map}
use mathlib.Core.Option.{some}
use native.Mathlib.Omega.{arith}
use lib.ListN.{take, drop, set, get_elem?, replicate}
use Rattle.refusal.specs.Refusals.{first_of, if_accepted}
use Rattle.capture.specs.Records.{Held, damaged, arrival, admission, frame_in}
use Rattle.capture.specs.Walk.{CaptureRecord, records_in, steps}
use Rattle.capture.proofs.Steps.{walk_steps, steps_later}
use Rattle.stream.specs.Records.{unused, admitted_within}
use Rattle.stream.specs.Answers.{Answer}
use Rattle.table.specs.Table.{Table, is_unused, place, admit_checks, admit, receive}
use Rattle.arrivals.specs.Arrivals.{Arrival, run}
use Rattle.arrivals.proofs.Claim.{over_a_table}
use Rattle.listing.specs.Listing.{Said, said_of, admission_line, step, visit}
use Rattle.capture_arrivals.specs.LastAdmission.{is_admitted, some_admitted, up_to_admission, arrival_by, arrival_in, arrivals_in, answers_in, said_in, FramesAsArrivals, table_after, AfterLastAdmission}

-- ---- a record that is not listed as admitted

-- neither the first of some records nor a later one is
module _ (t : Table) (bytes : List ℕ) (held : Held) (rs : List CaptureRecord) where
  abbrev a : Said × Table
  a = step t bytes held

  abbrev first : Bool
  first = is_admitted a.0.line

  abbrev later : Bool
  later = some_admitted (steps step a.1 rs).0

  neither : first || later ≡ false → (first ≡ false) × (later ≡ false)
  neither = or_false first later
    where
      or_false : (a b : Bool) → a || b ≡ false → (a ≡ false) × (b ≡ false)
      or_false true b e = absurd (false≢true (sym e))
      or_false false b e = (refl, e)

-- an admission that is not listed so leaves the table
refused_admission : (t : Table) (id limit : ℕ) → is_admitted (admission_line (admit limit t id).0) ≡ false → (admit limit t id).1 ≡ t
unfolding admit
refused_admission t id limit h = go (first_of (admit_checks limit t id)) h
  where
    go : (n : ℕ) → is_admitted (admission_line n) ≡ false → if_accepted n (set t (place is_unused t) (admitted_within id limit)) t ≡ t
    go zero h = absurd (false≢true (sym h))
    go (suc n) h = refl

-- and so does every record that holds no frame
unchanged : (t : Table) (bytes : List ℕ) (held : Held) → is_admitted (step t bytes held).0.line ≡ false → arrival_by bytes held ≡ [] → (step t bytes held).1 ≡ t
unchanged t bytes (damaged n) h e = refl
unchanged t bytes (arrival L) h e = let z : ◌≡◌ {A = ℕ} 0 1 = cc in absurd (omega arith)
unchanged t bytes (admission id limit) h e = refused_admission t id limit h

-- ---- such records, from the table t on

-- a list of arrivals l, the answers ys to them, what is said of them, xs, and the table u that is left
record IsRun (t : Table) (l : List Arrival) (ys : List Answer) (xs : List Said) (u : Table) : Type 0 where
  pub answers : ys ≡ (run t l).0
  pub lines : xs ≡ map said_of (run t l).0
  pub table : u ≡ (run t l).1

abbrev IsRunIn : Table → List CaptureRecord → Type 0
IsRunIn t rs = IsRun t (arrivals_in rs) (answers_in t rs) (said_in rs (steps step t rs).0) (steps step t rs).1

-- one record more
module _ (rs : List CaptureRecord) (onward : (t : Table) → some_admitted (steps step t rs).0 ≡ false → IsRunIn t rs) (t : Table) (bytes : List ℕ) where
  one_more : (held : Held) → (let a = step t bytes held in is_admitted a.0.line || some_admitted (steps step a.1 rs).0 ≡ false
      → IsRun t (arrival_by bytes held ++ arrivals_in rs) (map (λ (b : Arrival). (receive t b.frame b.time).0) (arrival_by bytes held) ++ answers_in a.1 rs)
      (map (λ (b : Arrival). a.0) (arrival_by bytes held) ++ said_in rs (steps step a.1 rs).0) (steps step a.1 rs).1)
  unfolding run
  one_more (damaged n) none = onward t none
  one_more (arrival L) none =
      let received = receive t (frame_in bytes) L in
      let on = onward received.1 (neither t bytes (arrival L) rs none).1 in
      record { answers = ap (λ (xs : List Answer). received.0 ∷ xs) on.answers; lines = ap (λ (xs : List Said). said_of received.0 ∷ xs) on.lines; table = on.table }
  one_more (admission id limit) none =
      let neither-is = neither t bytes (admission id limit) rs none in
      let same = refused_admission t id limit neither-is.0 in
      let on = onward t (subst (λ (u : Table). some_admitted (steps step u rs).0 ≡ false) same neither-is.1) in
      subst (λ (u : Table). IsRun t (arrivals_in rs) (answers_in u rs) (said_in rs (steps step u rs).0) (steps step u rs).1) (sym same) on

is_run : (rs : List CaptureRecord) (t : Table) → some_admitted (steps step t rs).0 ≡ false → IsRunIn t rs
unfolding some_admitted steps run arrivals_in answers_in said_in
is_run [] t none = record { answers = refl; lines = refl; table = refl }
is_run (r ∷ rs) t none = one_more rs (is_run rs) t r.bytes r.held none

others : (rs : List CaptureRecord) (t : Table) → some_admitted (steps step t rs).0 ≡ false
    → (i : ℕ) (r : CaptureRecord) → get_elem? rs i ≡ some r → arrival_in r ≡ [] → (steps step t (take (suc i) rs)).1 ≡ (steps step t (take i rs)).1
unfolding some_admitted steps
others [] t none i r e h = let z : ◌≡◌ {A = ℕ} 0 1 = cc in absurd (omega arith)
others (s ∷ rs) t none zero r e h =
    let z : s ≡ r = cc in
    unchanged t s.bytes s.held (neither t s.bytes s.held rs none).0 (ap (λ (x : CaptureRecord). arrival_in x) z ∙ h)
others (s ∷ rs) t none (suc i) r e h = others rs (step t s.bytes s.held).1 (neither t s.bytes s.held rs none).1 i r e h

-- ---- what follows the last admission

none_later : (said : List Said) → some_admitted (drop (up_to_admission said) said) ≡ false
unfolding some_admitted up_to_admission
none_later [] = refl
none_later (x ∷ xs) = go (none_later xs) (some_admitted (x ∷ xs)) refl
  where
    go : some_admitted (drop (up_to_admission xs) xs) ≡ false → (b : Bool) → some_admitted (x ∷ xs) ≡ b → some_admitted (drop (cond b (suc (up_to_admission xs)) 0) (x ∷ xs)) ≡ false
    go later true e = later
    go later false e = e

module _ (rs : List CaptureRecord) (t : Table) where
  abbrev said : List Said
  said = (steps step t rs).0

  abbrev n : ℕ
  n = up_to_admission said

  abbrev then : Table
  then = (steps step t (take n rs)).1

  from_admission : FramesAsArrivals then (drop n rs) (drop n said) (steps step t rs).1
  from_admission =
      let later = steps_later step n rs t in
      let none : some_admitted (steps step then (drop n rs)).0 ≡ false = subst (λ (w : List Said × Table). some_admitted w.0 ≡ false) later (none_later said) in
      let on = is_run (drop n rs) then none in
      record {
        demand_3 = over_a_table then;
        answers = on.answers;
        lines = ap (λ (w : List Said × Table). said_in (drop n rs) w.0) later ∙ on.lines;
        table = ap (λ (w : List Said × Table). w.1) later ∙ on.table;
        others = others (drop n rs) then none;
      }

pub after_last_admission : AfterLastAdmission
unfolding visit
after_last_admission =
    record {
      one_by_one = λ capture. walk_steps step capture (replicate 64 unused);
      frames_as_arrivals = λ capture. subst (λ (w : List Said × Table). let n = up_to_admission w.0 in FramesAsArrivals (table_after n capture) (drop n (records_in capture)) (drop n w.0) w.1)
          (sym (walk_steps step capture (replicate 64 unused))) (from_admission (records_in capture) (replicate 64 unused));
    }
