-- A listener of one sender (document 01, Sending).
use Rattle.std.specs.Prelude.{ℕ, ◌≡◌, false, List, [], ◌∷◌, map, length, drop}
use Rattle.writer.specs.declared.Sender.{Sender}
use Rattle.writer.specs.Writing.{write_refusal}
use Rattle.round_trip.specs.ReadBack.{SenderTyped}
use Rattle.round_trip.specs.Successive.{Call, successive, CallsTyped, Delivered}
use Rattle.stream.specs.Answers.{Answer}
use Rattle.table.specs.Table.{Table, admit}
use Rattle.arrivals.specs.Arrivals.{Arrival, run}

-- every write that is not refused is asked for with the one id
abbrev pub OneId : ℕ → List Call → Type 0
OneId k [] = Unit {0}
OneId k (c ∷ cs) = (write_refusal c.given (length c.payload) (length c.out) ≡ 0 → c.given.stream.id ≡ k) × OneId k cs

-- each frame is accepted, and raises no sequence and no block flag
abbrev pub Unbroken : List Answer → Type 0
Unbroken [] = Unit {0}
Unbroken (x ∷ xs) = ((x.number ≡ 0) × (x.flags.sequence ≡ false) × (x.flags.block ≡ false)) × Unbroken xs

abbrev pub frames : List Arrival → List (List ℕ)
frames l = map (λ (a : Arrival). a.frame) l

-- Stream k is admitted to a table, with any limit. Then one sender's successive frames, all written with that id and none missing, are
-- received, from any one of them on, each with any padding and at any time.
abbrev pub Listener : Type 0
Listener = (t : Table) (k limit : ℕ) → (admit limit t k).0 ≡ 0
    → (s : Sender) (calls : List Call) → SenderTyped s → CallsTyped calls → OneId k calls
    → (received : List (List ℕ)) → Delivered (successive s calls) received
    → (n : ℕ) (l : List Arrival) → frames l ≡ drop n received
    → Unbroken (run (admit limit t k).1 l).0
