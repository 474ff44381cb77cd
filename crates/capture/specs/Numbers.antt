-- The number of what stands at the front (document 01, Numbers answered): 41 where the record is cut, and where it is refused its own.
use Rattle.std.specs.Prelude.{ℕ, ◌≡◌, List, length}
use Rattle.refusal.specs.Refusals.{first_of}
use Rattle.capture.specs.Records.{Held, damaged, arrival, admission, Front, end, cut, whole, record_checks, entry_of}

abbrev pub held_number : Held → ℕ
held_number (damaged n) = n
held_number (arrival L) = 0
held_number (admission id limit) = 0

abbrev pub front_number : Front → ℕ
front_number end = 0
front_number cut = 41
front_number (whole size held) = held_number held

-- where something is left, it is the first that applies
abbrev pub RecordNumbers : Type 0
RecordNumbers = (rest : List ℕ) → (length rest ≡ 0 → ⊥) → front_number (entry_of rest) ≡ first_of (record_checks rest)
