-- Reading a capture moves on with every record, and never past the end.
use Rattle.std.specs.Prelude.{ℕ, ◌≤◌, ◌≡◌, List, length}
use Rattle.capture.specs.Records.{Held, whole, entry_of}

-- at least the two bytes of the length, and all of it is there
abbrev pub Within : List ℕ → ℕ → Type 0
Within rest size = (2 ≤ size) × (size ≤ length rest)

abbrev pub RecordSizes : Type 0
RecordSizes = (rest : List ℕ) (size : ℕ) (held : Held) → entry_of rest ≡ whole size held → Within rest size
