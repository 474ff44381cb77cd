-- A capture can be read a part at a time: bytes that come later change nothing of a record that is there whole.
use Rattle.std.specs.Prelude.{ℕ, ◌≡◌, List, ◌++◌}
use Rattle.capture.specs.Records.{Held, whole, entry_of}

abbrev pub ReadInParts : Type 0
ReadInParts = (rest later : List ℕ) (size : ℕ) (held : Held) → entry_of rest ≡ whole size held → entry_of (rest ++ later) ≡ whole size held
