-- What the private calls answer. No public contract speaks of it.
use Rattle.std.specs.Prelude.{ℕ, List, ◌∷◌, ltb}
use Rattle.refusal.specs.Refusals.{◌answers◌, first_of}
use Rattle.frame.specs.Checks.{frame_checks}
use Rattle.frame.specs.declared.layout.Fields.{Fields}
use Rattle.frame.specs.Reading.{ReadAnswer, reading_by, data_of}
use Rattle.stream.specs.declared.Record.{Record}
use Rattle.stream.specs.declared.Stepped.{Stepped}
use Rattle.stream.specs.declared.Judged.{Judged}
use Rattle.stream.specs.Step.{stepped}

-- what the reader answers for a table of n records: its numbers and fields, 20 before all else
unfoldable pub reading_for : ℕ → List ℕ → ReadAnswer
reading_for n frame = reading_by (first_of (ltb 64 n answers 20 ∷ frame_checks frame)) frame

-- the step of a frame that has been read
unfoldable pub served : Record → Fields → List ℕ → ℕ → Stepped
served r f frame L = stepped r f (data_of frame f.header.stream.tag f.header.stream.data_length) L

-- and what is answered to it
abbrev pub judged : Fields → Stepped → Judged
judged f s = record { fields = f; flags = s.flags; timing = s.timing }
