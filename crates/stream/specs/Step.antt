-- The step for an accepted frame (document 01, Lists of arrivals): all is judged on the record as it stood, then the record takes
-- from the frame what it holds afterwards.
use Rattle.std.specs.Prelude.{ℕ, List}
use Rattle.frame.specs.declared.layout.Fields.{Fields}
use Rattle.presentation.specs.Presentation.{presentation_within}
use Rattle.stream.specs.declared.Record.{Record}
use Rattle.stream.specs.declared.Stepped.{Stepped}
use Rattle.stream.specs.Records.{flags_of, record_after}

unfoldable pub stepped : Record → Fields → List ℕ → ℕ → Stepped
stepped r f payload L =
    record {
      after = record_after r f payload (flags_of r f) (presentation_within r.limit L f payload);
      flags = flags_of r f;
      timing = presentation_within r.limit L f payload;
    }
