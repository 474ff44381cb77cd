-- A capture without kind 5 lists as it would without limits: "Kind 2 admits with 2,147,483,647, so captures without kind 5 list as
-- before" (request #107).
use Rattle.std.specs.Prelude.{◌≡◌, ℕ, Bool, false, List, [], ◌∷◌, replicate, ◌≢◌}
use Rattle.capture.specs.Records.{Held, damaged, arrival, admission, kind_of, frame_in}
use Rattle.capture.specs.Walk.{walk, CaptureRecord, records_in}
use Rattle.presentation.specs.declared.Kind.TheVariants.{Far}
use Rattle.presentation.specs.Presentation.{largest_limit, presentation}
use Rattle.tally.specs.Tally.{same_kind}
use Rattle.stream.specs.Records.{unused}
use Rattle.stream.specs.Answers.{Answer}
use Rattle.table.specs.Table.{Table, receive}
use Rattle.lines.specs.Lines.{Line, admitted, refused, frame}
use Rattle.listing.specs.Listing.{Said, said_of, step, visit}

-- ---- Without limits

-- an answer with the time of a reading without a record, which is never far (`FarAboveLimit`)
abbrev pub unlimited : ℕ → Answer → Answer
unlimited L a =
    record {
      number = a.number;
      fields = a.fields;
      payload = a.payload;
      flags = a.flags;
      timing = presentation L a.fields a.payload;
    }

-- what is said of a record: a stream is admitted with the largest limit, whatever the record says, and the line of a frame has that time
abbrev pub unlimited_step : Table → List ℕ → Held → Said × Table
unlimited_step t bytes (damaged number) = step t bytes (damaged number)
unlimited_step t bytes (arrival L) =
    let received = receive t (frame_in bytes) L in
    (said_of (unlimited L received.0), received.1)
unlimited_step t bytes (admission id limit) = step t bytes (admission id largest_limit)

-- ---- The claim

-- no record is of kind 5
abbrev pub NoneIs5 : List CaptureRecord → Type 0
NoneIs5 [] = Unit {0}
NoneIs5 (r ∷ rs) = (kind_of r.bytes ≢ 5) × NoneIs5 rs

-- whether a line shows a frame as far
abbrev pub is_far : Line → Bool
is_far admitted = false
is_far (refused number) = false
is_far (frame tag flags timing) = same_kind timing.kind Far

abbrev pub NoneIsFar : List Said → Type 0
NoneIsFar [] = Unit {0}
NoneIsFar (x ∷ xs) = (is_far x.line ≡ false) × NoneIsFar xs

pub record UnlimitedWithout5 : Type 0 where
  -- what is said of each record, of which the lines of the listing are made, and the table at the end
  pub same : (capture : List ℕ) → NoneIs5 (records_in capture) → visit capture ≡ walk unlimited_step capture (replicate 64 unused)
  -- and no line shows a frame as far
  pub none_far : (capture : List ℕ) → NoneIs5 (records_in capture) → NoneIsFar (visit capture).0
