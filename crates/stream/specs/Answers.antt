-- What a received frame is answered, and what it leaves of the record, as functions of the record, the frame's bytes and L alone
-- (document 01, Lists of arrivals).
use Rattle.std.specs.Prelude.{ℕ, ◌≡◌, false, List, [], pos, replicate, Result, Ok, Err}
use Rattle.frame.specs.declared.layout.Fields.{Fields}
use Rattle.frame.specs.Layout.{payload_start, fields_of, cip_in}
use Rattle.refusal.specs.declared.Refusal.{Refusal}
use Rattle.refusal.specs.Refusals.{number_of}
use Rattle.frame.specs.Reading.{no_fields, payload_of, data_of, DataThere}
use Rattle.presentation.specs.declared.Timing.{Timing}
use Rattle.presentation.specs.declared.Kind.TheVariants.{None}
use Rattle.stream.specs.declared.Record.{Record}
use Rattle.stream.specs.declared.Flags.{Flags}
use Rattle.stream.specs.declared.Stepped.{Stepped}
use Rattle.stream.specs.declared.Judged.{Judged}
use Rattle.stream.specs.Records.{unused}
use Rattle.stream.specs.Step.{stepped}

-- document 01's number, 0 where the frame is accepted, and every value
pub record Answer : Type 0 where
  pub number : ℕ
  pub fields : Fields
  pub payload : List ℕ
  pub flags : Flags
  pub timing : Timing

abbrev pub no_flags : Flags
no_flags = record { sequence = false; block = false; format = false; mr = false }

-- a refusal: the number, every other field zero or no, an empty part
unfoldable pub refused_with : ℕ → Answer
refused_with n =
    record {
      number = n;
      fields = no_fields;
      payload = [];
      flags = no_flags;
      timing = record { kind = None; offset = pos 0; time = 0 };
    }

-- the step for an accepted frame
unfoldable pub step_of : Record → List ℕ → ℕ → Stepped
step_of r frame L = stepped r (fields_of frame) (payload_of frame) L

-- what it answers
unfoldable pub answer_of : Record → List ℕ → ℕ → Answer
answer_of r frame L =
    record {
      number = 0;
      fields = fields_of frame;
      payload = payload_of frame;
      flags = (step_of r frame L).flags;
      timing = (step_of r frame L).timing;
    }

-- the record afterwards
unfoldable pub after : Record → List ℕ → ℕ → Record
after r frame L = (step_of r frame L).after

-- the stream of an accepted frame
unfoldable pub id_of : List ℕ → ℕ
id_of frame = (fields_of frame).header.stream.id

-- what each case of a receipt says of the frame for which it is given: its payload is the part of the frame that the receipt's own tag and
-- stream_data_length leave to it, and empty where the frame is refused
abbrev pub receipt_answer : Result Judged Refusal → List ℕ → Answer
receipt_answer (Ok j) frame =
    record {
      number = 0;
      fields = j.fields;
      payload = data_of frame j.fields.header.stream.tag j.fields.header.stream.data_length;
      flags = j.flags;
      timing = j.timing;
    }
receipt_answer (Err r) frame = refused_with (number_of r)

-- where that part starts
abbrev pub start_in : Result Judged Refusal → ℕ
start_in (Ok j) = payload_start (cip_in j.fields)
start_in (Err r) = 0

-- the frame has that part
abbrev pub PayloadThere : Result Judged Refusal → List ℕ → Type 0
PayloadThere (Ok j) frame = DataThere frame j.fields.header.stream.tag j.fields.header.stream.data_length
PayloadThere (Err r) frame = ⊥

-- a refused answer says nothing: its parts are those of a step that an unused record takes for fifty zero bytes, with no payload
abbrev pub RefusedAnswer : Type 0
RefusedAnswer =
    (n L : ℕ) → (let nothing = fields_of (replicate 50 0) in let step = stepped unused nothing [] L in
    refused_with n ≡ record { number = n; fields = nothing; payload = []; flags = step.flags; timing = step.timing })
