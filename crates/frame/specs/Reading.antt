-- What is answered to a frame: its fields and its payload, or a number (document 01, Frame layout and Numbers answered; request #108).
use Rattle.std.specs.Prelude.{ℕ, ◌+◌, ◌-◌, ◌/◌, ◌≤◌, ◌≡◌, Bool, false, ◌||◌, cond, List, [], ltb, length, Result, Ok, Err}
use Rattle.wire.specs.Numbers.{part}
use Rattle.frame.specs.declared.layout.Fields.{Fields}
use Rattle.refusal.specs.declared.Refusal.{Refusal}
use Rattle.frame.specs.Layout.{has_cip, cip_length, payload_start, no_cip, fields_of, cip_in}
use Rattle.refusal.specs.Refusals.{number_of, if_accepted}
use Rattle.frame.specs.Checks.{block_bytes, refusal}

-- document 01's number, 0 where the frame is accepted, and the fields
pub record ReadAnswer : Type 0 where
  pub number : ℕ
  pub fields : Fields

-- every field zero or no
unfoldable pub no_fields : Fields
no_fields =
    record {
      header = record {
        ethernet = record { destination = 0; source = 0; tpid = 0; pcp = 0; cfi = false; vid = 0; ethertype = 0 };
        avtp = record { cd = false; subtype = 0; sv = false; version = 0; mr = false; gv = false; tv = false; sequence = 0; tu = false };
        stream = record { id = 0; timestamp = 0; gateway_info = 0; data_length = 0; tag = 0; channel = 0; sy = 0 };
      };
      cip = no_cip;
    }

-- what is answered by a number: every other field of a refused answer is zero or no
abbrev pub reading_by : ℕ → List ℕ → ReadAnswer
reading_by n frame = record { number = n; fields = if_accepted n (fields_of frame) no_fields }

-- what a frame is answered
unfoldable pub reading : List ℕ → ReadAnswer
reading frame = reading_by (refusal frame) frame

-- what each case of the answer says
abbrev pub read_answer : Result Fields Refusal → ReadAnswer
read_answer (Ok f) = record { number = 0; fields = f }
read_answer (Err r) = record { number = number_of r; fields = no_fields }

-- what a stream_data_length of n leaves to the payload: the part of the frame that starts at byte 50 and is n − 8 bytes long, behind a CIP
-- header, and all n bytes from byte 42 where there is none
abbrev pub payload_part : Bool → ℕ → List ℕ → List ℕ
payload_part has n frame = part (payload_start has) (n - cip_length has) frame

-- no byte of a refused frame
unfoldable pub payload_of : List ℕ → List ℕ
payload_of frame =
    let f = fields_of frame in
    if_accepted (refusal frame) (payload_part (cip_in f) f.header.stream.data_length frame) []

-- the same part by a tag and a stream_data_length that are known already; nothing where the frame has no such part
unfoldable pub data_of : List ℕ → ℕ → ℕ → List ℕ
data_of frame tag n = cond (ltb n (cip_length (has_cip tag)) || ltb (length frame) (42 + n)) [] (payload_part (has_cip tag) n frame)

-- the frame has such a part
abbrev pub DataThere : List ℕ → ℕ → ℕ → Type 0
DataThere frame tag n = (cip_length (has_cip tag) ≤ n) × (42 + n ≤ length frame)

-- of an accepted frame it is the payload
abbrev pub DataIsPayload : Type 0
DataIsPayload =
    (frame : List ℕ) → refusal frame ≡ 0
    → (let s = (fields_of frame).header.stream in
    DataThere frame s.tag s.data_length × (data_of frame s.tag s.data_length ≡ payload_of frame))

-- the whole blocks of a payload behind a CIP header
unfoldable pub blocks_of : List ℕ → ℕ → ℕ
blocks_of payload dbs = length payload / block_bytes dbs

-- those of a frame with this tag: without a CIP header there are none, however long the payload is
unfoldable pub blocks_with : ℕ → List ℕ → ℕ → ℕ
blocks_with tag payload dbs = cond (has_cip tag) (blocks_of payload dbs) 0
