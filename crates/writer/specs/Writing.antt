-- What a write answers and leaves (document 01, Numbers answered and Sending; requests #105 and #108).
use Rattle.std.specs.Prelude.{ℕ, ◌+◌, ◌%◌, Bool, true, false, not, ◌&&◌, List, [], ◌∷◌, ◌++◌, length, drop, replicate, ltb, Result}
use Rattle.wire.specs.Bits.{fits, bit}
use Rattle.frame.specs.Layout.{vlan_row, has_cip}
use Rattle.refusal.specs.declared.Refusal.{Refusal}
use Rattle.refusal.specs.Refusals.{verdict_number, if_accepted, Check, ◌answers◌, first_of}
use Rattle.frame.specs.Checks.{misaddressed, partial_block}
use Rattle.frame.specs.Reading.{blocks_with}
use Rattle.writer.specs.declared.Sender.{Sender}
use Rattle.writer.specs.declared.given.EthernetFields.{EthernetFields}
use Rattle.writer.specs.declared.given.StreamFields.{StreamFields}
use Rattle.writer.specs.declared.given.CipFields.{CipFields}
use Rattle.writer.specs.declared.given.Given.{Given}
use Rattle.writer.specs.Frames.{vlan_values, packet_values, data_length, frame_length, frame_bytes}

-- ---- A field fits its bits

-- addresses are 48-bit numbers
abbrev pub address_row : List ℕ
address_row = 48 ∷ 48 ∷ []

-- tag, channel, tcode, sy: of the tag's two bits one may be used, so that it is 0 or 1 (request #108)
abbrev pub low_tag_row : List ℕ
low_tag_row = 1 ∷ 6 ∷ 4 ∷ 4 ∷ []

-- SID, DBS, FN, QPC, SPH, FMT, FDF, low half
abbrev pub cip_values : CipFields → List ℕ
cip_values f = f.sid ∷ f.dbs ∷ f.fraction_number ∷ f.qpc ∷ bit f.sph ∷ f.fmt ∷ f.fdf ∷ f.low_half ∷ []

-- QPC has no bits to fit, so that 0 is its only value (request #105); without a CIP header no field has any (request #108)
abbrev pub cip_row : Bool → List ℕ
cip_row true = 6 ∷ 8 ∷ 2 ∷ 0 ∷ 1 ∷ 6 ∷ 8 ∷ 16 ∷ []
cip_row false = replicate 8 0

unfoldable pub ethernet_fits : EthernetFields → Bool
ethernet_fits a = fits address_row (a.destination ∷ a.source ∷ []) && fits vlan_row (vlan_values a)

unfoldable pub stream_fits : StreamFields → Bool
stream_fits o = fits low_tag_row (packet_values o)

unfoldable pub cip_fits : Bool → CipFields → Bool
cip_fits has f = fits (cip_row has) (cip_values f)

-- the types of the fields not named here hold no number that is wider than its field
unfoldable pub fields_fit : Given → Bool
fields_fit g = ethernet_fits g.ethernet && stream_fits g.stream && cip_fits (has_cip g.stream.tag) g.cip

-- ---- The table, for a payload of n bytes and an output of room bytes

-- 33 is asked for tag 1 only. 34: a frame of 1,518 bytes has 1,476 behind its first 42, so that the payload has at most 1,468 with a CIP
-- header and 1,476 without.
unfoldable pub write_checks : Given → ℕ → ℕ → List Check
write_checks g n room =
    misaddressed g.ethernet.destination g.ethernet.source answers 31
    ∷ not (fields_fit g) answers 32
    ∷ (has_cip g.stream.tag && partial_block n g.cip.dbs) answers 33
    ∷ ltb 1476 (data_length g.stream.tag n) answers 34
    ∷ ltb room (frame_length g.stream.tag n) answers 35
    ∷ []

-- the number that a write is answered, 0 where it is accepted
unfoldable pub write_refusal : Given → ℕ → ℕ → ℕ
write_refusal g n room = first_of (write_checks g n room)

-- ---- Sending

-- a write uses both numbers, then moves them on by 1 and by the frame's blocks; with tag 0 there are none, and the block count stays
unfoldable pub advanced : Sender → Given → List ℕ → Sender
advanced s g payload =
    record {
      sequence = (s.sequence + 1) % 256;
      dbc = (s.dbc + blocks_with g.stream.tag payload g.cip.dbs) % 256;
    }

-- document 01's number, 0 where the frame is written, and the sender afterwards
pub record WriteAnswer : Type 0 where
  pub number : ℕ
  pub sender : Sender

-- what a write is answered: on a refusal the sender is as it was
unfoldable pub writing : Sender → Given → List ℕ → ℕ → WriteAnswer
writing s g payload room =
    let n = write_refusal g (length payload) room in
    record { number = n; sender = if_accepted n (advanced s g payload) s }

-- what a result says, with the sender afterwards
abbrev pub write_answer : Result Unit Refusal → Sender → WriteAnswer
write_answer result s = record { number = verdict_number result; sender = s }

-- what a write leaves in the output: exactly the frame's bytes are written, and on a refusal none
unfoldable pub output : Sender → Given → List ℕ → List ℕ → List ℕ
output s g payload out =
    if_accepted (write_refusal g (length payload) (length out)) (frame_bytes s g payload ++ drop (frame_length g.stream.tag (length payload)) out) out
