-- One sender's successive frames (document 01, Sending; request #108).
use Rattle.std.specs.Prelude.{ℕ, ◌+◌, ◌%◌, ◌≤◌, ◌≡◌, false, cond, List, [], ◌∷◌, ◌++◌, length}
use Rattle.refusal.specs.Refusals.{if_accepted}
use Rattle.frame.specs.Layout.{has_cip, fields_of, cip_in}
use Rattle.frame.specs.Checks.{refusal}
use Rattle.frame.specs.Reading.{payload_of, blocks_of}
use Rattle.writer.specs.declared.Sender.{Sender}
use Rattle.writer.specs.declared.given.Given.{Given}
use Rattle.writer.specs.Writing.{writing}
use Rattle.round_trip.specs.ReadBack.{SenderTyped, GivenTyped, frame_left}
use Rattle.round_trip.specs.WriteBack.{Carries}

-- a write that is asked of a sender, into an output
pub record Call : Type 0 where
  pub given : Given
  pub payload : List ℕ
  pub out : List ℕ

-- the frames that successive writes leave: each uses the sender that the one before left, and a refused one sends no frame
unfoldable pub successive : Sender → List Call → List (List ℕ)
successive s [] = []
successive s (c ∷ cs) =
    let a = writing s c.given c.payload (length c.out) in
    if_accepted a.number (frame_left s c.given c.payload c.out ∷ []) [] ++ successive a.sender cs

abbrev pub CallsTyped : List Call → Type 0
CallsTyped [] = Unit {0}
CallsTyped (c ∷ cs) = GivenTyped c.given × CallsTyped cs

-- the frames as they are received, each with its padding and within 1,518 bytes
abbrev pub Delivered : List (List ℕ) → List (List ℕ) → Type 0
Delivered [] [] = Unit {0}
Delivered [] (r ∷ rs) = ⊥
Delivered (f ∷ fs) [] = ⊥
Delivered (f ∷ fs) (r ∷ rs) = ((padding : List ℕ) × (r ≡ f ++ padding) × (length r ≤ 1518)) × Delivered fs rs

-- the numbers after those of a frame: the sequence number moved on by 1, the block count by the frame's own blocks, modulo 256; a frame
-- with no CIP header leaves the block count that was expected
unfoldable pub sender_after : Sender → List ℕ → Sender
sender_after s frame =
    let f = fields_of frame in
    record {
      sequence = (f.header.avtp.sequence + 1) % 256;
      dbc = cond (cip_in f) ((f.cip.dbc + blocks_of (payload_of frame) f.cip.dbs) % 256) s.dbc;
    }

-- each frame is accepted, the first with these numbers, and each later one with those after the frame before it
abbrev pub Gapless : Sender → List (List ℕ) → Type 0
Gapless s [] = Unit {0}
Gapless s (frame ∷ frames) = (refusal frame ≡ 0) × Carries (fields_of frame) s × Gapless (sender_after s frame) frames

pub record Successive : Type 0 where
  -- no write with tag 0 moves the sender's block count
  pub block_count_stays : (s : Sender) (g : Given) (payload : List ℕ) (room : ℕ) → SenderTyped s → has_cip g.stream.tag ≡ false
      → (writing s g payload room).sender.dbc ≡ s.dbc
  pub gapless : (s : Sender) (calls : List Call) (received : List (List ℕ))
      → SenderTyped s → CallsTyped calls → Delivered (successive s calls) received → Gapless s received
