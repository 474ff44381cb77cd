-- A sender's successive frames follow each other without a gap. Assumes nothing.
use Prim.Native.Nat.{ℕ, zero, suc, ◌+◌, ◌%◌, ◌≤◌, ◌<◌}
use mathlib.Core.Path.{◌≡◌, refl, ap, ◌∙◌}
use mathlib.Core.Bool.{Bool, true, false, cond}
use mathlib.Core.List.{List, [], ◌∷◌, ◌++◌}
use native.Mathlib.Nat.{mod-lt}
use native.Mathlib.Omega.{arith}
use lib.ListN.{length}
use Rattle.refusal.specs.Refusals.{if_accepted}
use Rattle.frame.specs.Layout.{has_cip, no_cip, fields_of}
use Rattle.frame.specs.Reading.{blocks_of, blocks_with}
use Rattle.writer.specs.declared.Sender.{Sender}
use Rattle.writer.specs.declared.given.Given.{Given}
use Rattle.writer.specs.Frames.{frame_bytes}
use Rattle.writer.specs.Writing.{write_refusal, advanced, writing}
use Rattle.round_trip.specs.ReadBack.{SenderTyped, GivenTyped, header_written, cip_written, fields_written, frame_left}
use Rattle.round_trip.specs.WriteBack.{Carries}
use Rattle.round_trip.specs.Successive.{Call, successive, CallsTyped, Delivered, Gapless, sender_after, Successive}
use Rattle.round_trip.proofs.ReadBack.{left_bytes, fields_back, refusal_back, payload_back}

pub advanced_typed : (s : Sender) (g : Given) (payload : List ℕ) → SenderTyped (advanced s g payload)
unfolding advanced
advanced_typed s g payload =
    record {
      sequence = mod-lt (s.sequence + 1) (omega arith);
      dbc = mod-lt (s.dbc + blocks_with g.stream.tag payload g.cip.dbs) (omega arith);
    }

-- a count that is not moved
unmoved : (dbc : ℕ) → dbc < 256 → (dbc + 0) % 256 ≡ dbc
unmoved dbc h = omega arith

pub block_count_stays : (s : Sender) (g : Given) (payload : List ℕ) (room : ℕ) → SenderTyped s → has_cip g.stream.tag ≡ false → (writing s g payload room).sender.dbc ≡ s.dbc
unfolding writing advanced blocks_with
block_count_stays s g payload room sender none = answered (write_refusal g (length payload) room)
  where
    answered : (n : ℕ) → (if_accepted n (advanced s g payload) s).dbc ≡ s.dbc
    answered zero = rw none (unmoved s.dbc sender.dbc)
    answered (suc n) = refl

-- a received frame carries the sender's numbers, and those after it are the moved sender's
module _ (s : Sender) (g : Given) (payload padding : List ℕ) (room : ℕ) (sender : SenderTyped s) (given : GivenTyped g)
    (ok : write_refusal g (length payload) room ≡ 0) (short : length (frame_bytes s g payload ++ padding) ≤ 1518) where
  numbers : Carries (fields_of (frame_bytes s g payload ++ padding)) s
  unfolding header_written cip_written fields_written
  numbers =
      rw (fields_back s g payload padding room sender given ok)
      (record { sequence = refl; dbc = λ has. ap (λ (b : Bool). (cond b (cip_written s.dbc g.cip) no_cip).dbc) has })

  count : (has : Bool) → (s.dbc + cond has (blocks_of payload g.cip.dbs) 0) % 256
      ≡ (let c = cond has (cip_written s.dbc g.cip) no_cip in cond has ((c.dbc + blocks_of payload c.dbs) % 256) s.dbc)
  unfolding cip_written
  count true = refl
  count false = unmoved s.dbc sender.dbc

  moved : advanced s g payload ≡ sender_after s (frame_bytes s g payload ++ padding)
  unfolding advanced blocks_with sender_after header_written fields_written
  moved =
      rw (fields_back s g payload padding room sender given ok, payload_back s g payload padding room sender given ok short)
      (λ i. record { sequence = (s.sequence + 1) % 256; dbc = count (has_cip g.stream.tag) i })

-- a call that is answered n, where the calls after it are gapless from any sender on
module _ (s : Sender) (c : Call) (cs : List Call) (sender : SenderTyped s) (given : GivenTyped c.given)
    (later : (t : Sender) → SenderTyped t → (frames : List (List ℕ)) → Delivered (successive t cs) frames → Gapless t frames) where
  serve : (n : ℕ) → write_refusal c.given (length c.payload) (length c.out) ≡ n → (frames : List (List ℕ))
      → Delivered (if_accepted n (frame_left s c.given c.payload c.out ∷ []) [] ++ successive (if_accepted n (advanced s c.given c.payload) s) cs) frames
      → Gapless s frames
  serve zero e [] h = absurd h
  serve zero e (frame ∷ frames) h =
      let g = c.given in
      let p = c.payload in
      let padding = h.0.0 in
      let arrived : frame ≡ frame_bytes s g p ++ padding = h.0.1 ∙ ap (λ (f : List ℕ). f ++ padding) (left_bytes s g p c.out e) in
      let short : length (frame_bytes s g p ++ padding) ≤ 1518 = rw (← arrived) h.0.2 in
      let t = advanced s g p in
      rw arrived (
        refusal_back s g p padding (length c.out) sender given e short,
        numbers s g p padding (length c.out) sender given e short,
        rw (← moved s g p padding (length c.out) sender given e short) (later t (advanced_typed s g p) frames h.1),
      )
  serve (suc n) e frames h = later s sender frames h

pub gapless : (s : Sender) (calls : List Call) (received : List (List ℕ)) → SenderTyped s → CallsTyped calls → Delivered (successive s calls) received → Gapless s received
unfolding successive writing
gapless s [] [] sender given h = tt
gapless s [] (frame ∷ frames) sender given h = absurd h
gapless s (c ∷ cs) frames sender given h =
    serve s c cs sender given.0 (λ t typed rest. gapless t cs rest typed given.1) (write_refusal c.given (length c.payload) (length c.out)) refl frames h

pub successive_frames : Successive
successive_frames = record { block_count_stays = block_count_stays; gapless = gapless }
