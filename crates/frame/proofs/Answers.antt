-- What the answer of `read` tells of the frame. Assumes nothing.
use Prim.Native.Nat.{ℕ, ◌+◌, ◌≤◌, ◌<◌}
use mathlib.Core.Path.{◌≡◌, refl, sym, ap, ◌∙◌}
use mathlib.Core.Bool.{false, or-true}
use mathlib.Core.List.{List, []}
use native.Mathlib.Omega.{arith}
use borrow.Author.Tests.{eq-eqb, ne_eqb, lt-ltb, le-ltb}
use lib.Dec.{ltb}
use lib.ListN.{length}
use Rattle.refusal.specs.declared.Refusal.{Refusal}
use Rattle.refusal.specs.declared.Refusal.TheVariants.{NoCipHeader}
use Rattle.frame.specs.declared.layout.Fields.{Fields}
use Rattle.std.specs.Prelude.{Result, Ok, Err}
use Rattle.frame.specs.declared.layout.Header.{Header}
use Rattle.frame.specs.declared.layout.Cip.{Cip}
use Rattle.frame.specs.Layout.{has_cip, cip_length, header_of, cip_of, no_cip, cip_if, fields_of, cip_in}
use Rattle.refusal.specs.Refusals.{number_of, first_of}
use Rattle.frame.specs.Checks.{length_checks, header_checks, block_checks, cip_checks, asked_if, frame_checks, refusal}
use Rattle.frame.specs.Reading.{ReadAnswer, reading, read_answer, payload_of, data_of, DataThere, DataIsPayload}
use Rattle.refusal.proofs.First.{positive, stop, go}
use Rattle.frame.proofs.Groups.{read_then, accepted_room}

-- there is no data beyond the frame
pub data_beyond : (frame : List ℕ) (tag n : ℕ) → length frame < 42 + n → [] ≡ data_of frame tag n
unfolding data_of
data_beyond frame tag n h = rw (lt-ltb (length frame) (42 + n) h, or-true (ltb n (cip_length (has_cip tag))))

-- the data of an accepted frame is in it
data_there : (frame : List ℕ) → refusal frame ≡ 0 → (let s = (fields_of frame).header.stream in DataThere frame s.tag s.data_length)
unfolding refusal frame_checks
data_there frame e = let h = accepted_room (length frame) (fields_of frame) e in (h.0, omega (arith, h.1))

-- and is its payload
pub data_payload : (frame : List ℕ) → refusal frame ≡ 0 → (let s = (fields_of frame).header.stream in data_of frame s.tag s.data_length) ≡ payload_of frame
unfolding refusal frame_checks data_of payload_of
data_payload frame e =
    let n = (fields_of frame).header.stream.data_length in
    let cip = cip_length (cip_in (fields_of frame)) in
    let h : (cip ≤ n) × (n + 42 ≤ length frame) = accepted_room (length frame) (fields_of frame) e in
    rw (le-ltb n cip h.0, le-ltb (length frame) (42 + n) (omega arith), e)

pub data_is_payload : DataIsPayload
data_is_payload frame e = (data_there frame e, data_payload frame e)

module _ (frame : List ℕ) where
  -- from the rules to the answer
  pub refuses : (r : Refusal) → number_of r ≡ refusal frame → read_answer (Err r) ≡ reading frame
  unfolding reading
  refuses r e = let p = positive r in rw (← e, p.1)

  pub accepts : {f : Fields} → refusal frame ≡ 0 → f ≡ fields_of frame → read_answer (Ok f) ≡ reading frame
  unfolding reading
  accepts e q = rw (e, q)

  -- what the three groups of checks answer, one after another
  pub length_refuses : (r : Refusal) → number_of r ≡ first_of (length_checks (length frame)) → read_answer (Err r) ≡ reading frame
  unfolding refusal frame_checks
  length_refuses r e = refuses r (rw (read_then (length frame) (fields_of frame)) (stop r _ _ e))

  module _ (lengths : 0 ≡ first_of (length_checks (length frame))) {h : Header} (hs : h ≡ header_of frame) where
    pub header_refuses : (r : Refusal) → number_of r ≡ first_of (header_checks (length frame) h) → read_answer (Err r) ≡ reading frame
    unfolding refusal frame_checks fields_of
    header_refuses r e = refuses r (rw (read_then (length frame) (fields_of frame), ← hs) (go _ _ _ lengths (stop r _ _ e)))

    module _ (headers : 0 ≡ first_of (header_checks (length frame) h)) where
      whole : {k : ℕ} → k ≡ first_of (asked_if (has_cip h.stream.tag) (cip_checks h.stream (cip_if (has_cip h.stream.tag) frame))) → k ≡ refusal frame
      unfolding refusal frame_checks fields_of
      whole cips = rw (read_then (length frame) (fields_of frame), ← hs) (go _ _ _ lengths (go _ _ _ headers cips))

      -- without a CIP header no more is asked
      pub tag_accepts : {p : Cip} → (h.stream.tag ≡ 1 → ⊥) → p ≡ no_cip → read_answer (Ok (record { header = h; cip = p })) ≡ reading frame
      unfolding first_of fields_of
      tag_accepts n ps =
          let has : has_cip h.stream.tag ≡ false = ne_eqb h.stream.tag 1 n in
          accepts (sym (whole (rw has refl))) (rw (← hs, has, ps))

      module _ (tag : h.stream.tag ≡ 1) where
        pub no_cip_header : h.stream.data_length < 8 → read_answer (Err NoCipHeader) ≡ reading frame
        unfolding first_of cip_checks
        no_cip_header l = refuses NoCipHeader (whole (rw (eq-eqb h.stream.tag 1 tag, lt-ltb h.stream.data_length 8 l) refl))

        module _ (room : 8 ≤ h.stream.data_length) {p : Cip} (ps : p ≡ cip_of frame) where
          number : {k : ℕ} → k ≡ first_of (block_checks h.stream p) → k ≡ refusal frame
          unfolding first_of cip_checks
          number blocks = whole (rw (eq-eqb h.stream.tag 1 tag, ← ps, le-ltb h.stream.data_length 8 room) blocks)

          pub block_refuses : (r : Refusal) → number_of r ≡ first_of (block_checks h.stream p) → read_answer (Err r) ≡ reading frame
          block_refuses r e = refuses r (number e)

          pub all_accept : 0 ≡ first_of (block_checks h.stream p) → read_answer (Ok (record { header = h; cip = p })) ≡ reading frame
          unfolding fields_of
          all_accept e = accepts (sym (number e)) (rw (← hs, eq-eqb h.stream.tag 1 tag, ps))

  -- and back
  module _ {x : Result Fields Refusal} (e : read_answer x ≡ reading frame) where
    pub refused_number : {r : Refusal} → x ≡ Err r → refusal frame ≡ number_of r
    unfolding reading
    refused_number z = ap (λ (a : ReadAnswer). a.number) (sym e) ∙ rw z

    module _ {f : Fields} (z : x ≡ Ok f) where
      pub accepted_number : refusal frame ≡ 0
      unfolding reading
      accepted_number = ap (λ (a : ReadAnswer). a.number) (sym e) ∙ rw z

      pub accepted_fields : f ≡ fields_of frame
      unfolding reading
      accepted_fields = ap (λ (y : Result Fields Refusal). (read_answer y).fields) (sym z) ∙ ap (λ (a : ReadAnswer). a.fields) e ∙ rw accepted_number

      pub accepted_there : DataThere frame f.header.stream.tag f.header.stream.data_length
      accepted_there = rw accepted_fields (data_there frame accepted_number)

      pub accepted_payload : data_of frame f.header.stream.tag f.header.stream.data_length ≡ payload_of frame
      accepted_payload = rw accepted_fields (data_payload frame accepted_number)
