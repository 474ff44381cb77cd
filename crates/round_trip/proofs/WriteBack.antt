-- Writing what was read gives the bytes that were read. Assumes nothing.
use Prim.Native.Nat.{ℕ, zero, suc, ◌+◌, ◌-◌, ◌*◌, ◌/◌, ◌^◌, ◌≤◌, ◌<◌}
use mathlib.Core.Path.{◌≡◌, refl, sym, ap, subst, ◌∙◌}
use mathlib.Core.Bool.{Bool, true, false, not, ◌&&◌, cond}
use mathlib.Core.List.{List, [], ◌∷◌, ◌++◌, append_assoc}
use native.Mathlib.Nat.{mod-lt}
use native.Mathlib.Omega.{arith}
use borrow.Author.Tests.{eqb-true, not-false, ltb-false, le-ltb}
use lib.Dec.{eqb, ltb, lit≤}
use lib.ListN.{length, take, drop}
use lib.Seq.{take_at}
use Rattle.wire.specs.Bits.{bits, width, pack, unpack, flag, bit}
use Rattle.wire.specs.Numbers.{Bytes, bytes, number_at}
use Rattle.wire.proofs.Bits.{pack_unpack}
use Rattle.wire.proofs.Fits.{fit_true}
use Rattle.wire.proofs.Parts.{cut, length_part, number_part_lt, bytes_part}
use Rattle.frame.specs.declared.layout.Stream.{Stream}
use Rattle.frame.specs.declared.layout.Cip.{Cip}
use Rattle.frame.specs.declared.layout.Fields.{Fields}
use Rattle.frame.specs.Layout.{vlan_row, subtype_row, valid_row, uncertain_row, packet_row, source_row, fraction_row, format_row, cip_length, payload_start, ethernet_of, avtp_of, stream_of, cip_of, no_cip, cip_if, header_of, fields_of, cip_in}
use Rattle.refusal.specs.Refusals.{first_of}
use Rattle.frame.specs.Checks.{misaddressed, partial_block, length_checks, ethernet_checks, avtp_checks, address_checks, stream_checks, block_checks, cip_checks, header_checks, asked_if, read_checks, frame_checks, refusal}
use Rattle.frame.specs.Reading.{payload_part, payload_of}
use Rattle.refusal.proofs.First.{Clear, clear}
use Rattle.frame.proofs.Groups.{frame_numbered, accepted_room}
use Rattle.writer.specs.declared.Sender.{Sender}
use Rattle.writer.specs.Frames.{vlan_values, packet_values, ethernet_bytes, avtp_bytes, stream_bytes, source_bytes, format_bytes, cip_bytes, data_length, header_bytes, frame_bytes}
use Rattle.writer.specs.Writing.{output, address_row, low_tag_row, cip_values, cip_row, ethernet_fits, stream_fits, cip_fits, fields_fit, write_checks, write_refusal}
use Rattle.round_trip.specs.WriteBack.{FixedCipBits, FixedBits, Carries, cip_given_of, given_of, unpadded, WriteBack}
use Rattle.round_trip.proofs.ReadBack.{size, output_of}
use Rattle.round_trip.proofs.RowsBack.{bit_lt}

-- one bit as a flag
bit_flag : (n : ℕ) → n < 2 → bit (flag n) ≡ n
bit_flag zero h = refl
bit_flag (suc zero) h = refl
bit_flag (suc (suc n)) h = absurd (omega arith)

flagged : (s n : ℕ) → bit (flag (bits s 1 n)) ≡ bits s 1 n
flagged s n = bit_flag (bits s 1 n) (mod-lt (n / 2 ^ s) (omega arith))

flag_is : (s n : ℕ) {b : Bool} → flag (bits s 1 n) ≡ b → bit b ≡ bits s 1 n
flag_is s n e = ap bit (sym e) ∙ flagged s n

-- a value that does not differ
same_as : (a b : ℕ) → not (eqb a b) ≡ false → b ≡ a
same_as a b e = sym (eqb-true a b (not-false (eqb a b) e))

-- what holds of a frame of n bytes that no check refuses
record Sound (n : ℕ) (f : Fields) : Type 0 where
  short : n ≤ 1518
  tpid : 0x8100 ≡ f.header.ethernet.tpid
  cfi : f.header.ethernet.cfi ≡ false
  ethertype : 0x22F0 ≡ f.header.ethernet.ethertype
  cd : f.header.avtp.cd ≡ false
  subtype : 0 ≡ f.header.avtp.subtype
  version : 0 ≡ f.header.avtp.version
  sv : f.header.avtp.sv ≡ true
  addressed : misaddressed f.header.ethernet.destination f.header.ethernet.source ≡ false
  tag : f.header.stream.tag ≤ 1
  cip : Clear (asked_if (cip_in f) (cip_checks f.header.stream f.cip))

sound : (frame : List ℕ) → refusal frame ≡ 0 → Sound (length frame) (fields_of frame)
unfolding length_checks ethernet_checks avtp_checks address_checks stream_checks header_checks read_checks frame_checks refusal
sound frame e =
    let lengths = clear (frame_checks frame) (frame_numbered frame) e in
    let ethernet = lengths.1.1 in
    let avtp = ethernet.1.1.1 in
    let addresses = avtp.1.1.1.1 in
    let stream = addresses.1 in
    record {
      short = ltb-false 1518 (length frame) lengths.1.0;
      tpid = same_as _ 0x8100 ethernet.0;
      cfi = ethernet.1.0;
      ethertype = same_as _ 0x22F0 ethernet.1.1.0;
      cd = avtp.0;
      subtype = same_as _ 0 avtp.1.0;
      version = same_as _ 0 avtp.1.1.0;
      sv = not-false _ avtp.1.1.1.0;
      addressed = addresses.0;
      tag = ltb-false 1 _ stream.1.0;
      cip = stream.1.1;
    }

-- n bytes of payload that stand in a frame are whole blocks, where there are blocks
whole_blocks : (has : Bool) (t : Stream) (c : Cip) (n : ℕ) → Clear (asked_if has (cip_checks t c)) → n ≡ t.data_length - cip_length has → has && partial_block n c.dbs ≡ false
unfolding cip_checks block_checks
whole_blocks true t c n h e = rw e h.1.1.0
whole_blocks false t c n h e = refl

module _ (frame : List ℕ) (byte : Bytes frame) (ok : refusal frame ≡ 0) where
  abbrev has : Bool
  has = cip_in (fields_of frame)

  checked : Sound (length frame) (fields_of frame)
  checked = sound frame ok

  room : (cip_length has ≤ number_at 38 2 frame) × (number_at 38 2 frame + 42 ≤ length frame)
  unfolding refusal frame_checks fields_of header_of stream_of
  room = accepted_room (length frame) (fields_of frame) ok

  payload_part_lem : payload_of frame ≡ payload_part has (number_at 38 2 frame) frame
  unfolding payload_of fields_of header_of stream_of
  payload_part_lem = rw ok

  length_payload : length (payload_of frame) ≡ number_at 38 2 frame - cip_length has
  length_payload = let r = room in ap length payload_part_lem ∙ length_part frame (payload_start has) (number_at 38 2 frame - cip_length has) (omega arith)

  -- the frame has so many bytes
  module _ (end : ℕ) (long : end ≤ length frame) where
    lt : (at k : ℕ) → at + k ≤ end → number_at at k frame < 2 ^ (8 * k)
    lt at k h = number_part_lt frame byte at k (omega arith)

    -- a number of k bytes, in front of what stands behind it
    put : (at k : ℕ) {v : ℕ} {rest : List ℕ} → at + k ≤ end → v ≡ number_at at k frame → rest ≡ drop (at + k) frame → bytes k v ++ rest ≡ drop at frame
    put at k h e r = rw (e, bytes_part frame byte at k (omega arith), r) (cut frame at k)

    -- a row whose values are the fields that stand there
    row : (at k : ℕ) (ws : List ℕ) {vs rest : List ℕ} → at + k ≤ end → width ws ≡ 8 * k → vs ≡ unpack ws (number_at at k frame) → rest ≡ drop (at + k) frame
        → bytes k (pack ws vs) ++ rest ≡ drop at frame
    row at k ws h w e =
        put at k h (ap (pack ws) e ∙ pack_unpack ws (number_at at k frame) (subst (λ (j : ℕ). number_at at k frame < 2 ^ j) (sym w) (lt at k h)))

  long : 42 ≤ length frame
  long = let r = room in omega arith

  -- ---- the number that a write is answered

  header_fits : ethernet_fits (given_of (fields_of frame)).ethernet && stream_fits (given_of (fields_of frame)).stream ≡ true
  unfolding ethernet_fits stream_fits given_of fields_of header_of ethernet_of stream_of
  header_fits =
      let g = given_of (fields_of frame) in
      let destination = lt 42 long 0 6 (lit≤ tt) in
      let source = lt 42 long 6 6 (lit≤ tt) in
      let a = fit_true address_row (g.ethernet.destination ∷ g.ethernet.source ∷ []) (omega arith) in
      let v = fit_true vlan_row (vlan_values g.ethernet) (omega arith) in
      let p = fit_true low_tag_row (packet_values g.stream) (omega (arith, checked.tag)) in
      λ i. (a i && v i) && p i

  cip_fits_lem : (b : Bool) (t : Stream) → payload_start b ≤ length frame → Clear (asked_if b (cip_checks t (cip_if b frame))) → cip_fits b (cip_given_of (cip_if b frame)) ≡ true
  unfolding cip_fits cip_given_of cip_checks block_checks cip_of no_cip
  cip_fits_lem true t long h =
      let c = cip_given_of (cip_of frame) in
      let sph = bit_lt c.sph in
      let dbs = lt 50 long 43 1 (lit≤ tt) in
      let fdf = lt 50 long 47 1 (lit≤ tt) in
      let low_half = lt 50 long 48 2 (lit≤ tt) in
      fit_true (cip_row true) (cip_values c) (omega (arith, same_as c.qpc 0 h.1.0))
  cip_fits_lem false t long h = refl

  fields_fit_lem : fields_fit (given_of (fields_of frame)) ≡ true
  unfolding fields_fit given_of fields_of
  fields_fit_lem = let r = room in λ i. header_fits i && cip_fits_lem has (fields_of frame).header.stream (omega arith) checked.cip i

  blocks : has && partial_block (length (payload_of frame)) (fields_of frame).cip.dbs ≡ false
  unfolding fields_of header_of stream_of
  blocks = whole_blocks has (fields_of frame).header.stream (fields_of frame).cip (length (payload_of frame)) checked.cip length_payload

  -- the data ends within the frame
  data_length_lem : length (payload_of frame) + cip_length has ≡ number_at 38 2 frame
  data_length_lem = omega (arith, room, length_payload)

  pub write_number : (room : ℕ) → write_refusal (given_of (fields_of frame)) (length (payload_of frame)) room ≡ cond (ltb room (unpadded frame)) 35 0
  unfolding first_of write_refusal write_checks given_of cip_given_of
  write_number output =
      let c = checked in
      let n = data_length (fields_of frame).header.stream.tag (length (payload_of frame)) in
      rw (c.addressed, fields_fit_lem, blocks, le-ltb 1476 n (omega (arith, data_length_lem, room, c.short)))

  -- ---- the bytes that are written

  module _ (s : Sender) (fixed : FixedBits frame) (carried : Carries (fields_of frame) s) where
    -- the first 42, in front of what stands behind them
    header_bytes_lem : (rest : List ℕ) → rest ≡ drop 42 frame → header_bytes s (given_of (fields_of frame)) (length (payload_of frame)) ++ rest ≡ frame
    unfolding given_of fields_of header_of ethernet_of avtp_of stream_of ethernet_bytes avtp_bytes stream_bytes header_bytes
    header_bytes_lem rest behind =
        let c = checked in
        let at : ℕ → ℕ = λ k. number_at k 1 frame in
        let vlan = number_at 14 2 frame in
        let packet = number_at 40 2 frame in
        put 42 long 0 6 (lit≤ tt) refl
        (put 42 long 6 6 (lit≤ tt) refl
        (put 42 long 12 2 (lit≤ tt) c.tpid
        (row 42 long 14 2 vlan_row (lit≤ tt) refl (λ i. bits 13 3 vlan ∷ flag_is 12 vlan c.cfi i ∷ bits 0 12 vlan ∷ [])
        (put 42 long 16 2 (lit≤ tt) c.ethertype
        (row 42 long 18 1 subtype_row (lit≤ tt) refl (λ i. flag_is 7 (at 18) c.cd i ∷ c.subtype i ∷ [])
        (row 42 long 19 1 valid_row (lit≤ tt) refl (λ i. flag_is 7 (at 19) c.sv i ∷ c.version i ∷ flagged 3 (at 19) i ∷ sym fixed.r i ∷ flagged 1 (at 19) i ∷ flagged 0 (at 19) i ∷ [])
        (put 42 long 20 1 (lit≤ tt) (sym carried.sequence)
        (row 42 long 21 1 uncertain_row (lit≤ tt) refl (λ i. sym fixed.reserved i ∷ flagged 0 (at 21) i ∷ [])
        (put 42 long 22 8 (lit≤ tt) refl
        (put 42 long 30 4 (lit≤ tt) refl
        (put 42 long 34 4 (lit≤ tt) refl
        (put 42 long 38 2 (lit≤ tt) data_length_lem
        (row 42 long 40 2 packet_row (lit≤ tt) refl (λ i. bits 14 2 packet ∷ bits 8 6 packet ∷ sym fixed.tcode i ∷ bits 0 4 packet ∷ [])
        behind)))))))))))))

    -- the CIP header, where there is one
    cip_bytes_lem : (b : Bool) → payload_start b ≤ length frame → (b ≡ true → FixedCipBits frame) → (b ≡ true → (cip_if b frame).dbc ≡ s.dbc)
        → (rest : List ℕ) → rest ≡ drop (payload_start b) frame → cip_bytes b (cip_given_of (cip_if b frame)) s.dbc ++ rest ≡ drop 42 frame
    unfolding cip_given_of cip_of source_bytes format_bytes
    cip_bytes_lem true end bits-set count rest behind =
        let at : ℕ → ℕ = λ k. number_at k 1 frame in
        let set = bits-set refl in
        row 50 end 42 1 source_row (lit≤ tt) refl (λ i. sym set.first_indicator i ∷ bits 0 6 (at 42) ∷ [])
        (put 50 end 43 1 (lit≤ tt) refl
        (row 50 end 44 1 fraction_row (lit≤ tt) refl (λ i. bits 6 2 (at 44) ∷ bits 3 3 (at 44) ∷ flagged 2 (at 44) i ∷ sym set.reserved i ∷ [])
        (put 50 end 45 1 (lit≤ tt) (sym (count refl))
        (row 50 end 46 1 format_row (lit≤ tt) refl (λ i. sym set.second_indicator i ∷ bits 0 6 (at 46) ∷ [])
        (put 50 end 47 1 (lit≤ tt) refl
        (put 50 end 48 2 (lit≤ tt) refl
        behind))))))
    cip_bytes_lem false end bits-set count rest behind = behind

    behind : payload_of frame ++ drop (unpadded frame) frame ≡ drop (payload_start has) frame
    behind = rw (length_payload, payload_part_lem) (cut frame (payload_start has) (number_at 38 2 frame - cip_length has))

    whole : frame_bytes s (given_of (fields_of frame)) (payload_of frame) ++ drop (unpadded frame) frame ≡ frame
    unfolding given_of fields_of frame_bytes
    whole =
        let p = payload_of frame in
        let padding = drop (unpadded frame) frame in
        let header = header_bytes s (given_of (fields_of frame)) (length p) in
        let cip = cip_bytes has (cip_given_of (fields_of frame).cip) s.dbc in
        append_assoc (header ++ cip) p padding ∙ append_assoc header cip (p ++ padding)
        ∙ header_bytes_lem (cip ++ (p ++ padding)) (cip_bytes_lem has (omega (arith, room)) fixed.cip carried.dbc (p ++ padding) behind)

    write_bytes : frame_bytes s (given_of (fields_of frame)) (payload_of frame) ≡ take (unpadded frame) frame
    unfolding given_of
    write_bytes =
        let k = unpadded frame in
        sym (take_at (frame_bytes s (given_of (fields_of frame)) (payload_of frame)) (drop k frame) k (size _ _ _)) ∙ ap (take k) whole

    pub left : (out : List ℕ) → unpadded frame ≤ length out
        → output s (given_of (fields_of frame)) (payload_of frame) out ≡ take (unpadded frame) frame ++ drop (unpadded frame) out
    unfolding given_of
    left out h =
        let k = unpadded frame in
        let e = write_number (length out) ∙ ap (λ (b : Bool). cond b 35 0) (le-ltb (length out) k h) in
        output_of s (given_of (fields_of frame)) (payload_of frame) out e ∙ ap (λ (l : List ℕ). l ++ drop k out) write_bytes

pub write_back : WriteBack
write_back =
    record {
      number = λ frame room bytes ok. write_number frame bytes ok room;
      left = λ frame out s bytes ok fixed carried. left frame bytes ok s fixed carried out;
    }
