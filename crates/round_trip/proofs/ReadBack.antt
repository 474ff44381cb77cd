-- Reading what was written gives what was given. Assumes nothing.
use Prim.Native.Nat.{ℕ, ◌+◌, ◌-◌, ◌≤◌}
use mathlib.Core.Path.{◌≡◌, refl, ap, ◌∙◌}
use mathlib.Core.Bool.{Bool, true, false, ◌&&◌, cond}
use mathlib.Core.List.{List, ◌++◌, append_assoc}
use native.Mathlib.Omega.{arith}
use borrow.Author.Tests.{le-ltb}
use lib.ListN.{length, take, drop, length-append}
use lib.Seq.{take-append_seam, take_at, drop_at}
use Rattle.wire.specs.Bits.{Fit}
use Rattle.wire.proofs.Numbers.{number_of}
use Rattle.frame.specs.declared.layout.Header.{Header}
use Rattle.frame.specs.declared.layout.Stream.{Stream}
use Rattle.frame.specs.Layout.{vlan_row, valid_row, uncertain_row, packet_row, source_row, fraction_row, format_row, has_cip, cip_length, payload_start, ethernet_of, avtp_of, stream_of, cip_of, no_cip, cip_if, header_of, fields_of}
use Rattle.frame.specs.Checks.{partial_block, length_checks, ethernet_checks, avtp_checks, address_checks, stream_checks, block_checks, cip_checks, header_checks, asked_if, read_checks, frame_checks, refusal}
use Rattle.frame.specs.Reading.{reading, payload_of}
use Rattle.refusal.proofs.First.{Clear, none, eq_not}
use Rattle.writer.specs.declared.Sender.{Sender}
use Rattle.writer.specs.declared.given.CipFields.{CipFields}
use Rattle.writer.specs.declared.given.Given.{Given}
use Rattle.writer.specs.Frames.{vlan_values, valid_values, uncertain_values, packet_values, source_values, fraction_values, format_values, ethernet_bytes, avtp_bytes, stream_bytes, source_bytes, format_bytes, cip_bytes, data_length, header_bytes, frame_length, frame_bytes}
use Rattle.writer.specs.Writing.{cip_values, cip_row, write_refusal, writing, output}
use Rattle.round_trip.specs.ReadBack.{SenderTyped, GivenTyped, header_written, cip_written, fields_written, frame_left, ReadBack}
use Rattle.writer.proofs.Accepted.{Fitting, Accepted, Rows, accepted, fitting, rows}
use Rattle.round_trip.proofs.RowsBack.{bit_lt, row_back, flag_back}

-- one fact, and then others
infixr 20 ◌also◌
◌also◌ : {A B : Type 0} → A → B → A × B
a also b = (a, b)

-- how many bytes stand in front of a payload, and where they end
header_size : (s : Sender) (g : Given) (n : ℕ) → length (header_bytes s g n) ≡ 42
unfolding ethernet_bytes avtp_bytes stream_bytes header_bytes
header_size s g n = refl

cip_size : (has : Bool) (f : CipFields) (dbc : ℕ) → length (cip_bytes has f dbc) ≡ cip_length has
unfolding source_bytes format_bytes
cip_size true f dbc = refl
cip_size false f dbc = refl

front_size : (s : Sender) (g : Given) (n : ℕ) → length (header_bytes s g n ++ cip_bytes (has_cip g.stream.tag) g.cip s.dbc) ≡ payload_start (has_cip g.stream.tag)
front_size s g n =
    let cip = cip_bytes (has_cip g.stream.tag) g.cip s.dbc in
    length-append (header_bytes s g n) cip ∙ rw (header_size s g n, cip_size (has_cip g.stream.tag) g.cip s.dbc)

pub size : (s : Sender) (g : Given) (p : List ℕ) → length (frame_bytes s g p) ≡ frame_length g.stream.tag (length p)
unfolding frame_bytes
size s g p =
    let front = header_bytes s g (length p) ++ cip_bytes (has_cip g.stream.tag) g.cip s.dbc in
    length-append front p ∙ ap (λ (k : ℕ). k + length p) (front_size s g (length p))

behind_front : (s : Sender) (g : Given) (p padding : List ℕ) → drop (payload_start (has_cip g.stream.tag)) (frame_bytes s g p ++ padding) ≡ p ++ padding
unfolding frame_bytes
behind_front s g p padding =
    let front = header_bytes s g (length p) ++ cip_bytes (has_cip g.stream.tag) g.cip s.dbc in
    ap (drop (payload_start (has_cip g.stream.tag))) (append_assoc front p padding) ∙ drop_at front (p ++ padding) _ (front_size s g (length p))

pub output_of : (s : Sender) (g : Given) (p out : List ℕ) → write_refusal g (length p) (length out) ≡ 0 → output s g p out ≡ frame_bytes s g p ++ drop (frame_length g.stream.tag (length p)) out
unfolding output
output_of s g p out e = rw e refl

pub left_bytes : (s : Sender) (g : Given) (p out : List ℕ) → write_refusal g (length p) (length out) ≡ 0 → frame_left s g p out ≡ frame_bytes s g p
unfolding frame_left
left_bytes s g p out e = rw (output_of s g p out e) (take_at (frame_bytes s g p) (drop (frame_length g.stream.tag (length p)) out) (frame_length g.stream.tag (length p)) (size s g p))

module _ (s : Sender) (g : Given) (p padding : List ℕ) (room : ℕ) (sender : SenderTyped s) (given : GivenTyped g) (ok : write_refusal g (length p) room ≡ 0) where
  ready : Accepted g (length p) room
  ready = accepted g (length p) room ok

  valid_fit : Fit valid_row (valid_values g.avtp)
  valid_fit =
      let mr = bit_lt g.avtp.mr in
      let gv = bit_lt g.avtp.gv in
      let tv = bit_lt g.avtp.tv in
      omega arith

  uncertain_fit : Fit uncertain_row (uncertain_values g.avtp)
  uncertain_fit = let tu = bit_lt g.avtp.tu in omega arith

  fit : Fitting g
  fit = fitting g ready.fits

  row : Rows g
  row = rows g ready.fits

  -- the first 42 bytes, whatever comes behind them
  header_back : (rest : List ℕ) → header_of (header_bytes s g (length p) ++ rest) ≡ header_written s g (length p)
  unfolding ethernet_of avtp_of stream_of header_of ethernet_bytes avtp_bytes stream_bytes header_bytes header_written
  header_back rest =
      let vlan = row_back 2 vlan_row (vlan_values g.ethernet) row.vlan refl in
      let avtp = flag_back 1 valid_row (valid_values g.avtp) valid_fit refl in
      let packet = row_back 2 packet_row (packet_values g.stream) row.packet refl in
      λ i. record {
        ethernet = record {
          destination = number_of 6 g.ethernet.destination fit.addresses.0 i;
          source = number_of 6 g.ethernet.source fit.addresses.1.0 i;
          tpid = 0x8100;
          pcp = vlan 0 i;
          cfi = flag_back 2 vlan_row (vlan_values g.ethernet) row.vlan refl 1 false refl i;
          vid = vlan 2 i;
          ethertype = 0x22F0;
        };
        avtp = record {
          cd = false;
          subtype = 0;
          sv = avtp 0 true refl i;
          version = row_back 1 valid_row (valid_values g.avtp) valid_fit refl 1 i;
          mr = avtp 2 g.avtp.mr refl i;
          gv = avtp 4 g.avtp.gv refl i;
          tv = avtp 5 g.avtp.tv refl i;
          sequence = number_of 1 s.sequence sender.sequence i;
          tu = flag_back 1 uncertain_row (uncertain_values g.avtp) uncertain_fit refl 1 g.avtp.tu refl i;
        };
        stream = record {
          id = number_of 8 g.stream.id given.id i;
          timestamp = number_of 4 g.stream.timestamp given.timestamp i;
          gateway_info = number_of 4 g.stream.gateway_info given.gateway_info i;
          data_length = number_of 2 (data_length g.stream.tag (length p)) (omega (arith, ready.short)) i;
          tag = packet 0 i;
          channel = packet 1 i;
          sy = packet 3 i;
        };
      }

  -- the CIP header, where there is one
  cip_back : (has : Bool) → Fit (cip_row has) (cip_values g.cip)
      → cip_if has ((header_bytes s g (length p) ++ cip_bytes has g.cip s.dbc ++ p) ++ padding) ≡ cond has (cip_written s.dbc g.cip) no_cip
  unfolding cip_of ethernet_bytes avtp_bytes stream_bytes source_bytes format_bytes header_bytes cip_written
  cip_back true within =
      let fraction = fraction_values g.cip in
      λ i. record {
        sid = row_back 1 source_row (source_values g.cip) row.source refl 1 i;
        dbs = number_of 1 g.cip.dbs within.1.0 i;
        fraction_number = row_back 1 fraction_row fraction row.fraction refl 0 i;
        qpc = row_back 1 fraction_row fraction row.fraction refl 1 i;
        sph = flag_back 1 fraction_row fraction row.fraction refl 2 g.cip.sph refl i;
        dbc = number_of 1 s.dbc sender.dbc i;
        fmt = row_back 1 format_row (format_values g.cip) row.format refl 1 i;
        fdf = number_of 1 g.cip.fdf within.1.1.1.1.1.1.0 i;
        low_half = number_of 2 g.cip.low_half within.1.1.1.1.1.1.1.0 i;
      }
  cip_back false within = refl

  headers : header_of (frame_bytes s g p ++ padding) ≡ header_written s g (length p)
  unfolding frame_bytes
  headers =
      let header = header_bytes s g (length p) in
      let cip = cip_bytes (has_cip g.stream.tag) g.cip s.dbc in
      ap header_of (append_assoc (header ++ cip) p padding ∙ append_assoc header cip (p ++ padding)) ∙ header_back (cip ++ (p ++ padding))

  pub fields_back : fields_of (frame_bytes s g p ++ padding) ≡ fields_written s g (length p)
  unfolding fields_of frame_bytes header_written fields_written
  fields_back =
      let cips = ap (λ (h : Header). cip_if (has_cip h.stream.tag) (frame_bytes s g p ++ padding)) headers ∙ cip_back (has_cip g.stream.tag) fit.cip in
      λ i. record { header = headers i; cip = cips i }

  module _ (short : length (frame_bytes s g p ++ padding) ≤ 1518) where
    cips_clear : (has : Bool) → Fit (cip_row has) (cip_values g.cip) → has && partial_block (length p) g.cip.dbs ≡ false → (t : Stream) → t.data_length ≡ length p + cip_length has
        → Clear (asked_if has (cip_checks t (cond has (cip_written s.dbc g.cip) no_cip)))
    unfolding cip_checks block_checks cip_written
    cips_clear true within whole t e =
        let n : t.data_length - 8 ≡ length p = omega arith in
        le-ltb t.data_length 8 (omega arith)
        also eq_not g.cip.qpc 0 (omega (arith, within.1.1.1.0))
        also rw n whole
        also tt
    cips_clear false within whole t e = tt

    pub refusal_back : refusal (frame_bytes s g p ++ padding) ≡ 0
    unfolding length_checks ethernet_checks avtp_checks address_checks stream_checks header_checks read_checks frame_checks refusal header_written fields_written
    refusal_back =
        let n = length (frame_bytes s g p ++ padding) in
        let has = has_cip g.stream.tag in
        let long : n ≡ frame_length g.stream.tag (length p) + length padding = length-append (frame_bytes s g p) padding ∙ ap (λ (k : ℕ). k + length padding) (size s g p) in
        rw fields_back
        (none (read_checks n (fields_written s g (length p)))
        (le-ltb n 42 (omega arith)
        also le-ltb 1518 n short
        also refl
        also refl
        also refl
        also refl
        also refl
        also refl
        also refl
        also ready.addressed
        also le-ltb (n - 42) (data_length g.stream.tag (length p)) (omega arith)
        also le-ltb 1 g.stream.tag (omega (arith, fit.stream.0))
        also cips_clear has fit.cip ready.whole (header_written s g (length p)).stream refl))

    pub reading_back : reading (frame_bytes s g p ++ padding) ≡ record { number = 0; fields = fields_written s g (length p) }
    unfolding reading
    reading_back = rw (refusal_back, fields_back)

    pub payload_back : payload_of (frame_bytes s g p ++ padding) ≡ p
    unfolding payload_of header_written fields_written
    payload_back =
        let cip = cip_length (has_cip g.stream.tag) in
        let n : length p + cip - cip ≡ length p = omega arith in
        rw (refusal_back, fields_back, n) (ap (take (length p)) (behind_front s g p padding) ∙ take-append_seam p padding)

pub read_back : ReadBack
unfolding writing
read_back =
    record {
      bytes = left_bytes;
      size = λ s g p out e. ap length (left_bytes s g p out e) ∙ size s g p;
      fields = λ s g p out padding sender given e short.
          rw (left_bytes s g p out e) (reading_back s g p padding (length out) sender given e (rw (← left_bytes s g p out e) short));
      payload = λ s g p out padding sender given e short.
          rw (left_bytes s g p out e) (payload_back s g p padding (length out) sender given e (rw (← left_bytes s g p out e) short));
    }
