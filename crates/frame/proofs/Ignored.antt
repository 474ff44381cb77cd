-- Frames that differ only in ignored bits and after the payload are answered the same. Assumes nothing.
use Prim.Native.Nat.{ℕ, zero, suc, ◌+◌, ◌-◌, ◌*◌, ◌/◌, ◌%◌, ◌^◌, ◌<◌, ◌≤◌}
use mathlib.Core.Path.{◌≡◌, refl, sym, ap, ◌∙◌}
use mathlib.Core.Logic.{⊎_elim}
use mathlib.Core.Bool.{Bool, true, false, cond}
use mathlib.Core.List.{List, [], ◌∷◌, ◌++◌}
use native.Mathlib.Nat.{mod-eq_of_lt, mod-lt}
use native.Mathlib.Omega.{arith}
use borrow.Author.Tests.{le-ltb}
use lib.Bits.{bit_and, and_mask, and_shr, and_mod}
use lib.ListN.{length, get_or, take, drop, replicate, length-take}
use lib.Pow.{pow_pos}
use lib.Seq.{get_or-drop}
use Rattle.wire.specs.Bits.{bits, flag}
use Rattle.wire.specs.Numbers.{part, number, number_at, Bytes}
use Rattle.frame.specs.Layout.{has_cip, ethernet_of, avtp_of, stream_of, header_of, cip_of, cip_if, fields_of, cip_in}
use Rattle.frame.specs.declared.layout.Header.{Header}
use Rattle.frame.specs.declared.layout.Fields.{Fields}
use Rattle.refusal.specs.Refusals.{first_of, if_accepted}
use Rattle.frame.specs.Checks.{length_checks, stream_checks, header_checks, read_checks, frame_checks, refusal}
use Rattle.frame.specs.Reading.{reading, payload_part, payload_of}
use Rattle.frame.specs.Ignored.{regarded_header, regarded_cip, regarded, through, Alike, IgnoredBits}

-- ---- masks

-- a field that a mask leaves whole is the same through the mask
through_mask : (s w m n : ℕ) → bits s w m ≡ 2 ^ w - 1 → bits s w (bit_and n m) ≡ bits s w n
through_mask s w m n e =
    rw (and_shr n m s, and_mod (n / 2 ^ s) (m / 2 ^ s) w, e, and_mask (n / 2 ^ s % 2 ^ w) w) (mod-eq_of_lt (mod-lt (n / 2 ^ s) (pow_pos w)))

take_through : (k : ℕ) (ms bs : List ℕ) → take k (through ms bs) ≡ through (take k ms) (take k bs)
take_through zero ms bs = refl
take_through (suc k) [] bs = refl
take_through (suc k) (m ∷ ms) [] = refl
take_through (suc k) (m ∷ ms) (b ∷ bs) = ap (λ (l : List ℕ). bit_and b m ∷ l) (take_through k ms bs)

through_nil : (ms : List ℕ) → through ms [] ≡ []
through_nil [] = refl
through_nil (m ∷ ms) = refl

drop_through : (k : ℕ) (ms bs : List ℕ) → drop k (through ms bs) ≡ through (drop k ms) (drop k bs)
drop_through zero ms bs = refl
drop_through (suc k) [] bs = refl
drop_through (suc k) (m ∷ ms) [] = sym (through_nil (drop k ms))
drop_through (suc k) (m ∷ ms) (b ∷ bs) = drop_through k ms bs

part_through : (at k : ℕ) (ms bs : List ℕ) → part at k (through ms bs) ≡ through (part at k ms) (part at k bs)
part_through at k ms bs = ap (take k) (drop_through at ms bs) ∙ take_through k (drop at ms) (drop at bs)

-- bytes through masks that leave them whole
through_all : (k : ℕ) (bs : List ℕ) → Bytes bs → length bs ≤ k → through (replicate k 255) bs ≡ bs
through_all zero [] h l = refl
through_all zero (b ∷ bs) h l = absurd (omega arith)
through_all (suc k) [] h l = refl
through_all (suc k) (b ∷ bs) h l = λ i. (and_mask b 8 ∙ mod-eq_of_lt (h 0)) i ∷ through_all k bs (λ j. h (suc j)) (omega arith) i

bytes_drop : (n : ℕ) (bs : List ℕ) → Bytes bs → Bytes (drop n bs)
bytes_drop n bs h i = rw (get_or-drop n bs i 0) (h (n + i))

bytes_take : (n : ℕ) (bs : List ℕ) → Bytes bs → Bytes (take n bs)
bytes_take zero bs h i = omega arith
bytes_take (suc n) [] h i = omega arith
bytes_take (suc n) (b ∷ bs) h zero = h 0
bytes_take (suc n) (b ∷ bs) h (suc i) = bytes_take n bs (λ j. h (suc j)) i

part_bytes : (at k : ℕ) (bs : List ℕ) → Bytes bs → Bytes (part at k bs)
part_bytes at k bs h = bytes_take k (drop at bs) (bytes_drop at bs h)

part_short : (at k : ℕ) (bs : List ℕ) → length (part at k bs) ≤ k
part_short at k bs = rw (length-take k (drop at bs)) (omega arith)

-- ---- two frames that look the same through the masks

one_byte : (s w m : ℕ) → bits s w m ≡ 2 ^ w - 1 → (x y : List ℕ) → length x ≤ 1 → length y ≤ 1 → through (m ∷ []) x ≡ through (m ∷ []) y → bits s w (number x) ≡ bits s w (number y)
one_byte s w m e [] [] lx ly t = refl
one_byte s w m e [] (q ∷ y) lx ly t = let z : ◌≡◌ {A = ℕ} 0 1 = ap length t in absurd (omega arith)
one_byte s w m e (p ∷ x) [] lx ly t = let z : ◌≡◌ {A = ℕ} 1 0 = ap length t in absurd (omega arith)
one_byte s w m e (p ∷ []) (q ∷ []) lx ly t =
    let u : bit_and p m ≡ bit_and q m = ap (λ (l : List ℕ). get_or l 0 0) t in
    let v : bits s w p ≡ bits s w q = sym (through_mask s w m p e) ∙ ap (bits s w) u ∙ through_mask s w m q e in
    let one : (n : ℕ) → n * 1 + 0 ≡ n = λ n. omega arith in
    rw (one p, one q) v
one_byte s w m e (p ∷ []) (q ∷ q' ∷ y) lx ly t = absurd (omega arith)
one_byte s w m e (p ∷ p' ∷ x) (q ∷ y) lx ly t = absurd (omega arith)

-- tag, channel and sy, of bytes 40 and 41
record Packet (m n : ℕ) : Type 0 where
  tag : bits 14 2 m ≡ bits 14 2 n
  channel : bits 8 6 m ≡ bits 8 6 n
  sy : bits 0 4 m ≡ bits 0 4 n

-- in the number of two bytes the fields of the upper one are those that it has by itself
top : (p p' : ℕ) → p' < 256 → bits 14 2 (number (p ∷ p' ∷ [])) ≡ p / 64 % 4
top p p' h = ap (λ (n : ℕ). n % 4) (div p p' h)
  where
    div : (p p' : ℕ) → p' < 256 → (p * 256 + (p' * 1 + 0)) / 16384 ≡ p / 64
    div p p' h = omega arith

upper : (p p' : ℕ) → p' < 256 → bits 8 6 (number (p ∷ p' ∷ [])) ≡ p % 64
upper p p' h = ap (λ (n : ℕ). n % 64) (div p p' h)
  where
    div : (p p' : ℕ) → p' < 256 → (p * 256 + (p' * 1 + 0)) / 256 ≡ p
    div p p' h = omega arith

two_bytes : (x y : List ℕ) → Bytes x → Bytes y → length x ≤ 2 → length y ≤ 2 → through (0xFF ∷ 0x0F ∷ []) x ≡ through (0xFF ∷ 0x0F ∷ []) y → Packet (number x) (number y)
two_bytes [] [] hx hy lx ly t = record { tag = refl; channel = refl; sy = refl }
two_bytes [] (q ∷ y) hx hy lx ly t = let z : ◌≡◌ {A = ℕ} 0 1 = ap (λ (l : List ℕ). length (take 1 l)) t in absurd (omega arith)
two_bytes (p ∷ x) [] hx hy lx ly t = let z : ◌≡◌ {A = ℕ} 1 0 = ap (λ (l : List ℕ). length (take 1 l)) t in absurd (omega arith)
two_bytes (p ∷ []) (q ∷ []) hx hy lx ly t =
    let u : p % 256 ≡ q % 256 = sym (and_mask p 8) ∙ ap (λ (l : List ℕ). get_or l 0 0) t ∙ and_mask q 8 in
    let e : p ≡ q = omega (arith, hx 0, hy 0) in
    rw e (record { tag = refl; channel = refl; sy = refl })
two_bytes (p ∷ []) (q ∷ q' ∷ y) hx hy lx ly t = let z : ◌≡◌ {A = ℕ} 1 2 = ap (λ (l : List ℕ). length (take 2 l)) t in absurd (omega arith)
two_bytes (p ∷ p' ∷ x) (q ∷ []) hx hy lx ly t = let z : ◌≡◌ {A = ℕ} 2 1 = ap (λ (l : List ℕ). length (take 2 l)) t in absurd (omega arith)
two_bytes (p ∷ p' ∷ []) (q ∷ q' ∷ []) hx hy lx ly t =
    let u : p % 256 ≡ q % 256 = sym (and_mask p 8) ∙ ap (λ (l : List ℕ). get_or l 0 0) t ∙ and_mask q 8 in
    let v : p' % 16 ≡ q' % 16 = sym (and_mask p' 4) ∙ ap (λ (l : List ℕ). get_or l 1 0) t ∙ and_mask q' 4 in
    let e : p ≡ q = omega (arith, hx 0, hy 0) in
    record {
      tag = top p p' (hx 1) ∙ ap (λ (n : ℕ). n / 64 % 4) e ∙ sym (top q q' (hy 1));
      channel = upper p p' (hx 1) ∙ ap (λ (n : ℕ). n % 64) e ∙ sym (upper q q' (hy 1));
      sy = omega arith;
    }
two_bytes (p ∷ p' ∷ []) (q ∷ q' ∷ q'' ∷ y) hx hy lx ly t = absurd (omega arith)
two_bytes (p ∷ p' ∷ p'' ∷ x) (q ∷ q' ∷ y) hx hy lx ly t = absurd (omega arith)

module _ (a b : List ℕ) (ha : Bytes a) (hb : Bytes b) (ms : List ℕ) (same : through ms a ≡ through ms b) where
  part_masked : (at k : ℕ) → through (part at k ms) (part at k a) ≡ through (part at k ms) (part at k b)
  part_masked at k = sym (part_through at k ms a) ∙ ap (part at k) same ∙ part_through at k ms b

  -- bytes of which every bit is regarded
  part_same : (at k : ℕ) → part at k ms ≡ replicate k 255 → part at k a ≡ part at k b
  part_same at k e =
      sym (through_all k (part at k a) (part_bytes at k a ha) (part_short at k a))
      ∙ (rw e at (part_masked at k))
      ∙ through_all k (part at k b) (part_bytes at k b hb) (part_short at k b)

  -- a field of one byte of which every bit is regarded
  field_same : (at s w m : ℕ) → part at 1 ms ≡ m ∷ [] → bits s w m ≡ 2 ^ w - 1 → bits s w (number_at at 1 a) ≡ bits s w (number_at at 1 b)
  field_same at s w m r e = one_byte s w m e (part at 1 a) (part at 1 b) (part_short at 1 a) (part_short at 1 b) (rw r at (part_masked at 1))

  number_same : (at k : ℕ) → part at k ms ≡ replicate k 255 → number_at at k a ≡ number_at at k b
  number_same at k e = ap number (part_same at k e)

module _ (a b : List ℕ) (ha : Bytes a) (hb : Bytes b) where
  -- the header that every frame has, whatever masks come after its own
  header_same : (rest : List ℕ) → through (regarded_header ++ rest) a ≡ through (regarded_header ++ rest) b → header_of a ≡ header_of b
  unfolding header_of ethernet_of avtp_of stream_of
  header_same rest same =
      let ms = regarded_header ++ rest in
      let whole = number_same a b ha hb ms same in
      let some = field_same a b ha hb ms same in
      let vlan = whole 14 2 refl in
      let first = whole 18 1 refl in
      let packet = two_bytes (part 40 2 a) (part 40 2 b) (part_bytes 40 2 a ha) (part_bytes 40 2 b hb) (part_short 40 2 a) (part_short 40 2 b) (part_masked a b ha hb ms same 40 2) in
      λ i. record {
        ethernet = record {
          destination = whole 0 6 refl i;
          source = whole 6 6 refl i;
          tpid = whole 12 2 refl i;
          pcp = bits 13 3 (vlan i);
          cfi = flag (bits 12 1 (vlan i));
          vid = bits 0 12 (vlan i);
          ethertype = whole 16 2 refl i;
        };
        avtp = record {
          cd = flag (bits 7 1 (first i));
          subtype = bits 0 7 (first i);
          sv = flag (some 19 7 1 0xFB refl refl i);
          version = some 19 4 3 0xFB refl refl i;
          mr = flag (some 19 3 1 0xFB refl refl i);
          gv = flag (some 19 1 1 0xFB refl refl i);
          tv = flag (some 19 0 1 0xFB refl refl i);
          sequence = whole 20 1 refl i;
          tu = flag (some 21 0 1 0x01 refl refl i);
        };
        stream = record {
          id = whole 22 8 refl i;
          timestamp = whole 30 4 refl i;
          gateway_info = whole 34 4 refl i;
          data_length = whole 38 2 refl i;
          tag = packet.tag i;
          channel = packet.channel i;
          sy = packet.sy i;
        };
      }

  -- the CIP header, if there is one
  cip_same : (has : Bool) → through (regarded has) a ≡ through (regarded has) b → cip_if has a ≡ cip_if has b
  unfolding cip_of
  cip_same true same =
      let whole = number_same a b ha hb (regarded true) same in
      let some = field_same a b ha hb (regarded true) same in
      λ i. record {
        sid = some 42 0 6 0x3F refl refl i;
        dbs = whole 43 1 refl i;
        fraction_number = some 44 6 2 0xFC refl refl i;
        qpc = some 44 3 3 0xFC refl refl i;
        sph = flag (some 44 2 1 0xFC refl refl i);
        dbc = whole 45 1 refl i;
        fmt = some 46 0 6 0x3F refl refl i;
        fdf = whole 47 1 refl i;
        low_half = whole 48 2 refl i;
      }
  cip_same false same = refl

-- ---- the answer

-- the checks of the length go by whether the data is in the frame
fitting : (n m : ℕ) (f : Fields) → let k = f.header.stream.data_length in n ≤ 1518 → 42 + k ≤ n → m ≤ 1518 → 42 + k ≤ m → read_checks n f ≡ read_checks m f
unfolding read_checks length_checks header_checks stream_checks
fitting n m f hn kn hm km =
    let k = f.header.stream.data_length in
    rw (
      le-ltb n 42 (omega arith),
      le-ltb 1518 n hn,
      le-ltb (n - 42) k (omega arith),
      le-ltb m 42 (omega arith),
      le-ltb 1518 m hm,
      le-ltb (m - 42) k (omega arith),
    )

module _ (a b : List ℕ) (ha : Bytes a) (hb : Bytes b) (alike : Alike a b) where
  headers : header_of a ≡ header_of b
  headers = header_same a b ha hb (cond (cip_in (fields_of a)) regarded_cip []) alike.header

  fields_same : fields_of a ≡ fields_of b
  unfolding fields_of header_of stream_of
  fields_same =
      let cips = cip_same a b ha hb (cip_in (fields_of a)) alike.header ∙ ap (λ (h : Header). cip_if (has_cip h.stream.tag) b) headers in
      λ i. record { header = headers i; cip = cips i }

  refusal_same : refusal a ≡ refusal b
  unfolding refusal frame_checks fields_of header_of stream_of
  refusal_same =
      let f : fields_of a ≡ fields_of b = fields_same in
      let k : number_at 38 2 a ≡ number_at 38 2 b = ap (λ (h : Header). h.stream.data_length) headers in
      ⊎_elim
      (λ l. rw f (ap (λ (n : ℕ). first_of (read_checks n (fields_of b))) l))
      (λ w. rw f (ap first_of (fitting (length a) (length b) (fields_of b) w.0.0 (rw (← k) w.0.1) w.1.0 w.1.1)))
      alike.lengths

  reading_same : reading a ≡ reading b
  unfolding reading
  reading_same = rw (refusal_same, fields_same)

  payload_same : payload_of a ≡ payload_of b
  unfolding payload_of fields_of header_of stream_of
  payload_same =
      let same = alike.payload ∙ ap (λ (h : Header). payload_part (has_cip h.stream.tag) h.stream.data_length b) headers in
      rw (refusal_same) (ap (λ (p : List ℕ). if_accepted (refusal b) p []) same)

pub ignored_bits : IgnoredBits
ignored_bits a b ha hb alike = (reading_same a b ha hb alike, payload_same a b ha hb alike)
