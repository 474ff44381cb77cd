-- Readers ignore r, the reserved bits, tcode and both indicators, with tag 0 those of the first 42 bytes alone; and bytes after the payload
-- are not looked at (document 01, Frame layout; request #108).
use Rattle.std.specs.Prelude.{ℕ, ◌+◌, ◌≤◌, ◌≡◌, ◌⊎◌, Bool, cond, List, [], ◌∷◌, ◌++◌, length, replicate}
use Rattle.std.specs.Int.Bits.{bit_and}
use Rattle.wire.specs.Numbers.{number_at, Bytes}
use Rattle.frame.specs.Layout.{fields_of, cip_in}
use Rattle.frame.specs.Reading.{reading, payload_part, payload_of}

-- the bits of a frame's first 42 bytes at which a reader looks: all but r (byte 19), the reserved bits (21) and tcode (41)
abbrev pub regarded_header : List ℕ
regarded_header = replicate 19 0xFF ++ 0xFB ∷ 0xFF ∷ 0x01 ∷ replicate 19 0xFF ++ 0x0F ∷ []

-- and those of a CIP header: all but the indicators (42 and 46) and the reserved bits (44)
abbrev pub regarded_cip : List ℕ
regarded_cip = 0x3F ∷ 0xFF ∷ 0xFC ∷ 0xFF ∷ 0x3F ∷ 0xFF ∷ 0xFF ∷ 0xFF ∷ []

abbrev pub regarded : Bool → List ℕ
regarded has = regarded_header ++ cond has regarded_cip []

-- a list of bytes through a list of masks
abbrev pub through : List ℕ → List ℕ → List ℕ
through [] bs = []
through (m ∷ ms) [] = []
through (m ∷ ms) (b ∷ bs) = bit_and b m ∷ through ms bs

-- the frame is not too long, and its data is in it
abbrev pub DataWithin : List ℕ → Type 0
DataWithin frame = (length frame ≤ 1518) × (42 + number_at 38 2 frame ≤ length frame)

-- two frames that differ only in ignored bits and after the payload, of one length or with padding of different lengths. Tag and
-- stream_data_length are those of a, and b has the same, since they are regarded.
pub record Alike (a b : List ℕ) : Type 0 where
  pub header : through (regarded (cip_in (fields_of a))) a ≡ through (regarded (cip_in (fields_of a))) b
  pub payload : payload_part (cip_in (fields_of a)) (number_at 38 2 a) a ≡ payload_part (cip_in (fields_of a)) (number_at 38 2 a) b
  pub lengths : (length a ≡ length b) ⊎ (DataWithin a × DataWithin b)

-- they are answered the same
abbrev pub IgnoredBits : Type 0
IgnoredBits = (a b : List ℕ) → Bytes a → Bytes b → Alike a b → (reading a ≡ reading b) × (payload_of a ≡ payload_of b)
