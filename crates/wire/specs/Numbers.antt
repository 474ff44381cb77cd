-- Numbers on the wire are big-endian (document 01, Frame layout): rows of fields of eight bits.
use Rattle.std.specs.Prelude.{ℕ, ◌+◌, ◌<◌, cond, List, reverse, length, get_or, take, drop, replicate, leb}
use Rattle.wire.specs.Bits.{pack, unpack}

-- every element is a byte; past its end a list reads as 0
abbrev pub Bytes : List ℕ → Type 0
Bytes bs = (i : ℕ) → get_or bs i 0 < 256

-- the row of k bytes
abbrev pub octets : ℕ → List ℕ
octets k = replicate k 8

-- the number that bytes spell, the first byte the most significant
abbrev pub number : List ℕ → ℕ
number bs = pack (octets (length bs)) bs

-- the lowest k bytes of n
abbrev pub bytes : ℕ → ℕ → List ℕ
bytes k n = unpack (octets k) n

-- the k bytes of bs from place at on
abbrev pub part : ℕ → ℕ → List ℕ → List ℕ
part at k bs = take k (drop at bs)

-- the number in them
abbrev pub number_at : ℕ → ℕ → List ℕ → ℕ
number_at at k bs = number (part at k bs)

-- what a spelling of bytes gives for them, and 0 where bs ends before they do
abbrev pub spelled_or_0 : (List ℕ → ℕ) → ℕ → ℕ → List ℕ → ℕ
spelled_or_0 spelled at k bs = cond (leb (at + k) (length bs)) (spelled (part at k bs)) 0

abbrev pub number_or_0 : ℕ → ℕ → List ℕ → ℕ
number_or_0 at k bs = spelled_or_0 number at k bs

-- ---- A capture's own numbers are little-endian (document 01, Capture and listing)

-- the number that bytes spell, the first byte the least significant
abbrev pub little_endian : List ℕ → ℕ
little_endian bs = number (reverse bs)

abbrev pub little_endian_or_0 : ℕ → ℕ → List ℕ → ℕ
little_endian_or_0 at k bs = spelled_or_0 little_endian at k bs
