-- The blocks of a frame by their counts, and which of them open a source packet (request #102; IEC 61883-1).
use Rattle.std.specs.Prelude.{ℕ, zero, suc, ◌+◌, ◌*◌, ◌%◌, ◌<◌, ◌≡◌, Bool, true, false, cond, List, eqb, Option, None, Some}
use Rattle.wire.specs.Bits.{bits}
use Rattle.wire.specs.Numbers.{part}
use Rattle.frame.specs.declared.layout.Cip.{Cip}
use Rattle.frame.specs.Checks.{block_bytes}
use Rattle.frame.specs.Reading.{blocks_of}

-- ---- the blocks, counted from 0

-- how many whole blocks a payload has
abbrev pub blocks_in : Cip → List ℕ → ℕ
blocks_in c payload = blocks_of payload c.dbs

-- the bytes of block i
abbrev pub block_at : Cip → List ℕ → ℕ → List ℕ
block_at c payload i = part (i * block_bytes c.dbs) (block_bytes c.dbs) payload

-- its count: that of block 0 is DBC, and each later one is one higher, modulo 256
abbrev pub count_of : Cip → ℕ → ℕ
count_of c i = (c.dbc + i) % 256

-- ---- source packets

-- A source packet is 2 to the power FN blocks, and "its header opens the block whose count has its lowest FN bits zero". (FN is at most 3
-- in a frame; a count has eight bits, so from 8 on it is all of them.)
unfoldable pub is_start : Cip → ℕ → Bool
is_start c i = eqb (bits 0 c.fraction_number (count_of c i)) 0

-- the first of the n blocks from block i on that is such a block, none if none is
unfoldable pub start_from : Cip → ℕ → ℕ → Option ℕ
start_from c i zero = None
start_from c i (suc n) = cond (is_start c i) (Some i) (start_from c (suc i) n)

-- "the first such block in the frame"
unfoldable pub first_start : Cip → List ℕ → Option ℕ
first_start c payload = start_from c 0 (blocks_in c payload)

-- ---- what is meant by the first

-- block i is a start, and no block before it is
pub record Earliest (c : Cip) (i : ℕ) : Type 0 where
  pub start : is_start c i ≡ true
  pub first : (j : ℕ) → j < i → is_start c j ≡ false

-- none, where no block of the frame is a start; else one of its blocks, and the earliest
abbrev pub IsFirstStart : Cip → List ℕ → Option ℕ → Type 0
IsFirstStart c payload None = (i : ℕ) → i < blocks_in c payload → is_start c i ≡ false
IsFirstStart c payload (Some i) = (i < blocks_in c payload) × Earliest c i
