-- The checks of a received frame, in their order (document 01, Numbers answered; requests #105 and #108).
use Rattle.std.specs.Prelude.{ℕ, zero, suc, ◌-◌, ◌*◌, ◌%◌, Bool, not, ◌||◌, cond, List, [], ◌∷◌, ◌++◌, length, ltb}
use Rattle.wire.specs.Bits.{bits, flag}
use Rattle.frame.specs.declared.layout.Ethernet.{Ethernet}
use Rattle.frame.specs.declared.layout.Avtp.{Avtp}
use Rattle.frame.specs.declared.layout.Stream.{Stream}
use Rattle.frame.specs.declared.layout.Cip.{Cip}
use Rattle.frame.specs.declared.layout.Header.{Header}
use Rattle.frame.specs.declared.layout.Fields.{Fields}
use Rattle.frame.specs.Layout.{fields_of, cip_in}
use Rattle.refusal.specs.Refusals.{Check, ◌answers◌, first_of, differs}

-- a group address: the lowest bit of the first of its six bytes is 1
abbrev pub is_group : ℕ → Bool
is_group address = flag (bits 40 1 address)

-- the destination is not a group address, or the source is one
unfoldable pub misaddressed : ℕ → ℕ → Bool
misaddressed destination source = not (is_group destination) || is_group source

-- a block is 4 × DBS bytes, and DBS 0 stands for 256 quadlets
abbrev pub quadlets : ℕ → ℕ
quadlets zero = 256
quadlets (suc n) = suc n

unfoldable pub block_bytes : ℕ → ℕ
block_bytes dbs = 4 * quadlets dbs

-- n bytes are not a whole number of blocks
abbrev pub partial_block : ℕ → ℕ → Bool
partial_block n dbs = differs (n % block_bytes dbs) 0

-- ---- The table, for a frame of n bytes

unfoldable pub length_checks : ℕ → List Check
length_checks n =
    ltb n 42 answers 1
    ∷ ltb 1518 n answers 2
    ∷ []

unfoldable pub ethernet_checks : Ethernet → List Check
ethernet_checks e =
    differs e.tpid 0x8100 answers 3
    ∷ e.cfi answers 4
    ∷ differs e.ethertype 0x22F0 answers 5
    ∷ []

unfoldable pub avtp_checks : Avtp → List Check
avtp_checks a =
    a.cd answers 6
    ∷ differs a.subtype 0 answers 7
    ∷ differs a.version 0 answers 8
    ∷ not a.sv answers 9
    ∷ []

unfoldable pub address_checks : Ethernet → List Check
address_checks e =
    misaddressed e.destination e.source answers 10
    ∷ []

unfoldable pub stream_checks : ℕ → Stream → List Check
stream_checks n s =
    ltb (n - 42) s.data_length answers 11
    ∷ ltb 1 s.tag answers 12
    ∷ []

unfoldable pub block_checks : Stream → Cip → List Check
block_checks s c =
    differs c.qpc 0 answers 16
    ∷ partial_block (s.data_length - 8) c.dbs answers 14
    ∷ []

-- what is asked of a frame with a CIP header: 13, and 16 before 14
unfoldable pub cip_checks : Stream → Cip → List Check
cip_checks s c = ltb s.data_length 8 answers 13 ∷ block_checks s c

unfoldable pub header_checks : ℕ → Header → List Check
header_checks n h =
    ethernet_checks h.ethernet
    ++ avtp_checks h.avtp
    ++ address_checks h.ethernet
    ++ stream_checks n h.stream

abbrev pub asked_if : Bool → List Check → List Check
asked_if b checks = cond b checks []

-- 13, 16 and 14 "are asked for tag 1 only"
unfoldable pub read_checks : ℕ → Fields → List Check
read_checks n f =
    length_checks n
    ++ header_checks n f.header
    ++ asked_if (cip_in f) (cip_checks f.header.stream f.cip)

unfoldable pub frame_checks : List ℕ → List Check
frame_checks frame = read_checks (length frame) (fields_of frame)

-- the number that a frame is answered, 0 where it is accepted
unfoldable pub refusal : List ℕ → ℕ
refusal frame = first_of (frame_checks frame)
