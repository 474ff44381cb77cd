-- The marked examples of document 01, M1 to M12: one list, and one claim about it.
use Rattle.std.specs.Prelude.{ℕ, ◌/◌, ◌%◌, ◌≡◌, List, [], ◌∷◌, ◌++◌, ℤ, pos, neg_ℤ, replicate, take}
use Rattle.frame.specs.Checks.{refusal}
use Rattle.frame.specs.Layout.{fields_of}
use Rattle.frame.specs.Reading.{payload_of, blocks_of}
use Rattle.presentation.specs.declared.Kind.{Kind}
use Rattle.presentation.specs.declared.Kind.TheVariants.{Outside, Late, Ahead}
use Rattle.presentation.specs.Presentation.{timing}
use Rattle.stream.specs.declared.Record.{Record}
use Rattle.stream.specs.declared.Flags.{Flags}
use Rattle.stream.specs.Records.{admitted}
use Rattle.stream.specs.Answers.{no_flags, answer_of, after}

-- the first 42 bytes of a sound frame of stream 1: this sequence number and stream_data_length
abbrev header : ℕ → ℕ → List ℕ
header sequence n =
    0x91 ∷ 0xE0 ∷ 0xF0 ∷ 0x00 ∷ 0xFE ∷ 0x01 ∷ 0x02 ∷ 0x00 ∷ 0x00 ∷ 0x00 ∷ 0x00 ∷ 0x01 ∷ 0x81 ∷ 0x00 ∷ 0x60 ∷ 0x02 ∷ 0x22 ∷ 0xF0
    ∷ 0x00 ∷ 0x81 ∷ sequence ∷ 0x00 ∷ 0x00 ∷ 0x00 ∷ 0x00 ∷ 0x00 ∷ 0x00 ∷ 0x00 ∷ 0x00 ∷ 0x01 ∷ 0x00 ∷ 0x00 ∷ 0x0B ∷ 0xB8
    ∷ 0x00 ∷ 0x00 ∷ 0x00 ∷ 0x00 ∷ n / 256 ∷ n % 256 ∷ 0x5F ∷ 0xA0 ∷ []

-- its CIP header: this DBS and DBC
abbrev cip : ℕ → ℕ → List ℕ
cip dbs dbc = 0x3F ∷ dbs ∷ 0x00 ∷ dbc ∷ 0x90 ∷ 0x02 ∷ 0xFF ∷ 0xFF ∷ []

-- a frame with this sequence number, stream_data_length, DBS and DBC, and as many payload bytes as that
abbrev frame : ℕ → ℕ → ℕ → ℕ → ℕ → List ℕ
frame sequence n dbs dbc bytes = header sequence n ++ cip dbs dbc ++ replicate bytes 7

pub data Example : Type 0 where
  -- a frame, the number that it is answered, and its blocks
  read : List ℕ → ℕ → ℕ → Example
  -- a frame, its blocks, and the next block count after it
  next_count : List ℕ → ℕ → ℕ → Example
  -- successive frames of a newly admitted stream, and their flags
  flags : List (List ℕ) → List Flags → Example
  -- L, T, and what is reckoned: d, kind and time
  time : ℕ → ℕ → ℤ → Kind → ℕ → Example

abbrev flags_of_each : Record → List (List ℕ) → List Flags
flags_of_each r [] = []
flags_of_each r (f ∷ fs) = (answer_of r f 0).flags ∷ flags_of_each (after r f 0) fs

abbrev Reads : List ℕ → ℕ → ℕ → Type 0
Reads f n blocks = (refusal f ≡ n) × (blocks_of (payload_of f) (fields_of f).cip.dbs ≡ blocks)

abbrev AllAccepted : List (List ℕ) → Type 0
AllAccepted [] = Unit {0}
AllAccepted (f ∷ fs) = (refusal f ≡ 0) × AllAccepted fs

-- the rules answer an example as document 01 has it
abbrev pub Holds : Example → Type 0
Holds (read f n blocks) = Reads f n blocks
Holds (next_count f blocks n) = Reads f 0 blocks × ((after (admitted 1) f 0).next_dbc ≡ n)
Holds (flags fs raised) = AllAccepted fs × (flags_of_each (admitted 1) fs ≡ raised)
Holds (time L T d kind t) = timing L T ≡ record { kind = kind; offset = d; time = t }

abbrev pub AllHold : List Example → Type 0
AllHold [] = Unit {0}
AllHold (e ∷ es) = Holds e × AllHold es

abbrev pub marked : List Example
marked =
    -- M1 to M5
    read (take 41 (header 0 0)) 1 0
    ∷ read (header 0 0) 13 0
    ∷ read (frame 0 8 6 0 0) 0 0
    ∷ read (frame 0 1032 0 0 1024) 0 1
    ∷ read (frame 0 1028 0 0 1020) 14 0
    -- M6, M7
    ∷ next_count (frame 0 40 1 250 32) 8 2
    ∷ next_count (frame 0 1476 1 10 1468) 367 121
    -- M8
    ∷ flags (frame 255 8 1 0 0 ∷ frame 0 8 1 0 0 ∷ frame 1 8 1 0 0 ∷ []) (no_flags ∷ no_flags ∷ no_flags ∷ [])
    -- M9 to M12
    ∷ time 4_294_967_290 10 (pos 16) Ahead 4_294_967_306
    ∷ time 4_294_967_306 4_294_967_290 (neg_ℤ (pos 16)) Late 4_294_967_290
    ∷ time 10 4_294_967_290 (neg_ℤ (pos 16)) Outside 0
    ∷ time 5 5 (pos 0) Ahead 5
    ∷ []

abbrev pub MarkedExamples : Type 0
MarkedExamples = AllHold marked
