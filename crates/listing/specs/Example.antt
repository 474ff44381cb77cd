-- Worked listings. Document 01's: admit 1; a frame of stream 1 with L 1000, T 3000; a frame of stream 2; remove 1, which is no longer obeyed
-- (request #109).
use Rattle.std.specs.Prelude.{◌≡◌, ℕ, ◌+◌, List, [], ◌∷◌, ◌++◌, map, reverse, length, take}
use Rattle.std.proofs.Math.Option.{none, some}
use Rattle.wire.specs.Numbers.{bytes}
use Rattle.text.specs.Text.{ascii}
use Rattle.listing.specs.Listing.{Said, visit, listing}

-- the first 42 bytes of a frame: the byte of sv, mr and tv, the sequence number, id, timestamp, stream_data_length, and the two bytes of
-- tag, channel, tcode and sy (before them stand destination, source, VLAN tag, Ethertype and the AVTPDU's first byte)
abbrev header_with : ℕ → ℕ → ℕ → ℕ → ℕ → ℕ → List ℕ
header_with bits sequence id timestamp n packet =
    bytes 6 0x91E0F0000001 ++ bytes 6 0x020000000001 ++ bytes 2 0x8100 ++ bytes 2 0x6002 ++ bytes 2 0x22F0
    ++ bytes 1 0x00 ++ bytes 1 bits ++ bytes 1 sequence ++ bytes 1 0
    ++ bytes 8 id ++ bytes 4 timestamp ++ bytes 4 0 ++ bytes 2 n
    ++ bytes 2 packet

-- a sound frame of a stream without blocks, with this CIP header
abbrev pub frame_with : ℕ → ℕ → ℕ → ℕ → ℕ → List ℕ
frame_with bits sequence id timestamp cip = header_with bits sequence id timestamp 8 0x5FA0 ++ bytes 8 cip

-- one without a CIP header, as a camera sends, and with three bytes of payload
abbrev camera_frame : ℕ → ℕ → ℕ → List ℕ
camera_frame sequence id timestamp = header_with 0x81 sequence id timestamp 3 0x1FA0 ++ bytes 3 0x3F06FF

-- with an AVTP timestamp
abbrev pub sound_frame : ℕ → ℕ → List ℕ
sound_frame id timestamp = frame_with 0x81 0 id timestamp 0x000600009002FFFF

-- a record: the length of what follows in it, the kind and the body
abbrev pub record_bytes : ℕ → List ℕ → List ℕ
record_bytes kind body = reverse (bytes 2 (2 + length body)) ++ reverse (bytes 2 kind) ++ body

unfoldable pub example_capture : List ℕ
example_capture =
    record_bytes 2 (bytes 8 1)
    ++ record_bytes 1 (reverse (bytes 8 1000) ++ sound_frame 1 3000)
    ++ record_bytes 1 (reverse (bytes 8 2000) ++ sound_frame 2 3000)
    ++ record_bytes 3 (bytes 8 1)

unfoldable pub example_listing : List ℕ
example_listing =
    ascii "avtp listing 1\n"
    ++ ascii "1 admitted\n"
    ++ ascii "2 frame seq=ok dbc=ok fmt=ok mr=ok time=ahead offset=2000\n"
    ++ ascii "3 refused 15\n"
    ++ ascii "4 refused 44\n"
    ++ ascii "end records=4\n"

-- stream 1 is admitted with the limit 1,999, and has that frame; stream 2 is to be admitted with one that is too large (request #107)
unfoldable pub limit_capture : List ℕ
limit_capture =
    record_bytes 5 (bytes 8 1 ++ reverse (bytes 4 1999))
    ++ record_bytes 1 (reverse (bytes 8 1000) ++ sound_frame 1 3000)
    ++ record_bytes 5 (bytes 8 2 ++ reverse (bytes 4 2_147_483_648))

unfoldable pub limit_listing : List ℕ
limit_listing =
    ascii "avtp listing 1\n"
    ++ ascii "1 admitted\n"
    ++ ascii "2 frame seq=ok dbc=ok fmt=ok mr=ok time=far offset=2000\n"
    ++ ascii "3 refused 24\n"
    ++ ascii "end records=3\n"

-- a camera's frames and those of a tape deck in one stream: tags 0, 1, 0, 0, 1, 1 and 2, the second with tag 0 without a payload, and
-- the counts 7, 7 and 8 (request #108)
unfoldable pub mixed_capture : List ℕ
mixed_capture =
    record_bytes 2 (bytes 8 1)
    ++ record_bytes 1 (reverse (bytes 8 1000) ++ camera_frame 0 1 3000)
    ++ record_bytes 1 (reverse (bytes 8 1000) ++ frame_with 0x81 1 1 3000 0x000600079002FFFF)
    ++ record_bytes 1 (reverse (bytes 8 1000) ++ header_with 0x81 2 1 3000 0 0x1FA0)
    ++ record_bytes 1 (reverse (bytes 8 1000) ++ camera_frame 3 1 3000)
    ++ record_bytes 1 (reverse (bytes 8 1000) ++ frame_with 0x81 4 1 3000 0x000600079002FFFF)
    ++ record_bytes 1 (reverse (bytes 8 1000) ++ frame_with 0x81 5 1 3000 0x000600089002FFFF)
    ++ record_bytes 1 (reverse (bytes 8 1000) ++ header_with 0x81 6 1 3000 0 0x9FA0)

unfoldable pub mixed_listing : List ℕ
mixed_listing =
    ascii "avtp listing 1\n"
    ++ ascii "1 admitted\n"
    ++ ascii "2 frame seq=ok dbc=none fmt=ok mr=ok time=ahead offset=2000\n"
    ++ ascii "3 frame seq=ok dbc=ok fmt=change mr=ok time=ahead offset=2000\n"
    ++ ascii "4 frame seq=ok dbc=none fmt=change mr=ok time=ahead offset=2000\n"
    ++ ascii "5 frame seq=ok dbc=none fmt=ok mr=ok time=ahead offset=2000\n"
    ++ ascii "6 frame seq=ok dbc=ok fmt=change mr=ok time=ahead offset=2000\n"
    ++ ascii "7 frame seq=ok dbc=break fmt=ok mr=ok time=ahead offset=2000\n"
    ++ ascii "8 refused 12\n"
    ++ ascii "end records=8\n"

-- stream 1 is to be removed before it is admitted and between its frames, and stream 3, which isn't admitted, is to be removed: none of it is
-- obeyed, so stream 1 keeps its place, its frames are judged on, and it can't be admitted again (request #109)
unfoldable pub retired_capture : List ℕ
retired_capture =
    record_bytes 3 (bytes 8 1)
    ++ record_bytes 2 (bytes 8 1)
    ++ record_bytes 1 (reverse (bytes 8 1000) ++ frame_with 0x81 4 1 3000 0x000600079002FFFF)
    ++ record_bytes 3 (bytes 8 1)
    ++ record_bytes 2 (bytes 8 2)
    ++ record_bytes 1 (reverse (bytes 8 1000) ++ frame_with 0x81 5 1 3000 0x000600079002FFFF)
    ++ record_bytes 3 (bytes 8 1)
    ++ record_bytes 3 (bytes 8 3)
    ++ record_bytes 3 (bytes 9 1)
    ++ record_bytes 2 (bytes 8 1)
    ++ record_bytes 1 (reverse (bytes 8 1000) ++ frame_with 0x81 9 1 3000 0x000600079002FFFF)

unfoldable pub retired_listing : List ℕ
retired_listing =
    ascii "avtp listing 1\n"
    ++ ascii "1 refused 44\n"
    ++ ascii "2 admitted\n"
    ++ ascii "3 frame seq=ok dbc=ok fmt=ok mr=ok time=ahead offset=2000\n"
    ++ ascii "4 refused 44\n"
    ++ ascii "5 admitted\n"
    ++ ascii "6 frame seq=ok dbc=ok fmt=ok mr=ok time=ahead offset=2000\n"
    ++ ascii "7 refused 44\n"
    ++ ascii "8 refused 44\n"
    ++ ascii "9 refused 42\n"
    ++ ascii "10 refused 21\n"
    ++ ascii "11 frame seq=break dbc=ok fmt=ok mr=ok time=ahead offset=2000\n"
    ++ ascii "end records=11\n"

pub record WorkedExample : Type 0 where
  pub whole : listing example_capture ≡ example_listing
  -- the stream that each record is about
  pub streams : map (λ (x : Said). x.stream) (visit example_capture).0 ≡ some 1 ∷ some 1 ∷ none ∷ none ∷ []
  -- an empty capture lists the first and last line
  pub empty : listing [] ≡ ascii "avtp listing 1\nend records=0\n"
  pub limits : listing limit_capture ≡ limit_listing
  pub mixed : listing mixed_capture ≡ mixed_listing
  pub retired : listing retired_capture ≡ retired_listing
  -- a cut record is listed and counted too
  pub cut : listing (take 15 example_capture) ≡ ascii "avtp listing 1\n1 admitted\n2 refused 41\nend records=2\n"
