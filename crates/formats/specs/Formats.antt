-- Files that are no captures, by how they start. No record that a capture can have starts so: its kind would be
-- none of 1, 2, 3 and 5 (request #107).
use Rattle.std.specs.Prelude.{ℕ, cond, List, [], ◌∷◌, Option, Some, None}
use Rattle.text.specs.Text.{ascii}
use Rattle.words.specs.Words.{starts_with}
use Rattle.messages.specs.Messages.{message}
use Rattle.formats.specs.declared.Format.{Format}
use Rattle.formats.specs.declared.Format.TheVariants.{Pcap, Pcapng, Gzip}

-- pcap's number, with times in microseconds or nanoseconds and in either byte order; pcapng's first block; gzip's two bytes and the one
-- method that it has
unfoldable pub start_of : List ℕ → Option Format
start_of bytes =
    cond (starts_with (0x0A ∷ 0x0D ∷ 0x0D ∷ 0x0A ∷ []) bytes) (Some Pcapng)
    (cond (starts_with (0x1F ∷ 0x8B ∷ 0x08 ∷ []) bytes) (Some Gzip)
    (cond (starts_with (0xA1 ∷ 0xB2 ∷ 0xC3 ∷ 0xD4 ∷ []) bytes) (Some Pcap)
    (cond (starts_with (0xD4 ∷ 0xC3 ∷ 0xB2 ∷ 0xA1 ∷ []) bytes) (Some Pcap)
    (cond (starts_with (0xA1 ∷ 0xB2 ∷ 0x3C ∷ 0x4D ∷ []) bytes) (Some Pcap)
    (cond (starts_with (0x4D ∷ 0x3C ∷ 0xB2 ∷ 0xA1 ∷ []) bytes) (Some Pcap)
    None)))))

-- what is said of a file with such a start
abbrev pub said_of : Format → List ℕ
said_of Pcap = ascii "starts like a pcap file; a capture has a format of its own (see --help)"
said_of Pcapng = ascii "starts like a pcapng file; a capture has a format of its own (see --help)"
said_of Gzip = ascii "starts like a gzip file; unpack it first"

-- the message that says it, if there is any
abbrev pub hint_of : List ℕ → List ℕ → Option Format → List ℕ
hint_of program name None = []
hint_of program name (Some format) = message program name (said_of format)
