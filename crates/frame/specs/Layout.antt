-- Where each field of a frame stands (document 01, Frame layout; IEEE 1722-2011, clauses 5 and 6; IEC 61883-1).
-- The reader takes the fields out by these rows, and the writer puts them in by the same rows.
use Rattle.std.specs.Prelude.{ℕ, ◌+◌, Bool, true, false, cond, List, [], ◌∷◌, eqb}
use Rattle.wire.specs.Bits.{field, flag}
use Rattle.wire.specs.Numbers.{number_at}
use Rattle.frame.specs.declared.layout.Ethernet.{Ethernet}
use Rattle.frame.specs.declared.layout.Avtp.{Avtp}
use Rattle.frame.specs.declared.layout.Stream.{Stream}
use Rattle.frame.specs.declared.layout.Cip.{Cip}
use Rattle.frame.specs.declared.layout.Header.{Header}
use Rattle.frame.specs.declared.layout.Fields.{Fields}

-- ---- Rows of several fields: their widths in bits, from the top

-- bytes 14 to 15: PCP, CFI, VID
abbrev pub vlan_row : List ℕ
vlan_row = 3 ∷ 1 ∷ 12 ∷ []

-- byte 18: cd, subtype
abbrev pub subtype_row : List ℕ
subtype_row = 1 ∷ 7 ∷ []

-- byte 19: sv, version, mr, r, gv, tv
abbrev pub valid_row : List ℕ
valid_row = 1 ∷ 3 ∷ 1 ∷ 1 ∷ 1 ∷ 1 ∷ []

-- byte 21: reserved, tu
abbrev pub uncertain_row : List ℕ
uncertain_row = 7 ∷ 1 ∷ []

-- bytes 40 to 41: tag, channel, tcode, sy
abbrev pub packet_row : List ℕ
packet_row = 2 ∷ 6 ∷ 4 ∷ 4 ∷ []

-- byte 42: indicator, SID
abbrev pub source_row : List ℕ
source_row = 2 ∷ 6 ∷ []

-- byte 44: FN, QPC, SPH, reserved
abbrev pub fraction_row : List ℕ
fraction_row = 2 ∷ 3 ∷ 1 ∷ 2 ∷ []

-- byte 46: indicator, FMT
abbrev pub format_row : List ℕ
format_row = 2 ∷ 6 ∷ []

-- ---- The fields of a frame. r, the reserved bits, tcode and both indicators are not among them: readers ignore them.

-- bytes 0 to 17
unfoldable pub ethernet_of : List ℕ → Ethernet
ethernet_of bs =
    record {
      destination = number_at 0 6 bs;
      source = number_at 6 6 bs;
      tpid = number_at 12 2 bs;
      pcp = field 0 vlan_row (number_at 14 2 bs);
      cfi = flag (field 1 vlan_row (number_at 14 2 bs));
      vid = field 2 vlan_row (number_at 14 2 bs);
      ethertype = number_at 16 2 bs;
    }

-- bytes 18 to 21: the AVTPDU starts at byte 18
unfoldable pub avtp_of : List ℕ → Avtp
avtp_of bs =
    record {
      cd = flag (field 0 subtype_row (number_at 18 1 bs));
      subtype = field 1 subtype_row (number_at 18 1 bs);
      sv = flag (field 0 valid_row (number_at 19 1 bs));
      version = field 1 valid_row (number_at 19 1 bs);
      mr = flag (field 2 valid_row (number_at 19 1 bs));
      gv = flag (field 4 valid_row (number_at 19 1 bs));
      tv = flag (field 5 valid_row (number_at 19 1 bs));
      sequence = number_at 20 1 bs;
      tu = flag (field 1 uncertain_row (number_at 21 1 bs));
    }

-- bytes 22 to 41
unfoldable pub stream_of : List ℕ → Stream
stream_of bs =
    record {
      id = number_at 22 8 bs;
      timestamp = number_at 30 4 bs;
      gateway_info = number_at 34 4 bs;
      data_length = number_at 38 2 bs;
      tag = field 0 packet_row (number_at 40 2 bs);
      channel = field 1 packet_row (number_at 40 2 bs);
      sy = field 3 packet_row (number_at 40 2 bs);
    }

-- the first 42 bytes, whatever the stream carries
unfoldable pub header_of : List ℕ → Header
header_of bs = record { ethernet = ethernet_of bs; avtp = avtp_of bs; stream = stream_of bs }

-- tag 1 alone says that a CIP header follows; with tag 0 there is none (request #108)
abbrev pub has_cip : ℕ → Bool
has_cip tag = eqb tag 1

-- a CIP header has 8 bytes, and the payload starts behind it or, where there is none, at byte 42
abbrev pub cip_length : Bool → ℕ
cip_length has = cond has 8 0

abbrev pub payload_start : Bool → ℕ
payload_start has = 42 + cip_length has

-- bytes 42 to 49: the CIP header
unfoldable pub cip_of : List ℕ → Cip
cip_of bs =
    record {
      sid = field 1 source_row (number_at 42 1 bs);
      dbs = number_at 43 1 bs;
      fraction_number = field 0 fraction_row (number_at 44 1 bs);
      qpc = field 1 fraction_row (number_at 44 1 bs);
      sph = flag (field 2 fraction_row (number_at 44 1 bs));
      dbc = number_at 45 1 bs;
      fmt = field 1 format_row (number_at 46 1 bs);
      fdf = number_at 47 1 bs;
      low_half = number_at 48 2 bs;
    }

-- where there is none, "its fields read as 0"; SPH too, so that a presentation time goes by the AVTP timestamp
unfoldable pub no_cip : Cip
no_cip = record { sid = 0; dbs = 0; fraction_number = 0; qpc = 0; sph = false; dbc = 0; fmt = 0; fdf = 0; low_half = 0 }

abbrev pub cip_if : Bool → List ℕ → Cip
cip_if true bs = cip_of bs
cip_if false bs = no_cip

unfoldable pub fields_of : List ℕ → Fields
fields_of bs = record { header = header_of bs; cip = cip_if (has_cip (header_of bs).stream.tag) bs }

-- whether fields are those of a frame with a CIP header
abbrev pub cip_in : Fields → Bool
cip_in f = has_cip f.header.stream.tag
