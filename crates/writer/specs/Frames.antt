-- The bytes of a written frame (document 01, Frame layout; request #108). The rows are those by which the reader takes the fields out.
use Rattle.std.specs.Prelude.{ℕ, ◌+◌, Bool, cond, List, [], ◌∷◌, ◌++◌, length}
use Rattle.wire.specs.Bits.{pack, bit}
use Rattle.wire.specs.Numbers.{bytes}
use Rattle.frame.specs.Layout.{vlan_row, subtype_row, valid_row, uncertain_row, packet_row, source_row, fraction_row, format_row, has_cip, cip_length, payload_start}
use Rattle.writer.specs.declared.Sender.{Sender}
use Rattle.writer.specs.declared.given.EthernetFields.{EthernetFields}
use Rattle.writer.specs.declared.given.AvtpFields.{AvtpFields}
use Rattle.writer.specs.declared.given.StreamFields.{StreamFields}
use Rattle.writer.specs.declared.given.CipFields.{CipFields}
use Rattle.writer.specs.declared.given.Given.{Given}

-- ---- The values that stand in the rows of several fields, from the top

-- PCP, CFI, VID
abbrev pub vlan_values : EthernetFields → List ℕ
vlan_values a = a.pcp ∷ 0 ∷ a.vid ∷ []

-- cd, subtype
abbrev pub subtype_values : List ℕ
subtype_values = 0 ∷ 0 ∷ []

-- sv, version, mr, r, gv, tv
abbrev pub valid_values : AvtpFields → List ℕ
valid_values m = 1 ∷ 0 ∷ bit m.mr ∷ 0 ∷ bit m.gv ∷ bit m.tv ∷ []

-- reserved, tu
abbrev pub uncertain_values : AvtpFields → List ℕ
uncertain_values m = 0 ∷ bit m.tu ∷ []

-- tag, channel, tcode, sy
abbrev pub packet_values : StreamFields → List ℕ
packet_values o = o.tag ∷ o.channel ∷ 10 ∷ o.sy ∷ []

-- indicator, SID
abbrev pub source_values : CipFields → List ℕ
source_values f = 0 ∷ f.sid ∷ []

-- FN, QPC, SPH, reserved
abbrev pub fraction_values : CipFields → List ℕ
fraction_values f = f.fraction_number ∷ f.qpc ∷ bit f.sph ∷ 0 ∷ []

-- indicator, FMT
abbrev pub format_values : CipFields → List ℕ
format_values f = 2 ∷ f.fmt ∷ []

-- ---- The bytes

-- bytes 0 to 17: destination, source, TPID, the VLAN tag, Ethertype
unfoldable pub ethernet_bytes : EthernetFields → List ℕ
ethernet_bytes a =
    bytes 6 a.destination
    ++ bytes 6 a.source
    ++ bytes 2 0x8100
    ++ bytes 2 (pack vlan_row (vlan_values a))
    ++ bytes 2 0x22F0

-- bytes 18 to 21: the AVTPDU starts at byte 18
unfoldable pub avtp_bytes : ℕ → AvtpFields → List ℕ
avtp_bytes sequence m =
    bytes 1 (pack subtype_row subtype_values)
    ++ bytes 1 (pack valid_row (valid_values m))
    ++ bytes 1 sequence
    ++ bytes 1 (pack uncertain_row (uncertain_values m))

-- bytes 22 to 41: stream id, timestamp, gateway info, stream_data_length, the header of an IEEE 1394 packet
unfoldable pub stream_bytes : StreamFields → ℕ → List ℕ
stream_bytes o data_length =
    bytes 8 o.id
    ++ bytes 4 o.timestamp
    ++ bytes 4 o.gateway_info
    ++ bytes 2 data_length
    ++ bytes 2 (pack packet_row (packet_values o))

-- bytes 42 to 45: the first quadlet of the CIP header
unfoldable pub source_bytes : CipFields → ℕ → List ℕ
source_bytes f dbc =
    bytes 1 (pack source_row (source_values f))
    ++ bytes 1 f.dbs
    ++ bytes 1 (pack fraction_row (fraction_values f))
    ++ bytes 1 dbc

-- bytes 46 to 49: the second
unfoldable pub format_bytes : CipFields → List ℕ
format_bytes f =
    bytes 1 (pack format_row (format_values f))
    ++ bytes 1 f.fdf
    ++ bytes 2 f.low_half

-- bytes 42 to 49: the CIP header, where there is one
abbrev pub cip_bytes : Bool → CipFields → ℕ → List ℕ
cip_bytes has f dbc = cond has (source_bytes f dbc ++ format_bytes f) []

-- stream_data_length for a payload of n bytes: a CIP header is counted too
abbrev pub data_length : ℕ → ℕ → ℕ
data_length tag n = n + cip_length (has_cip tag)

-- the 42 bytes with which every frame starts
unfoldable pub header_bytes : Sender → Given → ℕ → List ℕ
header_bytes s g n =
    ethernet_bytes g.ethernet
    ++ avtp_bytes s.sequence g.avtp
    ++ stream_bytes g.stream (data_length g.stream.tag n)

unfoldable pub frame_bytes : Sender → Given → List ℕ → List ℕ
frame_bytes s g payload =
    header_bytes s g (length payload)
    ++ cip_bytes (has_cip g.stream.tag) g.cip s.dbc
    ++ payload

-- and how many they are: 42, 8 of a CIP header where there is one, and the payload
abbrev pub frame_length : ℕ → ℕ → ℕ
frame_length tag n = payload_start (has_cip tag) + n
