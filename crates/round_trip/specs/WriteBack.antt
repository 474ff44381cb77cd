-- Writing what was read gives the bytes that were read (document 01, Sending; request #108 for both tags).
use Rattle.std.specs.Prelude.{ℕ, ◌≤◌, ◌≡◌, true, cond, List, ◌++◌, ltb, length, take, drop}
use Rattle.wire.specs.Bits.{field}
use Rattle.wire.specs.Numbers.{number_at, Bytes}
use Rattle.frame.specs.declared.layout.Cip.{Cip}
use Rattle.frame.specs.declared.layout.Fields.{Fields}
use Rattle.frame.specs.Layout.{valid_row, uncertain_row, packet_row, source_row, fraction_row, format_row, fields_of, cip_in}
use Rattle.frame.specs.Checks.{refusal}
use Rattle.frame.specs.Reading.{payload_of}
use Rattle.writer.specs.declared.Sender.{Sender}
use Rattle.writer.specs.declared.given.CipFields.{CipFields}
use Rattle.writer.specs.declared.given.Given.{Given}
use Rattle.writer.specs.Frames.{frame_length}
use Rattle.writer.specs.Writing.{write_refusal, output}

-- the bits of a CIP header that readers ignore hold what writers set: the reserved bits 0, the indicators 00 and 10
pub record FixedCipBits (frame : List ℕ) : Type 0 where
  pub first_indicator : field 0 source_row (number_at 42 1 frame) ≡ 0
  pub reserved : field 3 fraction_row (number_at 44 1 frame) ≡ 0
  pub second_indicator : field 0 format_row (number_at 46 1 frame) ≡ 2

-- and so do those in front of it: r and the reserved bits 0, tcode 10
pub record FixedBits (frame : List ℕ) : Type 0 where
  pub r : field 3 valid_row (number_at 19 1 frame) ≡ 0
  pub reserved : field 0 uncertain_row (number_at 21 1 frame) ≡ 0
  pub tcode : field 2 packet_row (number_at 40 2 frame) ≡ 10
  pub cip : cip_in (fields_of frame) ≡ true → FixedCipBits frame

-- among the fields that were read are the sender's two numbers; without a CIP header there is no block count
pub record Carries (f : Fields) (s : Sender) : Type 0 where
  pub sequence : f.header.avtp.sequence ≡ s.sequence
  pub dbc : cip_in f ≡ true → f.cip.dbc ≡ s.dbc

-- and those that a caller gives
unfoldable pub cip_given_of : Cip → CipFields
cip_given_of c =
    record {
      sid = c.sid;
      dbs = c.dbs;
      fraction_number = c.fraction_number;
      qpc = c.qpc;
      sph = c.sph;
      fmt = c.fmt;
      fdf = c.fdf;
      low_half = c.low_half;
    }

unfoldable pub given_of : Fields → Given
given_of f =
    record {
      ethernet = record {
        destination = f.header.ethernet.destination;
        source = f.header.ethernet.source;
        pcp = f.header.ethernet.pcp;
        vid = f.header.ethernet.vid;
      };
      avtp = record {
        mr = f.header.avtp.mr;
        gv = f.header.avtp.gv;
        tv = f.header.avtp.tv;
        tu = f.header.avtp.tu;
      };
      stream = record {
        id = f.header.stream.id;
        timestamp = f.header.stream.timestamp;
        gateway_info = f.header.stream.gateway_info;
        tag = f.header.stream.tag;
        channel = f.header.stream.channel;
        sy = f.header.stream.sy;
      };
      cip = cip_given_of f.cip;
    }

-- how many bytes a frame has up to its padding
abbrev pub unpadded : List ℕ → ℕ
unpadded frame = frame_length (fields_of frame).header.stream.tag (length (payload_of frame))

-- A write of what an accepted frame holds is refused only for a short output, whatever its ignored bits are; where they hold what
-- writers set, a sender whose numbers it carries leaves the frame up to its padding, and behind that the output as it was.
pub record WriteBack : Type 0 where
  pub number : (frame : List ℕ) (room : ℕ) → Bytes frame → refusal frame ≡ 0
      → write_refusal (given_of (fields_of frame)) (length (payload_of frame)) room ≡ cond (ltb room (unpadded frame)) 35 0
  pub left : (frame out : List ℕ) (s : Sender) → Bytes frame → refusal frame ≡ 0 → FixedBits frame → Carries (fields_of frame) s → unpadded frame ≤ length out
      → output s (given_of (fields_of frame)) (payload_of frame) out ≡ take (unpadded frame) frame ++ drop (unpadded frame) out
