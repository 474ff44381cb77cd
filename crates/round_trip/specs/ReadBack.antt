-- Reading what was written gives what was given (document 01, Sending; request #108 for both tags).
use Rattle.std.specs.Prelude.{ℕ, ◌^◌, ◌≤◌, ◌<◌, ◌≡◌, true, false, cond, List, ◌++◌, length, take}
use Rattle.frame.specs.declared.layout.Header.{Header}
use Rattle.frame.specs.declared.layout.Cip.{Cip}
use Rattle.frame.specs.declared.layout.Fields.{Fields}
use Rattle.frame.specs.Layout.{has_cip, no_cip}
use Rattle.frame.specs.Reading.{reading, payload_of}
use Rattle.writer.specs.declared.Sender.{Sender}
use Rattle.writer.specs.declared.given.CipFields.{CipFields}
use Rattle.writer.specs.declared.given.Given.{Given}
use Rattle.writer.specs.Frames.{data_length, frame_length, frame_bytes}
use Rattle.writer.specs.Writing.{writing, output}

-- what the types of a sender and of the given fields say, beside what the checks of a write ask
pub record SenderTyped (s : Sender) : Type 0 where
  pub sequence : s.sequence < 2 ^ 8
  pub dbc : s.dbc < 2 ^ 8

pub record GivenTyped (g : Given) : Type 0 where
  pub id : g.stream.id < 2 ^ 64
  pub timestamp : g.stream.timestamp < 2 ^ 32
  pub gateway_info : g.stream.gateway_info < 2 ^ 32

-- what stands in a frame with a payload of n bytes: the given fields, the sender's sequence number, and what a writer sets
unfoldable pub header_written : Sender → Given → ℕ → Header
header_written s g n =
    record {
      ethernet = record {
        destination = g.ethernet.destination;
        source = g.ethernet.source;
        tpid = 0x8100;
        pcp = g.ethernet.pcp;
        cfi = false;
        vid = g.ethernet.vid;
        ethertype = 0x22F0;
      };
      avtp = record {
        cd = false;
        subtype = 0;
        sv = true;
        version = 0;
        mr = g.avtp.mr;
        gv = g.avtp.gv;
        tv = g.avtp.tv;
        sequence = s.sequence;
        tu = g.avtp.tu;
      };
      stream = record {
        id = g.stream.id;
        timestamp = g.stream.timestamp;
        gateway_info = g.stream.gateway_info;
        data_length = data_length g.stream.tag n;
        tag = g.stream.tag;
        channel = g.stream.channel;
        sy = g.stream.sy;
      };
    }

-- and in its CIP header: the given fields and the sender's block count
unfoldable pub cip_written : ℕ → CipFields → Cip
cip_written dbc f =
    record {
      sid = f.sid;
      dbs = f.dbs;
      fraction_number = f.fraction_number;
      qpc = f.qpc;
      sph = f.sph;
      dbc = dbc;
      fmt = f.fmt;
      fdf = f.fdf;
      low_half = f.low_half;
    }

-- with tag 0 no CIP header is written, and the sender's block count is nowhere in the frame
unfoldable pub fields_written : Sender → Given → ℕ → Fields
fields_written s g n = record { header = header_written s g n; cip = cond (has_cip g.stream.tag) (cip_written s.dbc g.cip) no_cip }

-- the frame that a write leaves: the first bytes of the output, as many as it has
unfoldable pub frame_left : Sender → Given → List ℕ → List ℕ → List ℕ
frame_left s g payload out = take (frame_length g.stream.tag (length payload)) (output s g payload out)

-- What an accepted write leaves, with any padding that keeps it within 1,518 bytes, is accepted with those fields and that payload.
pub record ReadBack : Type 0 where
  pub bytes : (s : Sender) (g : Given) (payload out : List ℕ) → (writing s g payload (length out)).number ≡ 0
      → frame_left s g payload out ≡ frame_bytes s g payload
  pub size : (s : Sender) (g : Given) (payload out : List ℕ) → (writing s g payload (length out)).number ≡ 0
      → length (frame_left s g payload out) ≡ frame_length g.stream.tag (length payload)
  pub fields : (s : Sender) (g : Given) (payload out padding : List ℕ) → SenderTyped s → GivenTyped g
      → (writing s g payload (length out)).number ≡ 0 → length (frame_left s g payload out ++ padding) ≤ 1518
      → reading (frame_left s g payload out ++ padding) ≡ record { number = 0; fields = fields_written s g (length payload) }
  pub payload : (s : Sender) (g : Given) (payload out padding : List ℕ) → SenderTyped s → GivenTyped g
      → (writing s g payload (length out)).number ≡ 0 → length (frame_left s g payload out ++ padding) ≤ 1518
      → payload_of (frame_left s g payload out ++ padding) ≡ payload
