-- A stream's record and what an accepted frame makes of it (document 01, Stream records; requests #104, #107 and #108).
use Rattle.std.specs.Prelude.{ℕ, ◌+◌, ◌%◌, ◌≡◌, Bool, true, false, not, ◌&&◌, ◌||◌, cond, List, ltb, replicate}
use Rattle.std.specs.Bool.{beq}
use Rattle.frame.specs.declared.layout.Cip.{Cip}
use Rattle.frame.specs.declared.layout.Fields.{Fields}
use Rattle.refusal.specs.Refusals.{differs}
use Rattle.frame.specs.Layout.{fields_of, cip_in}
use Rattle.frame.specs.Reading.{blocks_of}
use Rattle.presentation.specs.declared.Timing.{Timing}
use Rattle.presentation.specs.Presentation.{largest_limit}
use Rattle.tally.specs.declared.Tally.{Tally}
use Rattle.tally.specs.Tally.{no_tally, counted}
use Rattle.stream.specs.declared.Format.{Format}
use Rattle.stream.specs.declared.Counts.{Counts}
use Rattle.stream.specs.declared.Record.{Record}
use Rattle.stream.specs.declared.Flags.{Flags}

-- ---- Admission and removal

abbrev no_format : Format
no_format = record { fmt = 0; dbs = 0; fraction_number = 0; sph = false }

abbrev pub no_counts : Counts
no_counts = record { frames = 0; sequence_breaks = 0; block_breaks = 0; format_changes = 0; mr_changes = 0 }

-- an unused record has every field zero
unfoldable pub unused : Record
unused =
    record {
      in_use = false;
      seen = false;
      id = 0;
      sequence = 0;
      next_dbc = 0;
      mr = false;
      tag = 0;
      dbc_expected = false;
      limit = 0;
      format = no_format;
      counts = no_counts;
      tally = no_tally;
    }

-- after admission it holds the id and the transit limit (request #107), nothing seen and zero in every other field and count
unfoldable pub admitted_within : ℕ → ℕ → Record
admitted_within id limit =
    record {
      in_use = true;
      seen = false;
      id = id;
      sequence = 0;
      next_dbc = 0;
      mr = false;
      tag = 0;
      dbc_expected = false;
      limit = limit;
      format = no_format;
      counts = no_counts;
      tally = no_tally;
    }

-- with the largest limit, which is as good as none
abbrev pub admitted : ℕ → Record
admitted id = admitted_within id largest_limit

-- nothing in them but the id, the limit and that it is admitted: the rest is what fifty zero bytes hold, no count and no tally
abbrev pub ZeroRecords : Type 0
ZeroRecords =
    (let zeros = fields_of (replicate 50 0) in
    let none : Counts = record { frames = 0; sequence_breaks = 0; block_breaks = 0; format_changes = 0; mr_changes = 0 } in
    let nothing : Tally =
    record {
      kinds = record { none = 0; cut = 0; outside = 0; late = 0; ahead = 0; unclear = 0; far = 0 };
      sums = record { sum_above = 0; unsummed = 0; summed = 0; largest_above = 0; smallest_below = 0 };
    } in
    let blank : Bool → ℕ → ℕ → Record =
    λ used id limit. record {
      in_use = used;
      seen = false;
      id = id;
      sequence = zeros.header.avtp.sequence;
      next_dbc = zeros.cip.dbc;
      mr = zeros.header.avtp.mr;
      tag = zeros.header.stream.tag;
      dbc_expected = false;
      limit = limit;
      format = record { fmt = zeros.cip.fmt; dbs = zeros.cip.dbs; fraction_number = zeros.cip.fraction_number; sph = zeros.cip.sph };
      counts = none;
      tally = nothing;
    } in
    (unused ≡ blank false 0 0) × ((id limit : ℕ) → admitted_within id limit ≡ blank true id limit))

-- ---- Flags, judged on the record as it stood

-- the number isn't (last + 1) mod 256
abbrev pub sequence_break : ℕ → ℕ → Bool
sequence_break last sequence = differs sequence ((last + 1) % 256)

abbrev pub bit_differs : Bool → Bool → Bool
bit_differs a b = not (beq a b)

-- FMT, DBS, FN and SPH
unfoldable pub format_of : Cip → Format
format_of c = record { fmt = c.fmt; dbs = c.dbs; fraction_number = c.fraction_number; sph = c.sph }

-- any of the four format fields differs
unfoldable pub format_change : Format → Format → Bool
format_change last f =
    differs f.fmt last.fmt
    || differs f.dbs last.dbs
    || differs f.fraction_number last.fraction_number
    || bit_differs f.sph last.sph

-- a block count is judged where the frame has a CIP header and a count is expected: "a tag 1 frame that finds it absent raises no block flag"
unfoldable pub block_flag : Record → Fields → Bool
block_flag r f = cip_in f && r.dbc_expected && differs f.cip.dbc r.next_dbc

-- "raised when the tag differs from the last frame's; between two tag 0 frames it isn't", between two of tag 1 by the four fields
unfoldable pub format_flag : Record → Fields → Bool
format_flag r f =
    differs f.header.stream.tag r.tag
    || (cip_in f && format_change r.format (format_of f.cip))

-- no flag is raised on the first frame after admission
unfoldable pub flags_of : Record → Fields → Flags
flags_of r f =
    record {
      sequence = r.seen && sequence_break r.sequence f.header.avtp.sequence;
      block = r.seen && block_flag r f;
      format = r.seen && format_flag r f;
      mr = r.seen && bit_differs f.header.avtp.mr r.mr;
    }

-- ---- What the record holds afterwards

-- next block count
abbrev pub next_dbc : ℕ → ℕ → ℕ
next_dbc dbc blocks = (dbc + blocks) % 256

-- "the four kept format fields change only with a tag 1 frame"
unfoldable pub kept_format : Record → Fields → Format
kept_format r f = cond (cip_in f) (format_of f.cip) r.format

-- the expected count "stays as the last tag 1 frame left it, or absent"
unfoldable pub kept_dbc : Record → Fields → List ℕ → ℕ
kept_dbc r f payload = cond (cip_in f) (next_dbc f.cip.dbc (blocks_of payload f.cip.dbs)) r.next_dbc

-- in a record with nothing seen it is absent, whatever a caller who lends one says
unfoldable pub dbc_expected : Record → Fields → Bool
dbc_expected r f = cip_in f || (r.seen && r.dbc_expected)

-- up by 1 where the flag is raised; a count stays at 4,294,967,295 once there
unfoldable pub bump : Bool → ℕ → ℕ
bump raised n = cond (raised && ltb n 4_294_967_295) (n + 1) n

unfoldable pub counts_after : Counts → Flags → Counts
counts_after c raised =
    record {
      frames = bump true c.frames;
      sequence_breaks = bump raised.sequence c.sequence_breaks;
      block_breaks = bump raised.block c.block_breaks;
      format_changes = bump raised.format c.format_changes;
      mr_changes = bump raised.mr c.mr_changes;
    }

-- what request #104 has it hold beside document 01's list is counted by the frame's presentation time, and the limit is "kept until removal"
-- (request #107)
unfoldable pub record_after : Record → Fields → List ℕ → Flags → Timing → Record
record_after r f payload raised timing =
    record {
      in_use = r.in_use;
      seen = true;
      id = r.id;
      sequence = f.header.avtp.sequence;
      next_dbc = kept_dbc r f payload;
      mr = f.header.avtp.mr;
      tag = f.header.stream.tag;
      dbc_expected = dbc_expected r f;
      limit = r.limit;
      format = kept_format r f;
      counts = counts_after r.counts raised;
      tally = counted timing r.tally;
    }
