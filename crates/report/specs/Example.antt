-- A line of a report, the report of document 01's capture and of its parts, that of a visit with a removal, which is not obeyed, that of stamps
-- about half a wrap away, and those of streams with limits and of both tags.
use Rattle.std.specs.Prelude.{ℕ, ◌≡◌, true, false, List, [], ◌++◌, reverse, take}
use Rattle.wire.specs.Numbers.{bytes}
use Rattle.text.specs.Text.{ascii}
use Rattle.stream.specs.declared.Record.{Record}
use Rattle.report_lines.specs.Columns.{record_text}
use Rattle.listing.specs.Example.{frame_with, sound_frame, record_bytes, example_capture, mixed_capture}
use Rattle.report.specs.Report.{report}

-- a frame of stream 12 that arrives at L, with these bits, sequence number, stamp T and CIP header
abbrev frame_at : ℕ → ℕ → ℕ → ℕ → ℕ → List ℕ
frame_at L bits sequence T cip = record_bytes 1 (reverse (bytes 8 L) ++ frame_with bits sequence 12 T cip)

-- sv with tv, with mr and tv, and with mr
abbrev stamped : ℕ
stamped = 0x81

abbrev restarted : ℕ
restarted = 0x89

abbrev unstamped : ℕ
unstamped = 0x88

-- CIP headers with DBC 0, with DBC 7, and with another DBS
abbrev dbc0 : ℕ
dbc0 = 0x000600009002FFFF

abbrev dbc7 : ℕ
dbc7 = 0x000600079002FFFF

abbrev dbs7 : ℕ
dbs7 = 0x000700009002FFFF

-- streams 1 and 12 are admitted; 1 has a frame and is to be removed, which is not obeyed, 3 is admitted, and 1 is to be admitted again, and has
-- another frame. Then stream 12 has three frames late, four ahead, one outside and two without a stamp; three of them break the sequence, two
-- the block count, one changes the format, and five mr
unfoldable pub visit_capture : List ℕ
visit_capture =
    record_bytes 2 (bytes 8 1)
    ++ record_bytes 2 (bytes 8 12)
    ++ record_bytes 1 (reverse (bytes 8 1000) ++ sound_frame 1 900)
    ++ record_bytes 3 (bytes 8 1)
    ++ record_bytes 2 (bytes 8 3)
    ++ record_bytes 2 (bytes 8 1)
    ++ record_bytes 1 (reverse (bytes 8 1000) ++ sound_frame 1 1200)
    ++ frame_at 1000 stamped 0 990 dbc0
    ++ frame_at 1000 restarted 1 984 dbc0
    ++ frame_at 1000 stamped 3 996 dbc0
    ++ frame_at 1000 restarted 3 1002 dbc0
    ++ frame_at 1000 stamped 5 1006 dbc0
    ++ frame_at 1000 restarted 6 1005 dbc7
    ++ frame_at 1000 restarted 7 1003 dbc0
    ++ frame_at 10 restarted 8 4_294_967_286 dbc0
    ++ frame_at 1000 unstamped 9 1001 dbs7
    ++ frame_at 1000 unstamped 10 1001 dbs7

unfoldable pub visit_report : List ℕ
visit_report =
    ascii "1 2 1 0 0 0 0 0 0 1 1 0 0 -100 200 100 100/2 0\n"
    ++ ascii "12 10 3 2 1 5 2 0 1 3 4 0 0 -16 6 -14 -14/7 0\n"
    ++ ascii "3 0 0 0 0 0 0 0 0 0 0 0 0 none none none none 0\n"

-- stream 12 has two frames half a wrap away, of which the first would otherwise be outside and the second late; one that is a nanosecond
-- nearer, and is outside; one late and one ahead
unfoldable pub half_wrap_capture : List ℕ
half_wrap_capture =
    record_bytes 2 (bytes 8 12)
    ++ frame_at 0 stamped 0 2_147_483_648 dbc0
    ++ frame_at 2_147_483_648 stamped 1 0 dbc0
    ++ frame_at 0 stamped 2 2_147_483_649 dbc0
    ++ frame_at 1000 stamped 3 995 dbc0
    ++ frame_at 1000 stamped 4 1006 dbc0

-- stream 12 is admitted with the limit 5, and stream 1 with the largest. Both have a frame ahead by 6, which is far for stream 12 alone; stream
-- 12 also has one ahead by its limit and one late by more than that
unfoldable pub limit_capture : List ℕ
limit_capture =
    record_bytes 5 (bytes 8 12 ++ reverse (bytes 4 5))
    ++ record_bytes 2 (bytes 8 1)
    ++ frame_at 1000 stamped 0 1005 dbc0
    ++ frame_at 1000 stamped 1 1006 dbc0
    ++ frame_at 1000 stamped 2 993 dbc0
    ++ record_bytes 1 (reverse (bytes 8 1000) ++ sound_frame 1 1006)

unfoldable pub limit_report : List ℕ
limit_report =
    ascii "12 3 0 0 0 0 0 0 0 1 1 0 1 -7 5 -2 -2/2 0\n"
    ++ ascii "1 1 0 0 0 0 0 0 0 0 1 0 0 6 6 6 6/1 0\n"

-- a record in which each column is another number: three offsets were summed that come to −14, from −16 to 11
abbrev sample_record : Record
sample_record =
    record {
      in_use = true;
      seen = true;
      id = 12;
      sequence = 0;
      next_dbc = 0;
      mr = false;
      tag = 1;
      dbc_expected = true;
      limit = 0;
      format = record { fmt = 0; dbs = 0; fraction_number = 0; sph = false };
      counts = record { frames = 72; sequence_breaks = 1; block_breaks = 2; format_changes = 4; mr_changes = 5 };
      tally =
          record {
            kinds = record { none = 6; cut = 7; outside = 8; late = 9; ahead = 10; unclear = 15; far = 17 };
            sums = record { smallest_below = 2_147_483_663; largest_above = 2_147_483_659; sum_above = 6_442_450_930; summed = 3; unsummed = 16 };
          };
    }

pub record WorkedReport : Type 0 where
  -- every column of a line, in its place
  pub columns : record_text sample_record ≡ ascii "12 72 1 2 4 5 6 7 8 9 10 15 17 -16 11 -14 -14/3 16\n"
  -- the stream is admitted
  pub admitted : report (take 12 example_capture) ≡ ascii "1 0 0 0 0 0 0 0 0 0 0 0 0 none none none none 0\n"
  -- and has a frame with L 1000, T 3000; then another stream, which is not admitted, has one
  pub frame : report (take 136 example_capture) ≡ ascii "1 1 0 0 0 0 0 0 0 0 1 0 0 2000 2000 2000 2000/1 0\n"
  -- and is to be removed at the end, which changes nothing
  pub whole : report example_capture ≡ report (take 136 example_capture)
  pub whole_visit : report visit_capture ≡ visit_report
  pub half_a_wrap : report half_wrap_capture ≡ ascii "12 5 0 0 0 0 0 0 1 1 1 2 0 -5 6 1 1/2 0\n"
  pub limits : report limit_capture ≡ limit_report
  -- a stream of both tags: a block break, and a format change at each change of the tag
  pub mixed : report mixed_capture ≡ ascii "1 6 0 1 3 0 0 0 0 0 6 0 0 2000 2000 12000 12000/6 0\n"
  -- an empty capture has no line, and one that is cut is reported on as far as it goes
  pub empty : report [] ≡ []
  pub cut : report (take 15 example_capture) ≡ report (take 12 example_capture)
