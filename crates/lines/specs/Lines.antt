-- The lines of a listing (document 01, Capture and listing; request #106 for `unclear`, request #107 for `far`, request #108 for `dbc=none`;
-- without `removed`, by request #109). Each ends in a line feed.
use Rattle.std.specs.Prelude.{ℕ, ◌+◌, ◌%◌, ◌^◌, Bool, true, false, List, ◌++◌, Result, Ok, Err}
use Rattle.refusal.specs.declared.Refusal.{Refusal}
use Rattle.refusal.specs.Refusals.{number_of}
use Rattle.frame.specs.Layout.{has_cip}
use Rattle.presentation.specs.declared.Kind.{Kind}
use Rattle.presentation.specs.Kinds.{kind_name}
use Rattle.presentation.specs.declared.Timing.{Timing}
use Rattle.stream.specs.declared.Flags.{Flags}
use Rattle.lines.specs.declared.Outcome.{Outcome}
use Rattle.lines.specs.declared.Outcome.TheVariants.{Admitted, Frame}
use Rattle.text.specs.Text.{ascii, decimal, signed}

-- ---- The first line and the last

abbrev pub start_line : List ℕ
start_line = ascii "avtp listing 1\n"

unfoldable pub end_line : ℕ → List ℕ
end_line records = ascii "end records=" ++ decimal records ++ ascii "\n"

-- ---- The line of a record

-- what it says of the record; a refusal has its number
pub data Line : Type 0 where
  admitted : Line
  refused : ℕ → Line
  -- an accepted frame: its tag, flags and time
  frame : ℕ → Flags → Timing → Line

abbrev pub line_of : Result Outcome Refusal → Line
line_of (Ok Admitted) = admitted
line_of (Ok (Frame tag flags timing)) = frame tag flags timing
line_of (Err r) = refused (number_of r)

-- a raised flag prints its word
abbrev pub flag_word : Bool → List ℕ → List ℕ
flag_word true word = word
flag_word false word = ascii "ok"

-- without a CIP header no block count is judged
abbrev pub block_word : Bool → Bool → List ℕ
block_word true raised = flag_word raised (ascii "break")
block_word false raised = ascii "none"

-- `break` for seq and dbc, `change` for fmt and mr
unfoldable pub flags_text : ℕ → Flags → List ℕ
flags_text tag f =
    (ascii " frame seq=" ++ flag_word f.sequence (ascii "break"))
    ++ (ascii " dbc=" ++ block_word (has_cip tag) f.block)
    ++ (ascii " fmt=" ++ flag_word f.format (ascii "change"))
    ++ (ascii " mr=" ++ flag_word f.mr (ascii "change"))

abbrev pub kind_word : Kind → List ℕ
kind_word kind = kind_name kind

unfoldable pub timing_text : Timing → List ℕ
timing_text t = ascii " time=" ++ kind_word t.kind ++ ascii " offset=" ++ signed t.offset ++ ascii "\n"

-- the line of record number n
unfoldable pub line_text : ℕ → Line → List ℕ
line_text n admitted = decimal n ++ ascii " admitted\n"
line_text n (refused number) = decimal n ++ ascii " refused " ++ decimal number ++ ascii "\n"
line_text n (frame tag flags timing) = decimal n ++ flags_text tag flags ++ timing_text timing

-- ---- The end of a listing

-- Record numbers are 64 bits wide: 0 comes after 18,446,744,073,709,551,615.
abbrev pub next_number : ℕ → ℕ
next_number n = (n + 1) % 2 ^ 64

-- after n records: where the capture ends inside a record that record is listed and counted too, and then the last line
unfoldable pub ending : Bool → ℕ → List ℕ
ending true n = line_text (next_number n) (refused 41) ++ end_line (next_number n)
ending false n = end_line n
