-- The report of a capture that is gone through in any chunks is the report of the whole: the lines of the table that the chunks leave.
use Rattle.std.specs.Prelude.{ℕ, ◌≡◌, Bool, true, List, length}
use Rattle.lines.specs.Placing.{roomy}
use Rattle.listing.specs.Chunks.{chunked}
use Rattle.listing.specs.InChunks.{LentChunk, capture_of, unlisted, list_chunks}
use Rattle.report_lines.specs.Columns.{table_text}
use Rattle.report.specs.Report.{report}

-- with lines shown or without, in any chunks, empty ones too, and with any room for each: once a call that had room used nothing of what is left
abbrev pub ReportInChunks : Type 0
ReportInChunks = (shown : Bool) (cs : List LentChunk) (room : ℕ) → roomy room 0 ≡ true
    → (let r = list_chunks shown unlisted cs in length (chunked shown r.rest r.table r.records room).rest ≡ length r.rest
    → report (capture_of cs) ≡ table_text r.table)
