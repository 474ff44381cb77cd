-- The report in any chunks: the table that they leave is the whole's. Assumes nothing.
use mathlib.Core.Path.{ap, ◌∙◌}
use Rattle.listing.specs.InChunks.{capture_of}
use Rattle.listing.proofs.InChunks.{in_chunks}
use Rattle.report_lines.specs.Columns.{table_text}
use Rattle.report.specs.InChunks.{ReportInChunks}
use Rattle.report.proofs.Totals.{report_of_table}

pub report_in_chunks : ReportInChunks
report_in_chunks shown cs room fits z = report_of_table (capture_of cs) ∙ ap table_text (in_chunks.whole_capture shown cs room fits z).table
