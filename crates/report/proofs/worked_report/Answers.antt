use Rattle.std.proofs.Common.{refl}
use Rattle.refusal.specs.Refusals.{first_of}
use Rattle.frame.specs.Layout.{ethernet_of, avtp_of, stream_of, cip_of, no_cip, header_of, fields_of}
use Rattle.frame.specs.Checks.{misaddressed, block_bytes, length_checks, ethernet_checks, avtp_checks, address_checks, stream_checks, block_checks, cip_checks, header_checks, read_checks, frame_checks, refusal}
use Rattle.frame.specs.Reading.{payload_of, blocks_of}
use Rattle.presentation.specs.Offset.{offset}
use Rattle.presentation.specs.Presentation.{timed, timing_within, stamp_of, presentation_within}
use Rattle.tally.specs.Tally.{no_tally, raised, kinds_after, sums_after, counted}
use Rattle.stream.specs.Records.{unused, admitted_within, format_of, format_change, block_flag, format_flag, flags_of, kept_format, kept_dbc, dbc_expected, bump, counts_after, record_after}
use Rattle.stream.specs.Step.{stepped}
use Rattle.stream.specs.Answers.{refused_with, step_of, answer_of, after, id_of}
use Rattle.table.specs.Table.{any, place, admit, number_with, receive}
use Rattle.capture.specs.Records.{length_of, kind_of, frame_in, wrong_length, retired_kind, unknown_kind, entry_of}
use Rattle.capture.specs.Walk.{walk_from, walk}
use Rattle.text.specs.Text.{digits, decimal}
use Rattle.listing.specs.Listing.{visit}
use Rattle.listing.specs.Example.{example_capture, mixed_capture}
use Rattle.report_lines.specs.Columns.{counts_text, kinds_text, mean_text, summed_text, stream_line, sums_text, record_text}
use Rattle.report.specs.Example.{visit_capture, visit_report, half_wrap_capture, limit_capture, limit_report}
use Rattle.report.specs.Report.{since, how_many, counts_of, kinds_of, offsets, fold, four_text, stream_text, report_of, report}
use Rattle.report.proofs.worked_report.Goals as goal

pub returns : goal.returns
unfolding first_of ethernet_of avtp_of stream_of cip_of no_cip header_of fields_of misaddressed block_bytes length_checks ethernet_checks avtp_checks address_checks stream_checks block_checks cip_checks header_checks read_checks frame_checks refusal payload_of blocks_of offset timed timing_within stamp_of presentation_within no_tally raised kinds_after sums_after counted unused admitted_within format_of format_change block_flag format_flag flags_of kept_format kept_dbc dbc_expected bump counts_after record_after stepped refused_with step_of answer_of after id_of any place admit number_with receive length_of kind_of frame_in wrong_length retired_kind unknown_kind entry_of walk_from walk digits decimal visit example_capture mixed_capture visit_capture visit_report half_wrap_capture limit_capture limit_report record_text sums_text counts_text kinds_text mean_text summed_text stream_line since how_many counts_of kinds_of offsets fold four_text stream_text report_of report
returns c = record { columns = refl; admitted = refl; frame = refl; whole = refl; whole_visit = refl; half_a_wrap = refl; limits = refl; mixed = refl; empty = refl; cut = refl }
