use Rattle.std.proofs.Common.{refl}
use Rattle.refusal.specs.Refusals.{first_of}
use Rattle.frame.specs.Layout.{ethernet_of, avtp_of, stream_of, cip_of, no_cip, header_of, fields_of}
use Rattle.frame.specs.Checks.{misaddressed, block_bytes, length_checks, ethernet_checks, avtp_checks, address_checks, stream_checks, block_checks, cip_checks, header_checks, read_checks, frame_checks, refusal}
use Rattle.frame.specs.Reading.{payload_of, blocks_of}
use Rattle.presentation.specs.Offset.{offset}
use Rattle.presentation.specs.Presentation.{timed, timing_within, stamp_of, presentation_within}
use Rattle.stream.specs.Records.{unused, admitted_within, format_of, format_change, block_flag, format_flag, flags_of, kept_format, kept_dbc, dbc_expected, bump, counts_after, record_after}
use Rattle.stream.specs.Step.{stepped}
use Rattle.stream.specs.Answers.{refused_with, step_of as frame_step, answer_of, after, id_of}
use Rattle.table.specs.Table.{any, place, admit, number_with, receive}
use Rattle.capture.specs.Records.{length_of, kind_of, frame_in, wrong_length, retired_kind, unknown_kind, entry_of}
use Rattle.capture.specs.Walk.{walk_from, walk}
use Rattle.text.specs.Text.{digits, decimal}
use Rattle.lines.specs.Lines.{end_line, flags_text, timing_text, line_text}
use Rattle.listing.specs.Listing.{visit, lines_after, number_after, listing}
use Rattle.listing.specs.Example.{example_capture, example_listing, limit_capture, limit_listing, mixed_capture, mixed_listing, retired_capture, retired_listing}
use Rattle.listing.proofs.worked_example.Goals as goal

pub returns : goal.returns
unfolding first_of ethernet_of avtp_of stream_of cip_of no_cip header_of fields_of misaddressed block_bytes length_checks ethernet_checks avtp_checks address_checks stream_checks block_checks cip_checks header_checks read_checks frame_checks refusal payload_of blocks_of offset timed timing_within stamp_of presentation_within unused admitted_within format_of format_change block_flag format_flag flags_of kept_format kept_dbc dbc_expected bump counts_after record_after stepped refused_with frame_step answer_of after id_of any place admit number_with receive length_of kind_of frame_in wrong_length retired_kind unknown_kind entry_of digits decimal end_line flags_text timing_text line_text walk_from walk visit lines_after number_after listing example_capture example_listing limit_capture limit_listing mixed_capture mixed_listing retired_capture retired_listing
returns c = record { whole = refl; streams = refl; empty = refl; limits = refl; mixed = refl; retired = refl; cut = refl }
