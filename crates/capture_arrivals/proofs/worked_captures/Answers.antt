use Rattle.std.proofs.Common.{refl}
use Rattle.refusal.specs.Refusals.{first_of}
use Rattle.frame.specs.Layout.{ethernet_of, avtp_of, stream_of, cip_of, no_cip, header_of, fields_of}
use Rattle.frame.specs.Checks.{misaddressed, block_bytes, length_checks, ethernet_checks, avtp_checks, address_checks, stream_checks, block_checks, cip_checks, header_checks, read_checks, frame_checks, refusal}
use Rattle.frame.specs.Reading.{payload_of, blocks_of}
use Rattle.presentation.specs.Offset.{offset}
use Rattle.presentation.specs.Presentation.{timed, timing_within, stamp_of, presentation_within}
use Rattle.stream.specs.Records.{unused, admitted_within, format_of, format_change, block_flag, format_flag, flags_of, kept_format, kept_dbc, dbc_expected, bump, counts_after, record_after}
use Rattle.stream.specs.Step.{stepped}
use Rattle.stream.specs.Answers.{refused_with, step_of as frameStep, answer_of, after, id_of}
use Rattle.table.specs.Table.{any, place, admit, number_with, receive}
use Rattle.capture.specs.Records.{length_of, kind_of, frame_in, wrong_length, retired_kind, unknown_kind, entry_of}
use Rattle.capture.specs.Walk.{walk_from, walk, records_in, steps}
use Rattle.arrivals.specs.Arrivals.{run}
use Rattle.listing.specs.Listing.{visit}
use Rattle.listing.specs.Example.{example_capture, limit_capture, retired_capture}
use Rattle.capture_arrivals.specs.LastAdmission.{some_admitted, up_to_admission, arrivals_in}
use Rattle.capture_arrivals.proofs.worked_captures.Goals as goal

pub returns : goal.returns
unfolding first_of ethernet_of avtp_of stream_of cip_of no_cip header_of fields_of misaddressed block_bytes length_checks ethernet_checks avtp_checks address_checks stream_checks block_checks cip_checks header_checks read_checks frame_checks refusal payload_of blocks_of offset timed timing_within stamp_of presentation_within unused admitted_within format_of format_change block_flag format_flag flags_of kept_format kept_dbc dbc_expected bump counts_after record_after stepped refused_with frameStep answer_of after id_of any place admit number_with receive length_of kind_of frame_in wrong_length retired_kind unknown_kind entry_of walk_from walk records_in steps run visit example_capture limit_capture retired_capture some_admitted up_to_admission arrivals_in
returns c = record { records = refl; fifth = refl; frames = refl; limits = refl; first_record = refl; none = refl; cut = refl }
