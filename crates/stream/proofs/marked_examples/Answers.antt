use Rattle.std.proofs.Common.{refl}
use Rattle.frame.specs.Layout.{fields_of, header_of, ethernet_of, avtp_of, stream_of, cip_of, no_cip}
use Rattle.refusal.specs.Refusals.{first_of}
use Rattle.frame.specs.Checks.{misaddressed, block_bytes, length_checks, ethernet_checks, avtp_checks, address_checks, stream_checks, block_checks, cip_checks, header_checks, read_checks, frame_checks, refusal}
use Rattle.frame.specs.Reading.{payload_of, blocks_of}
use Rattle.presentation.specs.Offset.{offset}
use Rattle.presentation.specs.Presentation.{timed, timing_within}
use Rattle.stream.specs.Records.{admitted_within, format_of, format_change, block_flag, format_flag, flags_of, kept_format, kept_dbc, dbc_expected, bump, counts_after, record_after}
use Rattle.stream.specs.Step.{stepped}
use Rattle.stream.specs.Answers.{step_of, answer_of, after}
use Rattle.stream.proofs.marked_examples.Goals as goal

pub returns : goal.returns
unfolding fields_of header_of ethernet_of avtp_of stream_of cip_of no_cip first_of misaddressed block_bytes length_checks ethernet_checks avtp_checks address_checks stream_checks block_checks cip_checks header_checks read_checks frame_checks refusal payload_of blocks_of offset timed timing_within admitted_within format_of format_change block_flag format_flag flags_of kept_format kept_dbc dbc_expected bump counts_after record_after stepped step_of answer_of after
returns c = ((refl, refl), ((refl, refl), ((refl, refl), ((refl, refl), ((refl, refl), (((refl, refl), refl), (((refl, refl), refl), (((refl, (refl, (refl, tt))), refl), (refl, (refl, (refl, (refl, tt))))))))))))
