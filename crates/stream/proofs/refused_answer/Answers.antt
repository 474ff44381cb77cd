use Rattle.std.proofs.Common.{refl}
use Rattle.frame.specs.Layout.{ethernet_of, avtp_of, stream_of, header_of, no_cip, fields_of}
use Rattle.frame.specs.Reading.{no_fields}
use Rattle.presentation.specs.Presentation.{stamp_of, presentation_within}
use Rattle.stream.specs.Records.{unused, flags_of}
use Rattle.stream.specs.Step.{stepped}
use Rattle.stream.specs.Answers.{refused_with}
use Rattle.stream.proofs.refused_answer.Goals as goal

pub returns : goal.returns
unfolding refused_with no_fields fields_of header_of no_cip ethernet_of avtp_of stream_of stepped flags_of unused presentation_within stamp_of
returns c n L = refl
