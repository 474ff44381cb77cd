use Rattle.std.proofs.Common.{refl}
use Rattle.frame.specs.Layout.{avtp_of, stream_of, header_of, no_cip, fields_of}
use Rattle.tally.specs.Tally.{no_tally}
use Rattle.stream.specs.Records.{unused, admitted_within}
use Rattle.stream.proofs.zero_records.Goals as goal

pub returns : goal.returns
unfolding fields_of header_of no_cip avtp_of stream_of no_tally unused admitted_within
returns c = (refl, λ id limit. refl)
