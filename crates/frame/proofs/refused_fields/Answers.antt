use Rattle.std.proofs.Common.{refl}
use Rattle.frame.specs.Layout.{ethernet_of, avtp_of, stream_of, header_of, cip_of, no_cip, fields_of}
use Rattle.frame.specs.Reading.{no_fields}
use Rattle.frame.proofs.refused_fields.Goals as goal

pub returns-clause-no_fields_value : goal.returns-clause-no_fields_value
unfolding no_fields no_cip fields_of header_of cip_of ethernet_of avtp_of stream_of
returns-clause-no_fields_value c = refl

pub returns-clause-no_cip_value : goal.returns-clause-no_cip_value
unfolding no_cip cip_of
returns-clause-no_cip_value c = refl
