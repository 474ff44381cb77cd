use Rattle.std.proofs.Common.{refl}
use Rattle.refusal.specs.Refusals.{first_of}
use Rattle.capture.specs.Records.{length_of, kind_of, wrong_length, retired_kind, unknown_kind, entry_of}
use Rattle.capture.proofs.record_edges.Goals as goal

pub returns : goal.returns
unfolding first_of length_of kind_of wrong_length retired_kind unknown_kind entry_of
returns c = refl
