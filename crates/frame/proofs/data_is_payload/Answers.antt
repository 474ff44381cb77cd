use Rattle.frame.proofs.Answers.{data_is_payload}
use Rattle.frame.proofs.data_is_payload.Goals as goal

pub returns : goal.returns
returns c = data_is_payload
