use Rattle.writer.proofs.Stores.{copied}
use Rattle.writer.proofs.checked.put.Goals as goal

pub returns : goal.returns
returns c = copied c.args.at c.args.bytes.now c.args.out.now c.requires c.copy_from_slice.ensures.after
