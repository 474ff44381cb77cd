use Rattle.std.proofs.Common.{◌*◌, ℕ, ap, sym}
use Rattle.frame.specs.Checks.{block_bytes}
use Rattle.frame.proofs.Groups.{quadlets_some}
use Rattle.frame.proofs.checks.block_bytes.Goals as goal

pub returns-then-dbs-eq0 : goal.returns-then-dbs-eq0
unfolding block_bytes
returns-then-dbs-eq0 c = ap block_bytes (sym c.if-dbs-eq0.true)

pub returns : goal.returns
unfolding block_bytes
returns c = ap (λ (n : ℕ). 4 * n) (quadlets_some c.args.dbs c.if-dbs-eq0.false)
