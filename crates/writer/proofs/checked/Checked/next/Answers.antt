use Rattle.std.proofs.Common.{◌≡◌, ℕ, ◌+◌, ◌%◌, arith}
use Rattle.writer.specs.Writing.{advanced}
use Rattle.writer.proofs.checked.Checked.next.Goals as goal

moved_on : (dbc n blocks : ℕ) → n ≡ blocks → (dbc + n % 256) % 256 ≡ (dbc + blocks) % 256
moved_on dbc n blocks e = omega (arith, e)

pub returns : goal.returns
unfolding advanced
returns c = λ i.
    record { sequence = (c.args.sender.sequence + 1) % 256; dbc = moved_on c.args.sender.dbc _ _ c.blocks-blocks.ensures i }
