use Rattle.std.proofs.Common.{ℕ, ◌+◌, List, ◌∙◌, ap, get_or, set}
use Rattle.text.proofs.Sets.{sets_more}
use Rattle.text.proofs.copy.Goals as goal

pub loop-j-preserved : goal.loop-j-preserved
loop-j-preserved c =
    let j = c.loop-j.j in
    let text = c.args.text.now in
    ap (λ (x : List ℕ). set x (c.args.at + j) (get_or text j 0)) c.loop-j.invariant ∙ sets_more c.args.out.now c.args.at text j c.loop-j-test.true
