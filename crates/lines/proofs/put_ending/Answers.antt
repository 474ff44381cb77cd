use Rattle.std.proofs.Common.{true, false}
use Rattle.lines.specs.Lines.{ending}
use Rattle.lines.proofs.Lengths.{ending_length}
use Rattle.lines.proofs.Placing.{within}
use Rattle.lines.proofs.put_ending.Goals as goal

pub returns-then-left-gt0-clause-out_in_bounds : goal.returns-then-left-gt0-clause-out_in_bounds
returns-then-left-gt0-clause-out_in_bounds c =
    within c.args.out.now c.args.at c.roomy.ensures c.if-not-roomy.false c.put_cut.ensures (ending_length true c.args.records c.ranges.records.fits)

pub returns-clause-out_in_bounds : goal.returns-clause-out_in_bounds
unfolding ending
returns-clause-out_in_bounds c =
    within c.args.out.now c.args.at c.roomy.ensures c.if-not-roomy.false c.put_last.ensures (ending_length false c.args.records c.ranges.records.fits)
