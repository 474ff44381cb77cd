use Rattle.report.proofs.Totals.{totals_of_lines}
use Rattle.report.proofs.totals_of_lines.Goals as goal

pub returns : goal.returns
returns c = totals_of_lines
