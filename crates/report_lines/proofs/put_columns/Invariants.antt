use Rattle.std.proofs.Common.{ℕ}
use Rattle.text.specs.Text.{decimal}
use Rattle.report_lines.specs.Columns.{column}
use Rattle.report_lines.specs.Private.{columns}
use Rattle.report_lines.proofs.Each.{Upto}
use Rattle.report_lines.proofs.put_columns.Given as goal

abbrev pub invariant-loop-n : goal.invariant-loop-n
invariant-loop-n l = Upto columns (λ (n : ℕ). column (decimal n)) 21 l.numbers l.n-index l.fn.out l.at l.out l.end
