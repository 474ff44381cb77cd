use Rattle.report_lines.specs.Columns.{used_text, table_text}
use Rattle.report_lines.proofs.Each.{Upto}
use Rattle.report_lines.proofs.put_table.Given as goal

abbrev pub invariant-loop-r : goal.invariant-loop-r
invariant-loop-r l = Upto table_text used_text 403 l.table l.r-index l.fn.out 0 l.out l.at
