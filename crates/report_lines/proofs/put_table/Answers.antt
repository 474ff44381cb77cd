use Rattle.std.proofs.Common.{arith}
use Rattle.text.proofs.Puts.{none_put}
use Rattle.report_lines.specs.Columns.{used_text, table_text}
use Rattle.report_lines.proofs.Each.{table_end, one_more}
use Rattle.report_lines.proofs.put_table.Goals as goal

pub loop-r-init : goal.loop-r-init
unfolding table_text
loop-r-init c = record { few = omega arith; put = none_put c.args.out.now 0 (omega arith); short = omega arith }

pub loop-r-preserved : goal.loop-r-preserved
loop-r-preserved c =
    one_more table_text used_text 403 table_end c.args.table.now c.loop-r.r-index c.loop-r.invariant _ (rw c.told-table (omega arith))
    c.put_used-at.ensures.put_in_turn c.put_used-at.ensures.r_len_bound
