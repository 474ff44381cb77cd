use Rattle.std.proofs.Common.{sym, ◌∙◌}
use Rattle.avtp_report.proofs.Reporting.{reports}
use Rattle.avtp_report.proofs.report_records.Goals as goal

pub returns : goal.returns
returns g c =
    reports c.list_records-s.ensures c.put_table-end.ensures.put_in_turn c.put_table-end.ensures.table_len_bound (sym c.is_read.ensures ∙ c.if-not-is_read.false)
