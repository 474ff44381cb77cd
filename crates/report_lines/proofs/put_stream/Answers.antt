use Rattle.text.proofs.Puts.{more}
use Rattle.report_lines.specs.Columns.{sums_text, record_text}
use Rattle.report_lines.proofs.Lengths.{line_in_parts, line_length}
use Rattle.report_lines.proofs.put_stream.Goals as goal

pub returns-clause-put_in_turn : goal.returns-clause-put_in_turn
unfolding record_text
returns-clause-put_in_turn c =
    let r = c.args.r.now in
    rw (line_in_parts r.id r.counts r.tally.kinds (sums_text r.tally.sums) r.tally.sums.unsummed)
    (more
    (more (more (more c.put_column-a.ensures.put_in_turn c.put_counts-b.ensures.put_in_turn) c.put_kinds-c.ensures.put_in_turn) c.put_sums-d.ensures.put_in_turn)
    c.put_column.ensures.put_in_turn)

pub returns-clause-r_len_bound : goal.returns-clause-r_len_bound
unfolding record_text
returns-clause-r_len_bound c =
    let r = c.args.r.now in
    line_length r.id r.counts r.tally.kinds (sums_text r.tally.sums) r.tally.sums.unsummed c.put_column-a.ensures.n_len_bound c.put_counts-b.ensures.counts_len_bound
    c.put_kinds-c.ensures.kinds_len_bound c.put_sums-d.ensures.sums_len_bound c.put_column.ensures.n_len_bound
