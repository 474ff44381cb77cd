-- A record that holds its stream's totals has its stream's line. Assumes nothing.
use Prim.Native.Nat.{ℕ, suc}
use mathlib.Core.Path.{◌≡◌, refl, sym}
use mathlib.Core.Bool.{Bool, true, false, cond}
use mathlib.Core.List.{List, [], ◌∷◌, ◌++◌}
use mathlib.Core.Option.{some}
use native.Mathlib.Omega.{arith}
use lib.IntN.{ℤ}
use lib.ListN.{length, take, get_elem?}
use borrow.Author.Tests.{eq-eqb, ne_eqb}
use Rattle.tally.specs.declared.Sums.{Sums}
use Rattle.stream.specs.declared.Record.{Record}
use Rattle.tally.specs.Tally.{most_summed}
use Rattle.table.specs.Table.{Table}
use Rattle.report_lines.specs.Columns.{summed_text, stream_line, sums_text, record_text, table_text}
use Rattle.report.specs.Report.{ListedFrame, offsets, four_text, stream_text, report_of}
use Rattle.report.specs.Totals.{SumsOver, Totals}

sums_text_lem : (s : Sums) (l : List ℤ) → s.summed ≡ length l → SumsOver s l → sums_text s ≡ four_text l
unfolding sums_text four_text
sums_text_lem s [] e w = rw (eq-eqb s.summed 0 e)
sums_text_lem s (d ∷ l) e w = rw (ne_eqb s.summed 0 (λ z. omega (arith, z, e))) (λ i. summed_text (w.0 i) (w.1 i) (w.2 i) (e i))

record_text_lem : (r : Record) (xs : List ListedFrame) → Totals r xs → record_text r ≡ stream_text r.id xs
unfolding record_text stream_text
record_text_lem r xs t =
    let sums = sums_text_lem r.tally.sums (take most_summed (offsets xs)) t.summed t.sums in
    λ i. stream_line r.id (t.counts i) (t.kinds i) (sums i) (t.unsummed i)

pub table_text_lem : (t : Table) (frames : ℕ → List ListedFrame) → ((i : ℕ) (r : Record) → get_elem? t i ≡ some r → r.in_use ≡ true → Totals r (frames r.id)) → report_of t frames ≡ table_text t
unfolding report_of table_text
table_text_lem [] frames h = refl
table_text_lem (r ∷ t) frames h = λ i. own r.in_use refl i ++ table_text_lem t frames (λ j s e u. h (suc j) s e u) i
  where
    own : (b : Bool) → r.in_use ≡ b → cond b (stream_text r.id (frames r.id)) [] ≡ cond b (record_text r) []
    own true e = sym (record_text_lem r (frames r.id) (h 0 r refl e))
    own false e = refl
