-- The lines of the table that a whole capture leaves are its report. Assumes nothing.
use Prim.Native.Nat.{ℕ, ◌≤◌}
use mathlib.Core.Path.{◌≡◌, refl, sym, ap, ◌∙◌}
use mathlib.Core.Bool.{Bool, true, false, false≢true}
use mathlib.Core.List.{List, ◌++◌, append-nil}
use native.Mathlib.Omega.{arith}
use lib.ListN.{length}
use Rattle.text.specs.InTurn.{PutInTurn}
use Rattle.text.proofs.Puts.{after_below}
use Rattle.lines.specs.Placing.{roomy}
use Rattle.listing.specs.InChunks.{capture_of}
use Rattle.turns.specs.declared.State.{State}
use Rattle.turns.specs.Turns.{is_read, RecordsListed}
use Rattle.report_lines.specs.Columns.{table_text}
use Rattle.report.specs.Report.{report}
use Rattle.report.proofs.Totals.{report_of_table}
use Rattle.avtp_report.specs.Reporting.{Reports}

module _ {first input d : List ℕ} {s : State} {input' d' : List ℕ} (l : RecordsListed false first input d s input' d') where
  -- no line is shown
  unchanged : d' ≡ d
  unchanged = go (roomy (length d) 0) refl
    where
      go : (b : Bool) → roomy (length d) 0 ≡ b → d' ≡ d
      go true e = (l.room e).out refl
      go false e = (l.no_room e).unwritten

  same_capture : is_read s.stage ≡ true → capture_of l.listing.chunks ≡ first ++ l.listing.behind
  same_capture e = sym (append-nil (capture_of l.listing.chunks)) ∙ ap (λ (x : List ℕ). capture_of l.listing.chunks ++ x) (sym (l.listing.all e)) ∙ l.listing.begun

  same_text : is_read s.stage ≡ true → table_text s.table ≡ report (first ++ l.listing.behind)
  same_text e = ap table_text (sym (l.listing.whole e).table) ∙ sym (report_of_table (capture_of l.listing.chunks)) ∙ ap report (same_capture e)

  pub reports : {out : List ℕ} {end : ℕ} → PutInTurn d' 0 (table_text s.table) out end → length (table_text s.table) ≤ 25_792
      → is_read s.stage ≡ true → Reports first d (record { stage = s.stage; end = end }) out
  reports {out} {end} p short read =
      record {
        behind = l.listing.behind;
        text = λ e. rw (sym unchanged, sym (same_text e)) p;
        fits = rw p.place (omega (arith, after_below 0 (table_text s.table), short));
        failed = λ e. absurd (false≢true (sym e ∙ read));
        written = λ e. (l.room e).written refl;
      }
