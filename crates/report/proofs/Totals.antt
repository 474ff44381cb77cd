-- The records in use hold the totals of the listing's lines, and so the report is the text of the table. Assumes nothing.
use Prim.Native.Nat.{ℕ}
use mathlib.Core.Path.{◌≡◌, refl, sym, ap, ◌∙◌, subst}
use mathlib.Core.List.{List, [], ◌∷◌, ◌++◌}
use native.Mathlib.Omega.{arith}
use lib.ListN.{take}
use Rattle.tally.specs.declared.Tally.{Tally}
use Rattle.tally.specs.Tally.{no_tally, most_summed, counted}
use Rattle.stream.specs.declared.Record.{Record}
use Rattle.stream.specs.Records.{admitted_within}
use Rattle.stream.specs.Answers.{answer_of, after}
use Rattle.stream.proofs.Laws.{after_tally}
use Rattle.listing.specs.Listing.{visit}
use Rattle.report.specs.Report.{ListedFrame, since, how_many, counts_of, kinds_of, offsets, report}
use Rattle.report.specs.Totals.{Totals, TotalsOfLines, OneLineEach, ReportOfTable}
use Rattle.report.proofs.Following.{shown_of, follows}
use Rattle.report.proofs.Counting.{counts_more, kinds_more}
use Rattle.report.proofs.Summing.{SumsOf, stands_summed, sums_more}
use Rattle.report.proofs.Ranges.{answer_range}
use Rattle.report.proofs.Texts.{table_text_lem}

-- what a record holds of the frames shown
record Holds (r : Record) (xs : List ListedFrame) : Type 0 where
  pub counts : r.counts ≡ counts_of xs
  pub kinds : r.tally.kinds ≡ kinds_of xs
  pub sums : SumsOf most_summed r.tally.sums (offsets xs)

none_yet : (id limit : ℕ) → Holds (admitted_within id limit) []
unfolding admitted_within no_tally how_many counts_of kinds_of offsets
none_yet id limit = record { counts = refl; kinds = refl; sums = record { summed = refl; unsummed = refl; stands = (refl, refl, refl); small = omega arith } }

one_more : (r : Record) (xs : List ListedFrame) (frame : List ℕ) (L : ℕ) → Holds r xs
    → Holds (after r frame L) (xs ++ (shown_of (answer_of r frame L) ∷ []))
unfolding counted
one_more r xs frame L h =
    let x = shown_of (answer_of r frame L) in
    record {
      counts = counts_more r xs frame L h.counts;
      kinds = ap (λ (y : Tally). y.kinds) (after_tally r frame L) ∙ kinds_more xs x r.tally.kinds h.kinds;
      sums =
          subst (λ (y : Tally). SumsOf most_summed y.sums (offsets (xs ++ (x ∷ [])))) (sym (after_tally r frame L))
          (sums_more r.tally.sums xs x (answer_range r frame L) h.sums);
    }

pub totals_of_lines : TotalsOfLines
totals_of_lines capture i r e u = totals ((follows Holds none_yet one_more capture).own i r e u)
  where
    totals : {xs : List ListedFrame} → Holds r xs → Totals r xs
    totals {xs} h =
        record {
          counts = h.counts;
          kinds = h.kinds;
          summed = h.sums.summed;
          unsummed = h.sums.unsummed;
          sums = stands_summed r.tally.sums (take most_summed (offsets xs)) h.sums.stands;
        }

pub one_line_each : OneLineEach
one_line_each capture = (follows Holds none_yet one_more capture).one

pub report_of_table : ReportOfTable
unfolding report
report_of_table capture = table_text_lem (visit capture).1 (λ id. since id [] (visit capture).0) (totals_of_lines capture)
