-- The records that are in use at the end of a capture hold the totals of the listing's own lines, counted since the last admission.
use Rattle.std.specs.Prelude.{ℕ, ◌+◌, ◌-◌, ◌<◌, ◌≡◌, true, List, [], ◌∷◌, ℤ, ◌+ℤ◌, length, take}
use Rattle.std.proofs.Math.Option.{some}
use Rattle.std.proofs.Math.ListN.{get_elem?}
use Rattle.tally.specs.declared.Sums.{Sums}
use Rattle.tally.specs.Tally.{most_summed, smallest, largest, sum}
use Rattle.stream.specs.declared.Record.{Record}
use Rattle.listing.specs.Listing.{visit}
use Rattle.report_lines.specs.Columns.{table_text}
use Rattle.report.specs.Report.{ListedFrame, since, counts_of, kinds_of, capped64, offsets, lesser, greater, fold, report}

-- smallest, largest and sum are those of these offsets
abbrev pub SumsOver : Sums → List ℤ → Type 0
SumsOver s [] = Unit {0}
SumsOver s (d ∷ ds) = (smallest s ≡ fold lesser d ds) × (largest s ≡ fold greater d ds) × (sum s ≡ fold ◌+ℤ◌ d ds)

pub record Totals (r : Record) (xs : List ListedFrame) : Type 0 where
  pub counts : r.counts ≡ counts_of xs
  pub kinds : r.tally.kinds ≡ kinds_of xs
  pub summed : r.tally.sums.summed ≡ length (take most_summed (offsets xs))
  pub unsummed : r.tally.sums.unsummed ≡ capped64 (length (offsets xs) - most_summed)
  pub sums : SumsOver r.tally.sums (take most_summed (offsets xs))

abbrev pub TotalsOfLines : Type 0
TotalsOfLines = (capture : List ℕ) (i : ℕ) (r : Record) → get_elem? (visit capture).1 i ≡ some r → r.in_use ≡ true
    → Totals r (since r.id [] (visit capture).0)

-- and each stream has one line: no two of them hold one id
abbrev pub OneLineEach : Type 0
OneLineEach = (capture : List ℕ) (i j : ℕ) (r s : Record) → get_elem? (visit capture).1 i ≡ some r → get_elem? (visit capture).1 j ≡ some s
    → r.in_use ≡ true → s.in_use ≡ true → r.id ≡ s.id → i ≡ j

-- so the report is the text of the table at the end
abbrev pub ReportOfTable : Type 0
ReportOfTable = (capture : List ℕ) → report capture ≡ table_text (visit capture).1

-- in every line the kinds add up to the accepted frames, while that count is below its cap
abbrev pub KindsAddUp : Type 0
KindsAddUp = (xs : List ListedFrame) → (counts_of xs).frames < 4_294_967_295
    → (let k = kinds_of xs in k.none + k.cut + k.outside + k.late + k.ahead + k.unclear + k.far ≡ (counts_of xs).frames)
