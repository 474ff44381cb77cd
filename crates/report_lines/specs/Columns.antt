-- The lines of a visit report (requests #104, #106 and #107). Columns are decimal, one space between, and a line ends in a line feed.
use Rattle.std.specs.Prelude.{ℕ, cond, List, [], ◌∷◌, ◌++◌, eqb, ℤ}
use Rattle.text.specs.Text.{ascii, decimal, signed}
use Rattle.tally.specs.declared.Kinds.{Kinds}
use Rattle.tally.specs.declared.Sums.{Sums}
use Rattle.tally.specs.Tally.{smallest, largest, sum}
use Rattle.stream.specs.declared.Counts.{Counts}
use Rattle.stream.specs.declared.Record.{Record}

-- ---- Columns

abbrev pub column : List ℕ → List ℕ
column text = text ++ ascii " "

-- accepted frames, and the flags in document 01's order
unfoldable pub counts_text : Counts → List ℕ
counts_text c =
    column (decimal c.frames)
    ++ column (decimal c.sequence_breaks)
    ++ column (decimal c.block_breaks)
    ++ column (decimal c.format_changes)
    ++ column (decimal c.mr_changes)

-- none, cut, outside, late, ahead, unclear (request #106), far (request #107)
unfoldable pub kinds_text : Kinds → List ℕ
kinds_text k =
    column (decimal k.none)
    ++ column (decimal k.cut)
    ++ column (decimal k.outside)
    ++ column (decimal k.late)
    ++ column (decimal k.ahead)
    ++ column (decimal k.unclear)
    ++ column (decimal k.far)

-- the mean as the sum over its count, unreduced
unfoldable pub mean_text : ℤ → ℕ → List ℕ
mean_text total count = signed total ++ ascii "/" ++ decimal count

-- smallest and largest offset, the sum, and the mean
unfoldable pub summed_text : ℤ → ℤ → ℤ → ℕ → List ℕ
summed_text low high total count = column (signed low) ++ column (signed high) ++ column (signed total) ++ column (mean_text total count)

-- where there is none
abbrev pub none_text : List ℕ
none_text = ascii "none none none none "

-- ---- A line

-- the id, then accepted frames and flags, kinds, the text of the four, and how many were not summed
unfoldable pub stream_line : ℕ → Counts → Kinds → List ℕ → ℕ → List ℕ
stream_line id counts kinds four unsummed = column (decimal id) ++ counts_text counts ++ kinds_text kinds ++ four ++ decimal unsummed ++ ascii "\n"

-- ---- The lines of a table

unfoldable pub sums_text : Sums → List ℕ
sums_text s = cond (eqb s.summed 0) none_text (summed_text (smallest s) (largest s) (sum s) s.summed)

unfoldable pub record_text : Record → List ℕ
record_text r = stream_line r.id r.counts r.tally.kinds (sums_text r.tally.sums) r.tally.sums.unsummed

-- a record that is not in use has none
abbrev pub used_text : Record → List ℕ
used_text r = cond r.in_use (record_text r) []

-- of a table that is lent with one id twice both have one; a capture leaves no such table (`OneLineEach`)
unfoldable pub table_text : List Record → List ℕ
table_text [] = []
table_text (r ∷ t) = used_text r ++ table_text t
