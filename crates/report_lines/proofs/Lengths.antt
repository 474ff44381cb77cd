-- How long the parts of a line are at most, by how long their columns are. Assumes nothing.
use Prim.Native.Nat.{ℕ, ◌+◌, ◌≤◌}
use mathlib.Core.Path.{◌≡◌}
use mathlib.Core.List.{List, [], ◌∷◌, ◌++◌, append_assoc, append-nil}
use native.Mathlib.Omega.{arith}
use lib.IntN.{ℤ}
use lib.ListN.{length, length-append}
use Rattle.stream.specs.declared.Counts.{Counts}
use Rattle.tally.specs.declared.Kinds.{Kinds}
use Rattle.text.specs.Text.{ascii, decimal, signed}
use Rattle.report_lines.specs.Columns.{column, counts_text, kinds_text, mean_text, summed_text, stream_line}
use Rattle.report_lines.specs.Private.{columns}

pub one_longer : (text behind : List ℕ) → length text ≤ 20 → length behind ≡ 1 → length (text ++ behind) ≤ 21
one_longer text behind h one = rw (length-append text behind) (omega arith)

five : (a b c d e : List ℕ) → length (a ++ b ++ c ++ d ++ e) ≡ length a + length b + length c + length d + length e
five a b c d e = simp length-append

-- columns in a row
pub counts_columns : (c : Counts) → columns (c.frames ∷ c.sequence_breaks ∷ c.block_breaks ∷ c.format_changes ∷ c.mr_changes ∷ []) ≡ counts_text c
unfolding columns counts_text
counts_columns c = simp (append_assoc, append-nil)

pub kinds_columns : (k : Kinds) → columns (k.none ∷ k.cut ∷ k.outside ∷ k.late ∷ k.ahead ∷ k.unclear ∷ k.far ∷ []) ≡ kinds_text k
unfolding columns kinds_text
kinds_columns k = simp (append_assoc, append-nil)

pub mean_length : (total : ℤ) (count : ℕ) → length (signed total) ≤ 21 → length (column (decimal count)) ≤ 21 → length (column (mean_text total count)) ≤ 43
unfolding mean_text
mean_length total count f g = let l = length-append (decimal count) (ascii " ") in simp length-append (omega arith)

four : (a b c d : List ℕ) → length a ≤ 22 → length b ≤ 22 → length c ≤ 22 → length d ≤ 43 → length (a ++ b ++ c ++ d) ≤ 109
four a b c d f g h i = simp length-append (omega arith)

pub summed_length : (low high total : ℤ) (count : ℕ) → length (column (signed low)) ≤ 22 → length (column (signed high)) ≤ 22 → length (column (signed total)) ≤ 22 → length (column (mean_text total count)) ≤ 43 → length (summed_text low high total count) ≤ 109
unfolding summed_text
summed_length low high total count = four (column (signed low)) (column (signed high)) (column (signed total)) (column (mean_text total count))

-- the last column and the line's end are put together
pub line_in_parts : (id : ℕ) (counts : Counts) (kinds : Kinds) (sums : List ℕ) (unsummed : ℕ) → stream_line id counts kinds sums unsummed ≡ column (decimal id) ++ counts_text counts ++ kinds_text kinds ++ sums ++ (decimal unsummed ++ ascii "\n")
unfolding stream_line
line_in_parts id counts kinds sums unsummed = append_assoc (column (decimal id) ++ counts_text counts ++ kinds_text kinds ++ sums) (decimal unsummed) (ascii "\n")

pub line_length : (id : ℕ) (counts : Counts) (kinds : Kinds) (sums : List ℕ) (unsummed : ℕ) → length (column (decimal id)) ≤ 21 → length (counts_text counts) ≤ 105 → length (kinds_text kinds) ≤ 147 → length sums ≤ 109 → length (decimal unsummed ++ ascii "\n") ≤ 21 → length (stream_line id counts kinds sums unsummed) ≤ 403
line_length id counts kinds sums unsummed f g h i j = rw (line_in_parts id counts kinds sums unsummed, five (column (decimal id)) (counts_text counts) (kinds_text kinds) sums (decimal unsummed ++ ascii "\n")) (omega arith)
