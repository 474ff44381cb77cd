-- What the private calls answer. No public contract speaks of it.
use Rattle.std.specs.Prelude.{ℕ, List, [], ◌∷◌, ◌++◌}
use Rattle.text.specs.Text.{decimal}
use Rattle.report_lines.specs.Columns.{column}

-- numbers, each in a column
unfoldable pub columns : List ℕ → List ℕ
columns [] = []
columns (n ∷ ns) = column (decimal n) ++ columns ns
