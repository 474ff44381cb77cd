-- A line, or the lines at the end of a listing, in a buffer that a caller lends.
use Rattle.std.specs.Prelude.{ℕ, ◌+◌, Bool, true, false, cond, List, length, nat_le, Option, Some, None}
use Rattle.std.proofs.lemmas.List.Edits.{sets}

-- the room that a line is given; no line has more bytes, nor have the two lines at the end of a cut capture
abbrev pub line_room : ℕ
line_room = 128

abbrev pub roomy : ℕ → ℕ → Bool
roomy len at = nat_le (at + line_room) len

-- is the line there; the place after it, 0 where it is not; the buffer
pub record LineAt : Type 0 where
  pub put : Bool
  pub end : ℕ
  pub buffer : List ℕ

-- a line at a place: it is put where it has its room; elsewhere the buffer stays as it was
unfoldable pub line_at : List ℕ → ℕ → List ℕ → LineAt
line_at d at line =
    cond (roomy (length d) at)
    (record { put = true; end = at + length line; buffer = sets d at line })
    (record { put = false; end = 0; buffer = d })

-- what each case of the answer says, beside the buffer that is left
abbrev pub placed_line : Option ℕ → List ℕ → LineAt
placed_line (Some end) d = record { put = true; end = end; buffer = d }
placed_line None d = record { put = false; end = 0; buffer = d }
