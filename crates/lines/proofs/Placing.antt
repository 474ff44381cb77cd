-- What a public call answers, by whether there was room, and that the place it answers is in the buffer. Assumes nothing.
use Rattle.std.proofs.Common.{◌≡◌, ℕ, ◌+◌, ◌≤◌, Bool, true, false, List, length, sym, ◌∙◌, arith}
use Rattle.text.specs.InTurn.{PutInTurn}
use Rattle.text.proofs.Puts.{has_room, after_below}
use Rattle.std.specs.Prelude.{Some, None}
use Rattle.lines.specs.Placing.{line_room, roomy, line_at, placed_line}

module _ (d : List ℕ) (at : ℕ) {r : Bool} (asked : r ≡ roomy (length d) at) where
  pub not_placed : (line : List ℕ) → r ≡ false → placed_line None d ≡ line_at d at line
  unfolding line_at
  not_placed line e = rw (sym asked ∙ e)

  module _ {line d' : List ℕ} {end : ℕ} (room : r ≡ true) (p : PutInTurn d at line d' end) (short : length line ≤ line_room) where
    there : end ≤ length d
    there = rw p.place (omega (arith, after_below at line, has_room (at + line_room) (length d) asked room))

    pub placed : placed_line (Some end) d' ≡ line_at d at line
    unfolding line_at
    placed = let s = p.stored there in rw (sym asked ∙ room, s.1, s.0)

    pub within : end ≤ length d'
    within = rw p.kept there

pub ruleset placing = (not_placed, placed, within)
