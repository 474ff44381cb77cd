-- Texts put one after the other, each at the place that the call before it answered: for contracts of callers.
use Rattle.std.specs.Prelude.{ℕ, ◌+◌, ◌≤◌, ◌≡◌, List, length}
use Rattle.std.proofs.lemmas.List.Edits.{sets}
use Rattle.text.specs.Putting.{place_after}

-- `text` is all of them together, d the buffer before and d' after them, and r what the last call answered. Where r is in the buffer all
-- are there; elsewhere some of them may be.
pub record PutInTurn (d : List ℕ) (at : ℕ) (text d' : List ℕ) (r : ℕ) : Type 0 where
  pub place : r ≡ place_after at text
  pub kept : length d' ≡ length d
  pub stored : r ≤ length d → (r ≡ at + length text) × (d' ≡ sets d at text)
