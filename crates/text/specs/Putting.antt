-- A text put into a buffer that a caller lends.
use Rattle.std.specs.Prelude.{ℕ, ◌+◌, ◌≤◌, ◌≡◌, cond, List, leb, length}
use Rattle.std.proofs.lemmas.List.Edits.{sets}

-- the largest number of 64 bits, for which every larger one is taken
abbrev pub largest : ℕ
largest = 18_446_744_073_709_551_615

abbrev pub saturated : ℕ → ℕ
saturated n = cond (leb n largest) n largest

-- the place after a text at a place
unfoldable pub place_after : ℕ → List ℕ → ℕ
place_after at text = saturated (at + length text)

-- the buffer d afterwards: a text that has no room there is not put
unfoldable pub put_at : List ℕ → ℕ → List ℕ → List ℕ
put_at d at text = cond (leb (at + length text) (length d)) (sets d at text) d

-- a text put into a buffer d at a place: d' is the buffer afterwards, and r what is answered
pub record Put (d : List ℕ) (at : ℕ) (text d' : List ℕ) (r : ℕ) : Type 0 where
  pub place : r ≡ place_after at text
  pub buffer : d' ≡ put_at d at text
  -- where the answer is in the buffer it is the very place after the text, so that the answer says whether there was room
  pub room : r ≤ length d → r ≡ at + length text
