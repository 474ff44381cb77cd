-- A chunk of a capture at a time: the whole records at its front, as far as the output has room for their lines. Where no line is shown, one
-- that has room for a line has room for all.
use Rattle.std.specs.Prelude.{◌≡◌, ℕ, ◌-◌, ◌≤◌, Bool, List, length}
use Rattle.std.proofs.lemmas.List.Edits.{sets}
use Rattle.capture.specs.Walk.{ChunkWalk, walk_chunk}
use Rattle.table.specs.Table.{Table}
use Rattle.lines.specs.Placing.{roomy}
use Rattle.listing.specs.declared.chunk.Progress.{Progress}
use Rattle.listing.specs.Listing.{Said, step, lines_after, number_after}

-- the chunk, after n records, with the table t and an output of so many bytes
unfoldable pub chunked : Bool → List ℕ → Table → ℕ → ℕ → ChunkWalk Said Table
chunked shown chunk t n room = walk_chunk step (λ said. roomy room (length (lines_after shown n said))) chunk t

-- ---- What a call has listed of a chunk

-- a chunk is listed, after n records, with the table t and the output d: r is what is answered, t' the table and d' the output afterwards
pub record ChunkListed (shown : Bool) (chunk : List ℕ) (t : Table) (n : ℕ) (d : List ℕ) (r : Progress) (t' : Table) (d' : List ℕ) : Type 0 where
  pub at : r.at ≡ length chunk - length (chunked shown chunk t n (length d)).rest
  pub put : r.put ≡ length (lines_after shown n (chunked shown chunk t n (length d)).said)
  pub records : r.records ≡ number_after n (chunked shown chunk t n (length d)).said
  pub table : t' ≡ (chunked shown chunk t n (length d)).state
  pub out : d' ≡ sets d 0 (lines_after shown n (chunked shown chunk t n (length d)).said)
  pub at_within : r.at ≤ length chunk
  pub put_within : r.put ≤ length d
