-- Going through the records of a capture with a state S. What a record makes of the state, and what is said of it, is a step: it is given the
-- state, the record's bytes and what the record holds. A record that is cut is all that is left, and holds `damaged 41`.
use Rattle.std.specs.Prelude.{ℕ, zero, suc, Bool, cond, List, [], ◌∷◌, ◌++◌, length, take, drop}
use Rattle.capture.specs.Records.{Held, damaged, Front, end, cut, whole, entry_of}

-- ---- A whole capture

module _ {O S : Type 0} (step : S → List ℕ → Held → O × S) where
  -- what stands at the front of the bytes that remain, given the walk from the next record on
  abbrev pub walk_by : (List ℕ → S → List O × S) → List ℕ → S → Front → List O × S
  walk_by onward rest s end = ([], s)
  walk_by onward rest s cut = ((step s rest (damaged 41)).0 ∷ [], (step s rest (damaged 41)).1)
  walk_by onward rest s (whole size held) =
      let a = step s (take size rest) held in
      let b = onward (drop size rest) a.1 in
      (a.0 ∷ b.0, b.1)

  -- at most k records
  unfoldable pub walk_from : ℕ → List ℕ → S → List O × S
  walk_from zero rest s = ([], s)
  walk_from (suc k) rest s = walk_by (walk_from k) rest s (entry_of rest)

  -- a capture has no more records than bytes
  unfoldable pub walk : List ℕ → S → List O × S
  walk capture s = walk_from (length capture) capture s

-- ---- Its records, one after the other

pub record CaptureRecord : Type 0 where
  pub bytes : List ℕ
  pub held : Held

unfoldable pub records_in : List ℕ → List CaptureRecord
records_in capture = (walk {O = CaptureRecord} (λ (s : Unit {0}) bytes held. (record { bytes = bytes; held = held }, s)) capture tt).0

-- a step for each of some records: the first has the state s, each later one that which the one before left
unfoldable pub steps : {O S : Type 0} → (S → List ℕ → Held → O × S) → S → List CaptureRecord → List O × S
steps step s [] = ([], s)
steps step s (r ∷ rs) =
    let a = step s r.bytes r.held in
    let b = steps step a.1 rs in
    (a.0 ∷ b.0, b.1)

-- ---- A part of a capture: the whole records at the front of a chunk, while `ready` says of what has been said so far that there is room for
-- more. What is left of the chunk waits for the bytes that come later.

pub record ChunkWalk (O S : Type 0) : Type 0 where
  pub said : List O
  pub rest : List ℕ
  pub state : S

module _ {O S : Type 0} (step : S → List ℕ → Held → O × S) where
  abbrev pub walk_chunk_by : (List O → List ℕ → S → ChunkWalk O S) → List O → List ℕ → S → Front → ChunkWalk O S
  walk_chunk_by onward said rest s end = record { said = said; rest = rest; state = s }
  walk_chunk_by onward said rest s cut = record { said = said; rest = rest; state = s }
  walk_chunk_by onward said rest s (whole size held) =
      let a = step s (take size rest) held in
      onward (said ++ (a.0 ∷ [])) (drop size rest) a.1

  unfoldable pub walk_chunk_from : ℕ → (List O → Bool) → List O → List ℕ → S → ChunkWalk O S
  walk_chunk_from zero ready said rest s = record { said = said; rest = rest; state = s }
  walk_chunk_from (suc k) ready said rest s =
      cond (ready said) (walk_chunk_by (walk_chunk_from k ready) said rest s (entry_of rest)) (record { said = said; rest = rest; state = s })

  unfoldable pub walk_chunk : (List O → Bool) → List ℕ → S → ChunkWalk O S
  walk_chunk ready chunk s = walk_chunk_from (length chunk) ready [] chunk s
