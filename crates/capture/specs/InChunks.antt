-- Going through a capture in any chunks is going through it whole.
use Rattle.std.specs.Prelude.{ℕ, ◌-◌, ◌≤◌, ◌≡◌, Bool, true, cond, List, [], ◌∷◌, ◌++◌, eqb, length, drop}
use Rattle.capture.specs.Records.{Held, damaged}
use Rattle.capture.specs.Walk.{walk_from, walk, ChunkWalk, walk_chunk_from, walk_chunk}

-- ---- A capture in chunks

-- a chunk, and whether there is room for more behind what was said before it and what has been said of it
pub record Chunk (O : Type 0) : Type 0 where
  pub bytes : List ℕ
  pub ready : List O → List O → Bool

-- the capture that they make
unfoldable pub joined : {O : Type 0} → List (Chunk O) → List ℕ
joined [] = []
joined (c ∷ cs) = c.bytes ++ joined cs

-- a capture of which nothing has been read
abbrev pub unread : {O S : Type 0} → S → ChunkWalk O S
unread s = record { said = []; rest = []; state = s }

-- what was said, and behind it what a walk says
abbrev pub behind : {O S : Type 0} → List O → List O × S → List O × S
behind said w = (said ++ w.0, w.1)

module _ {O S : Type 0} (step : S → List ℕ → Held → O × S) where
  -- a chunk behind what is left of those before it, with their state, and what is said of it behind what was said of them
  unfoldable pub with_chunk : ChunkWalk O S → Chunk O → ChunkWalk O S
  with_chunk p c =
      let q = walk_chunk step (c.ready p.said) (p.rest ++ c.bytes) p.state in
      record { said = p.said ++ q.said; rest = q.rest; state = q.state }

  unfoldable pub with_chunks : ChunkWalk O S → List (Chunk O) → ChunkWalk O S
  with_chunks p [] = p
  with_chunks p (c ∷ cs) = with_chunks (with_chunk p c) cs

  -- what is left to walk where a capture ends with bytes that are no whole record, or with none
  abbrev pub walk_end : List ℕ → S → List O × S
  walk_end left s = cond (eqb (length left) 0) ([], s) ((step s left (damaged 41)).0 ∷ [], (step s left (damaged 41)).1)

-- ---- The claim, for a step

pub record InChunks {O S : Type 0} (step : S → List ℕ → Held → O × S) : Type 0 where
  -- the whole capture, in any chunks, empty ones too, and with any room for each: once a part that had room used nothing of what is left
  pub whole_capture : (cs : List (Chunk O)) (s : S) (ready : List O → Bool) → ready [] ≡ true
      → (let p = with_chunks step (unread s) cs in length (walk_chunk step ready p.rest p.state).rest ≡ length p.rest
      → walk step (joined cs) s ≡ behind p.said (walk_end step p.rest p.state))
  -- a chunk with more to come: what is said of it, and then of what is left of it with what comes later, from the state that it left
  pub more_to_come : (ready : List O → Bool) (chunk later : List ℕ) (s : S)
      → (let p = walk_chunk step ready chunk s in walk step (chunk ++ later) s ≡ behind p.said (walk step (p.rest ++ later) p.state))
  -- what is left is the end of the chunk
  pub left_within : (ready : List O → Bool) (chunk : List ℕ) (s : S) → length (walk_chunk step ready chunk s).rest ≤ length chunk
  pub left_over : (ready : List O → Bool) (chunk : List ℕ) (s : S)
      → (let p = walk_chunk step ready chunk s in drop (length chunk - length p.rest) chunk ≡ p.rest)
  -- where there was room but nothing was used, nothing is said and the state is as it was
  pub nothing_used : (ready : List O → Bool) (left : List ℕ) (s : S) → ready [] ≡ true → length (walk_chunk step ready left s).rest ≡ length left
      → walk_chunk step ready left s ≡ record { said = []; rest = left; state = s }
  -- and where nothing more comes
  pub at_the_end : (ready : List O → Bool) (left : List ℕ) (s : S) → ready [] ≡ true → length (walk_chunk step ready left s).rest ≡ length left
      → walk step left s ≡ walk_end step left s
  -- the bounds on the records leave none out: where there may be more, nothing changes
  pub every_record : (j k : ℕ) (rest : List ℕ) (s : S) → length rest ≤ j → length rest ≤ k → walk_from step j rest s ≡ walk_from step k rest s
  pub every_whole_record : (ready : List O → Bool) (j k : ℕ) (said : List O) (rest : List ℕ) (s : S) → length rest ≤ j → length rest ≤ k
      → walk_chunk_from step j ready said rest s ≡ walk_chunk_from step k ready said rest s

-- for states and answers that are lists of numbers, as which any data can be written
abbrev pub WalkedInChunks : Type 0
WalkedInChunks = (step : List ℕ → List ℕ → Held → List ℕ × List ℕ) → InChunks step
