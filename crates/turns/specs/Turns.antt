-- Listing a capture as it is read: one turn, and all of them.
use Rattle.std.specs.Prelude.{ℕ, ◌-◌, ◌≤◌, ◌<◌, ◌≡◌, Bool, true, false, List, [], ◌++◌, ltb, length, take, replicate}
use Rattle.std.proofs.lemmas.List.Edits.{sets}
use Rattle.capture.specs.Walk.{ChunkWalk}
use Rattle.stream.specs.Records.{unused}
use Rattle.table.specs.Table.{Table}
use Rattle.lines.specs.Lines.{start_line, ending}
use Rattle.lines.specs.Placing.{roomy}
use Rattle.input.specs.declared.Source.{Source}
use Rattle.input.specs.declared.Source.TheVariants.{Open, Ended, Failed}
use Rattle.input.specs.Input.{between}
use Rattle.listing.specs.Listing.{Said, lines_after, number_after}
use Rattle.listing.specs.Chunks.{chunked}
use Rattle.listing.specs.InChunks.{LentChunk, capture_of, unlisted, list_chunks, count_at_end, ListedAs}
use Rattle.turns.specs.declared.Stage.{Stage}
use Rattle.turns.specs.declared.Stage.TheVariants.{Going, AllRead, CannotRead, CannotWrite}
use Rattle.turns.specs.declared.State.{State}

-- ---- Where a listing stands

-- by what became of the input
abbrev pub stage_by : Source → Stage
stage_by Open = Going
stage_by Ended = AllRead
stage_by Failed = CannotRead

-- has all been read and listed?
abbrev pub is_read : Stage → Bool
is_read Going = false
is_read AllRead = true
is_read CannotRead = false
is_read CannotWrite = false

-- could lines not be written?
abbrev pub is_unwritten : Stage → Bool
is_unwritten Going = false
is_unwritten AllRead = false
is_unwritten CannotRead = false
is_unwritten CannotWrite = true

-- at the start, when so many bytes have been read
abbrev pub started : ℕ → Stage → State
started have stage = record { table = replicate 64 unused; records = 0; from = 0; have = have; stage = stage }

-- ---- One turn

-- the bytes that are not listed yet, as a chunk, with the state's table and count and an output of so many bytes
abbrev pub listed : Bool → List ℕ → State → ℕ → ChunkWalk Said Table
listed shown input s room = chunked shown (between s.from s.have input) s.table s.records room

-- the state's places are in the input, in their order
abbrev pub InPlace : List ℕ → State → Type 0
InPlace input s = (s.from ≤ s.have) × (s.have ≤ length input)

-- a turn from the state s, with the input and the output d: r is the state afterwards, and input' and d' are the two then. Whether more
-- was read, and whether the lines could be written, is the system's to say
pub record Turned (shown : Bool) (input d : List ℕ) (s r : State) (input' d' : List ℕ) : Type 0 where
  pub table : r.table ≡ (listed shown input s (length d)).state
  pub records : r.records ≡ number_after s.records (listed shown input s (length d)).said
  -- the lines that are written
  pub lines : d' ≡ sets d 0 (lines_after shown s.records (listed shown input s (length d)).said)
  -- where no line is shown, none can fail to be written
  pub written : shown ≡ false → is_unwritten r.stage ≡ false
  -- what is left stands in front of what may have been read
  pub left : (let rest = (listed shown input s (length d)).rest in take (length rest) (between r.from r.have input') ≡ rest)
  -- more is read only where there was no whole record
  pub unread : (let rest = (listed shown input s (length d)).rest in length rest < s.have - s.from → between r.from r.have input' ≡ rest)
  pub size : length input' ≡ length input
  pub places : InPlace input' r
  -- all has been read once there was no whole record left, and nothing more came though the input had room for it
  pub ended : is_read r.stage ≡ true
      → (let rest = (listed shown input s (length d)).rest in (length rest ≡ s.have - s.from) × (between r.from r.have input' ≡ rest) × (length rest < length input))

-- ---- All of them

-- a capture of which the first bytes had been read before: the state and the input hold it as it came in chunks. The count and the table are
-- theirs, and what they leave stands in the input, in front of what came later
pub record Listing (shown : Bool) (first input : List ℕ) (s : State) : Type 0 where
  pub chunks : List LentChunk
  pub later : List ℕ
  pub held : between s.from s.have input ≡ (list_chunks shown unlisted chunks).rest ++ later
  pub records : s.records ≡ (list_chunks shown unlisted chunks).records
  pub table : s.table ≡ (list_chunks shown unlisted chunks).table
  -- the first bytes, and then what came behind them
  pub behind : List ℕ
  pub begun : capture_of chunks ++ later ≡ first ++ behind
  -- once all has been read, nothing waits, and a full input is not taken for the end. The lines of the chunks, where they are shown, are
  -- the capture's listing, between its first line and the ending; the count and the table are those of the capture
  pub all : is_read s.stage ≡ true → later ≡ []
  pub not_full : is_read s.stage ≡ true → s.have - s.from < length input
  pub whole : is_read s.stage ≡ true
      → (let cut = ltb 0 (s.have - s.from) in ListedAs shown (capture_of chunks) (start_line ++ ((list_chunks shown unlisted chunks).text ++ ending cut s.records)) (count_at_end cut s.records) s.table)

-- where no line is shown, the output d is as it was, and no line fails to be written
pub record Unshown (shown : Bool) (d : List ℕ) (s : State) (d' : List ℕ) : Type 0 where
  pub out : shown ≡ false → d' ≡ d
  pub written : shown ≡ false → is_unwritten s.stage ≡ false

-- nothing was read and nothing listed, since the output d has no room for a line: only the first bytes, which had been read before, are
-- there
pub record NothingListed (first input d : List ℕ) (s : State) (input' d' : List ℕ) : Type 0 where
  pub state : s ≡ started (length first) CannotWrite
  pub unread : input' ≡ input
  pub unwritten : d' ≡ d

-- a capture of which the first bytes had been read before, with the input and the output d that were lent: s is the state that is answered,
-- and input' and d' are the two then. What the input holds outside its places is free, and the output where lines are shown
pub record RecordsListed (shown : Bool) (first input d : List ℕ) (s : State) (input' d' : List ℕ) : Type 0 where
  pub listing : Listing shown first input' s
  pub places : InPlace input' s
  pub input_size : length input' ≡ length input
  pub out_size : length d' ≡ length d
  -- the output has room for a line, or it has not
  pub room : roomy (length d) 0 ≡ true → Unshown shown d s d'
  pub no_room : roomy (length d) 0 ≡ false → NothingListed first input d s input' d'
