-- Listing a capture in any chunks is listing it whole, and so is going through it with no line shown.
use Rattle.std.specs.Prelude.{◌≡◌, ℕ, Bool, true, cond, List, [], ◌∷◌, ◌++◌, length, replicate, nat_lt}
use Rattle.capture.specs.InChunks.{InChunks as WalkInChunks}
use Rattle.stream.specs.Records.{unused}
use Rattle.table.specs.Table.{Table}
use Rattle.lines.specs.Lines.{next_number, start_line, ending}
use Rattle.lines.specs.Placing.{roomy}
use Rattle.listing.specs.Listing.{step, visit, lines_after, number_after, listing}
use Rattle.listing.specs.Chunks.{chunked}

-- ---- A capture in chunks

-- a chunk, and the bytes of the output that it is listed into
pub record LentChunk : Type 0 where
  pub bytes : List ℕ
  pub room : ℕ

-- the capture that they make
unfoldable pub capture_of : List LentChunk → List ℕ
capture_of [] = []
capture_of (c ∷ cs) = c.bytes ++ capture_of cs

-- a capture under way: the bytes that are left, the text so far, the number of the last record, and the table
pub record Run : Type 0 where
  pub rest : List ℕ
  pub text : List ℕ
  pub records : ℕ
  pub table : Table

-- a capture of which nothing has been read
abbrev pub unlisted : Run
unlisted = record { rest = []; text = []; records = 0; table = replicate 64 unused }

-- a chunk behind what is left of those before it, with their table and count, and its text behind theirs
unfoldable pub list_chunk : Bool → Run → LentChunk → Run
list_chunk shown r c =
    let now = chunked shown (r.rest ++ c.bytes) r.table r.records c.room in
    record {
      rest = now.rest;
      text = r.text ++ lines_after shown r.records now.said;
      records = number_after r.records now.said;
      table = now.state;
    }

unfoldable pub list_chunks : Bool → Run → List LentChunk → Run
list_chunks shown r [] = r
list_chunks shown r (c ∷ cs) = list_chunks shown (list_chunk shown r c) cs

-- ---- The claim

-- the records up to the end of a capture, after n that are whole: a cut one is counted too
abbrev pub count_at_end : Bool → ℕ → ℕ
count_at_end cut n = cond cut (next_number n) n

-- a capture is listed with this text, where lines are shown, has so many records, and leaves this table
pub record ListedAs (shown : Bool) (capture text : List ℕ) (n : ℕ) (t : Table) : Type 0 where
  pub listed : shown ≡ true → listing capture ≡ text
  pub records : number_after 0 (visit capture).0 ≡ n
  pub table : (visit capture).1 ≡ t

pub record ListedInChunks : Type 0 where
  -- the whole capture, in any chunks, empty ones too, and with any room for each: once a call that had room used nothing of what is left
  pub whole_capture : (shown : Bool) (cs : List LentChunk) (room : ℕ) → roomy room 0 ≡ true
      → (let r = list_chunks shown unlisted cs in length (chunked shown r.rest r.table r.records room).rest ≡ length r.rest
      → (let cut = nat_lt 0 (length r.rest) in ListedAs shown (capture_of cs) (start_line ++ (r.text ++ ending cut r.records)) (count_at_end cut r.records) r.table))
  -- what holds of going through a capture in chunks holds of this step
  pub walked : WalkInChunks step
