-- What the private calls answer. No public contract speaks of it.
use Rattle.std.specs.Prelude.{◌≡◌, ℕ, ◌+◌, ◌≤◌, Bool, cond, List, length, take, drop, Option, Some, None, Result, MatchOption}
use Rattle.std.proofs.lemmas.List.Edits.{sets}
use Rattle.refusal.specs.declared.Refusal.{Refusal}
use Rattle.capture.specs.Records.{Held, Front, end, cut, whole, entry_of}
use Rattle.table.specs.Table.{Table}
use Rattle.lines.specs.declared.Outcome.{Outcome}
use Rattle.lines.specs.Lines.{line_of, next_number, line_text}
use Rattle.lines.specs.Placing.{roomy}
use Rattle.listing.specs.declared.chunk.Progress.{Progress}
use Rattle.listing.specs.Listing.{step, if_shown}

-- what becomes of a record with these bytes that holds h: o is what is answered, and t' the table afterwards
pub record Obeyed (t : Table) (bytes : List ℕ) (h : Held) (o : Result Outcome Refusal) (t' : Table) : Type 0 where
  pub line : line_of o ≡ (step t bytes h).0.line
  pub table : t' ≡ (step t bytes h).1

-- ---- One record of a chunk

-- how far the chunk is listed then, none where that is no further; the table and the output
pub record Turn : Type 0 where
  pub next : Option Progress
  pub table : Table
  pub out : List ℕ

-- what stands at the front of the bytes that remain, where its line has room in so many bytes of output
abbrev pub ahead : ℕ → Progress → List ℕ → Front
ahead room p rest = cond (roomy room p.put) (entry_of rest) end

-- after the progress p, with the table t and the output d
abbrev pub turn_by : Bool → List ℕ → Table → Progress → List ℕ → Front → Turn
turn_by shown rest t p d end = record { next = None; table = t; out = d }
turn_by shown rest t p d cut = record { next = None; table = t; out = d }
turn_by shown rest t p d (whole size held) =
    let said = step t (take size rest) held in
    let line = if_shown shown (line_text (next_number p.records) said.0.line) in
    record {
      next = Some (record { at = p.at + size; put = p.put + length line; records = next_number p.records });
      table = said.1;
      out = sets d p.put line;
    }

unfoldable pub turn : Bool → List ℕ → Table → Progress → List ℕ → Turn
turn shown chunk t p d = let rest = drop p.at chunk in turn_by shown rest t p d (ahead (length d) p rest)

-- r is what is answered, t' the table and d' the output afterwards
pub record RecordListed (shown : Bool) (chunk : List ℕ) (t : Table) (p : Progress) (d : List ℕ) (r : Option Progress) (t' : Table) (d' : List ℕ) : Type 0 where
  pub next : r ≡ (turn shown chunk t p d).next
  pub table : t' ≡ (turn shown chunk t p d).table
  pub out : d' ≡ (turn shown chunk t p d).out
  pub within : MatchOption r (Unit {0}) (λ q. q.put ≤ length d')
