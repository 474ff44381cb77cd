-- A chunk turn by turn: what is left from here gives what the whole gives. Assumes nothing.
use Rattle.std.proofs.Common.{◌≡◌, ℕ, zero, suc, ◌+◌, ◌-◌, ◌<◌, ◌≤◌, Bool, true, false, cond, List, [], ◌∷◌, ◌++◌, length, take, drop, sym, refl, ap, ◌∙◌, arith, length-append, length-drop, drop-drop}
use Rattle.std.specs.Prelude.{Option, Some, None, Result, MatchOption}
use lib.Seq.{sets, length-sets, take_all}
use Rattle.refusal.specs.declared.Refusal.{Refusal}
use Rattle.capture.specs.declared.Entry.{Entry}
use Rattle.capture.specs.declared.Entry.TheVariants.{End, Cut, Whole}
use Rattle.capture.specs.declared.Content.{Content}
use Rattle.capture.specs.Records.{Held, Front, end, cut, whole, front_of, entry_of}
use Rattle.capture.specs.Walk.{ChunkWalk, walk_chunk_by, walk_chunk_from, walk_chunk}
use Rattle.capture.proofs.Fronts.{sized}
use Rattle.capture.proofs.InChunks.{in_chunks as walked_in_chunks}
use Rattle.table.specs.Table.{Table}
use Rattle.lines.specs.declared.Outcome.{Outcome}
use Rattle.lines.specs.Lines.{line_of, next_number, line_text}
use Rattle.lines.specs.Placing.{roomy, LineAt, line_at, placed_line}
use Rattle.text.proofs.Sets.{sets_append}
use Rattle.listing.specs.declared.chunk.Progress.{Progress}
use Rattle.listing.specs.Listing.{Said, step, if_shown, lines_after, number_after}
use Rattle.listing.specs.Chunks.{chunked, ChunkListed}
use Rattle.listing.specs.Private.{Obeyed, turn_by, turn, RecordListed}
use Rattle.listing.proofs.Lines.{lines_more, number_more}

-- ---- One record

-- the bytes from a place on are all that there are
pub rest_is : (at : ℕ) (chunk : List ℕ) → take (length chunk - at) (drop at chunk) ≡ drop at chunk
rest_is at chunk = take_all (length chunk - at) (drop at chunk) (rw (length-drop at chunk) (omega arith))

module _ (shown : Bool) (chunk : List ℕ) (t : Table) (p : Progress) (d : List ℕ) where
  pub no_room : roomy (length d) p.put ≡ false → RecordListed shown chunk t p d None t d
  unfolding turn
  no_room r = record { next = rw r; table = rw r; out = rw r; within = tt }

  module _ (room : roomy (length d) p.put ≡ true) (rest : List ℕ) (is : rest ≡ drop p.at chunk) where
    pub none_whole : (x : Entry) → front_of x ≡ entry_of rest → ((size : ℕ) (content : Result Content Refusal) → x ≡ Whole size content → ⊥) → RecordListed shown chunk t p d None t d
    unfolding turn
    none_whole End e n = record { next = rw (room, sym is, sym e); table = rw (room, sym is, sym e); out = rw (room, sym is, sym e); within = tt }
    none_whole Cut e n = record { next = rw (room, sym is, sym e); table = rw (room, sym is, sym e); out = rw (room, sym is, sym e); within = tt }
    none_whole (Whole size content) e n = absurd (n size content refl)

    module _ (size : ℕ) (held : Held) (e : whole size held ≡ entry_of rest) where
      pub fits : p.at ≤ length chunk → p.at + size ≤ length chunk
      fits h =
          let w = sized rest size held (sym e) in
          let l : length rest ≡ length chunk - p.at = rw is (length-drop p.at chunk) in
          omega arith

      -- a whole record, whose line has its room
      pub one_more : (o : Result Outcome Refusal) (t' : Table) → Obeyed t (take size rest) held o t' → (put : ℕ) (d' : List ℕ)
          → placed_line (Some put) d' ≡ line_at d p.put (if_shown shown (line_text (next_number p.records) (line_of o))) → put ≤ length d'
          → RecordListed shown chunk t p d (Some (record { at = p.at + size; put = put; records = next_number p.records })) t' d'
      unfolding turn line_at
      one_more o t' b put d' q w =
          let placed = rw room at q in
          record {
            next = rw (room, sym is, sym e, sym b.line) (ap (λ (l : LineAt). (let q : Progress = record { at = p.at + size; put = l.end; records = next_number p.records } in Some q)) placed);
            table = rw (room, sym is, sym e) b.table;
            out = rw (room, sym is, sym e, sym b.line) (ap (λ (l : LineAt). l.buffer) placed);
            within = w;
          }

-- ---- Turn by turn

module _ (shown : Bool) (chunk : List ℕ) (t : Table) (n : ℕ) (d : List ℕ) where
  abbrev ready : List Said → Bool
  ready said = roomy (length d) (length (lines_after shown n said))

  abbrev stop : List Said → List ℕ → Table → ChunkWalk Said Table
  stop said rest t' = record { said = said; rest = rest; state = t' }

  -- what it comes to from a place in the chunk, with what has been said so far
  abbrev onward : List Said → List ℕ → Table → ChunkWalk Said Table
  onward said rest t' = walk_chunk_from step (length rest) ready said rest t'

  -- the chunk is listed as far as p says, the table is t' by then, and the output d'
  pub record Going (p : Progress) (t' : Table) (d' : List ℕ) : Type 0 where
    pub said : List Said
    pub walked : onward said (drop p.at chunk) t' ≡ chunked shown chunk t n (length d)
    pub at : p.at ≤ length chunk
    pub put : p.put ≡ length (lines_after shown n said)
    pub records : p.records ≡ number_after n said
    pub out : d' ≡ sets d 0 (lines_after shown n said)
    pub within : p.put ≤ length d'

  pub begun : Going (record { at = 0; put = 0; records = n }) t d
  unfolding chunked walk_chunk lines_after number_after
  begun = record { said = []; walked = refl; at = omega arith; put = refl; records = refl; out = refl; within = omega arith }

  module _ (p : Progress) (t' : Table) (d' : List ℕ) (g : Going p t' d') where
    abbrev rest : List ℕ
    rest = drop p.at chunk

    -- one record further, or where there is none the chunk is listed
    abbrev pub After : Option Progress → Table → List ℕ → Type 0
    After r z e = MatchOption r (ChunkListed shown chunk t n d p z e) (λ q. Going q z e × (length chunk - q.at < length chunk - p.at))

    same_length : length d' ≡ length d
    same_length = let l = length-sets d 0 (lines_after shown n g.said) in cc

    same_ready : roomy (length d') p.put ≡ ready g.said
    same_ready = let l = same_length in let e = g.put in cc

    -- where nothing is listed
    abbrev Stands : Type 0
    Stands = (walk : List Said → List ℕ → Table → ChunkWalk Said Table) → stop g.said rest t' ≡ cond (ready g.said) (walk_chunk_by step walk g.said rest t' (entry_of rest)) (stop g.said rest t')

    stands : Stands → (k : ℕ) → stop g.said rest t' ≡ walk_chunk_from step k ready g.said rest t'
    unfolding walk_chunk_from
    stands h zero = refl
    stands h (suc k) = h (walk_chunk_from step k ready)

    stops : Stands → ChunkListed shown chunk t n d p t' d'
    stops h =
        let w : stop g.said rest t' ≡ chunked shown chunk t n (length d) = stands h (length rest) ∙ g.walked in
        record {
          at = rw (sym w) (let l = length-drop p.at chunk in let a = g.at in omega arith);
          put = rw (sym w) g.put;
          records = rw (sym w) g.records;
          table = ap (λ (c : ChunkWalk Said Table). c.state) w;
          out = rw (sym w) g.out;
          at_within = g.at;
          put_within = let l = same_length in let h = g.within in omega arith;
        }

    -- a record that is whole
    module _ (size : ℕ) (held : Held) (room : ready g.said ≡ true) (e : entry_of rest ≡ whole size held) where
      abbrev said : Said × Table
      said = step t' (take size rest) held

      abbrev gone : List Said
      gone = g.said ++ (said.0 ∷ [])

      abbrev line : List ℕ
      line = if_shown shown (line_text (next_number p.records) said.0.line)

      walks : (k : ℕ) → length rest ≡ k → walk_chunk_from step k ready g.said rest t' ≡ onward gone (drop size rest) said.1
      unfolding walk_chunk_from
      walks zero h = let w = sized rest size held e in absurd (omega arith)
      walks (suc k) h =
          let w = sized rest size held e in
          let l = length-drop size rest in
          rw (room, e) ((walked_in_chunks step).every_whole_record ready k (length (drop size rest)) gone (drop size rest) _ (omega arith) (omega arith))

      passes : p.put + length line ≤ length (sets d' p.put line) → After (Some (record { at = p.at + size; put = p.put + length line; records = next_number p.records })) said.1 (sets d' p.put line)
      passes inside =
          let w = sized rest size held e in
          let l = length-drop p.at chunk in
          let more = lines_more n g.said said.0 shown in (
            record {
              said = gone;
              walked = ap (λ (r : List ℕ). onward gone r said.1) (sym (drop-drop size p.at chunk)) ∙ sym (walks (length rest) refl) ∙ g.walked;
              at = omega arith;
              put = let m = length-append (lines_after shown n g.said) line in cc;
              records = let m = number_more n g.said said.0 in cc;
              out = let m = sets_append (lines_after shown n g.said) line d 0 in let z : 0 + p.put ≡ p.put = omega arith in cc;
              within = inside;
            },
            omega arith,
          )

    by_front : (b : Bool) → ready g.said ≡ b → (f : Front) → entry_of rest ≡ f → (let u = turn_by shown rest t' p d' (cond b f end) in MatchOption u.next (Unit {0}) (λ q. q.put ≤ length u.out) → After u.next u.table u.out)
    by_front false r f e i = stops (λ walk. rw r)
    by_front true r end e i = stops (λ walk. rw (r, e))
    by_front true r cut e i = stops (λ walk. rw (r, e))
    by_front true r (whole size held) e i = passes size held r e i

    -- a turn, whatever its parts are called
    pub turned : (r : Option Progress) (z : Table) (e : List ℕ) → RecordListed shown chunk t' p d' r z e → After r z e
    unfolding turn
    turned r z e b =
        let i = rw (b.next, b.out) at b.within in
        rw (b.next, b.table, b.out) (by_front (roomy (length d') p.put) (sym same_ready) (entry_of rest) refl i)
