-- Listing a capture in any chunks is listing it whole: going through it in chunks, shown as text. Assumes nothing.
use Rattle.std.proofs.Common.{◌≡◌, ℕ, Bool, true, false, cond, eqb, ltb, List, [], ◌∷◌, ◌++◌, map, length, replicate, sym, refl, ap, ◌∙◌, subst, append_assoc, append-nil, arith, le-ltb, lt-ltb, eqb-true}
use borrow.Author.Tests.{eqb-false}
use Rattle.capture.specs.Records.{damaged}
use Rattle.capture.specs.Walk.{ChunkWalk, walk}
use Rattle.capture.specs.InChunks as walked
use Rattle.capture.proofs.InChunks.{in_chunks as walked_in_chunks}
use Rattle.stream.specs.Records.{unused}
use Rattle.table.specs.Table.{Table}
use Rattle.lines.specs.Lines.{start_line, end_line, ending}
use Rattle.lines.specs.Placing.{roomy}
use Rattle.listing.specs.Listing.{Said, step, visit, lines_after, number_after, listing}
use Rattle.listing.specs.Chunks.{chunked}
use Rattle.listing.specs.InChunks.{LentChunk, capture_of, Run, unlisted, list_chunk, list_chunks, count_at_end, ListedAs, ListedInChunks}
use Rattle.listing.proofs.Lines.{lines_append, number_append, lines_more, number_more}

module _ (shown : Bool) where
  -- a capture that has been gone through so far, as it is listed
  abbrev listed_so : ChunkWalk Said Table → Run
  listed_so p = record { rest = p.rest; text = lines_after shown 0 p.said; records = number_after 0 p.said; table = p.state }

  -- a chunk with its room, by what was said before it and of it
  abbrev room_for : LentChunk → walked.Chunk Said
  room_for c = record { bytes = c.bytes; ready = λ before said. roomy c.room (length (lines_after shown (number_after 0 before) said)) }

  same_capture : (cs : List LentChunk) → capture_of cs ≡ walked.joined (map room_for cs)
  unfolding capture_of walked.joined
  same_capture [] = refl
  same_capture (c ∷ cs) = ap (λ (l : List ℕ). c.bytes ++ l) (same_capture cs)

  listed_chunk : (p : ChunkWalk Said Table) (c : LentChunk) → list_chunk shown (listed_so p) c ≡ listed_so (walked.with_chunk step p (room_for c))
  unfolding list_chunk walked.with_chunk chunked
  listed_chunk p c =
      let q = chunked shown (p.rest ++ c.bytes) p.state (number_after 0 p.said) c.room in
      λ i. record { rest = q.rest; text = sym (lines_append shown 0 p.said q.said) i; records = sym (number_append 0 p.said q.said) i; table = q.state }

  listed_chunks : (cs : List LentChunk) (p : ChunkWalk Said Table) → list_chunks shown (listed_so p) cs ≡ listed_so (walked.with_chunks step p (map room_for cs))
  unfolding list_chunks walked.with_chunks
  listed_chunks [] p = refl
  listed_chunks (c ∷ cs) p = ap (λ (r : Run). list_chunks shown r cs) (listed_chunk p c) ∙ listed_chunks cs (walked.with_chunk step p (room_for c))

-- the end of a capture, as it is listed
module _ (said : List Said) (left : List ℕ) (t : Table) where
  abbrev all : Bool → List Said × Table
  all b = walked.behind said (cond b ([], t) ((step t left (damaged 41)).0 ∷ [], (step t left (damaged 41)).1))

  end_by : (b : Bool) → eqb (length left) 0 ≡ b
      → (lines_after true 0 (all b).0 ++ end_line (number_after 0 (all b).0) ≡ lines_after true 0 said ++ ending (ltb 0 (length left)) (number_after 0 said))
      × (number_after 0 (all b).0 ≡ count_at_end (ltb 0 (length left)) (number_after 0 said))
      × ((all b).1 ≡ t)
  unfolding ending
  end_by true e = let h = eqb-true (length left) 0 e in (rw (append-nil said, le-ltb 0 (length left) (omega arith)), rw (append-nil said, le-ltb 0 (length left) (omega arith)), refl)
  end_by false e =
      let h = eqb-false (length left) 0 e in
      let x = (step t left (damaged 41)).0 in
      let some_left = lt-ltb 0 (length left) (omega arith) in
      (rw (some_left, lines_more 0 said x true, number_more 0 said x) (append_assoc (lines_after true 0 said) _ _), rw some_left (number_more 0 said x), refl)

module _ (shown : Bool) (cs : List LentChunk) (room : ℕ) (fits : roomy room 0 ≡ true) where
  abbrev p : ChunkWalk Said Table
  p = walked.with_chunks step (walked.unread (replicate 64 unused)) (map (room_for shown) cs)

  -- the claim at a run
  abbrev At : Run → Type 0
  At r = length (chunked shown r.rest r.table r.records room).rest ≡ length r.rest
      → (let cut = ltb 0 (length r.rest) in ListedAs shown (capture_of cs) (start_line ++ (r.text ++ ending cut r.records)) (count_at_end cut r.records) r.table)

  at_end : At (listed_so shown p)
  unfolding chunked visit listing lines_after
  at_end z =
      let e = end_by p.said p.rest p.state (eqb (length p.rest) 0) refl in
      let w : visit (capture_of cs) ≡ all p.said p.rest p.state (eqb (length p.rest) 0) =
      ap (λ (l : List ℕ). walk step l (replicate 64 unused)) (same_capture shown cs)
      ∙ (walked_in_chunks step).whole_capture (map (room_for shown) cs) (replicate 64 unused) (λ said. roomy room (length (lines_after shown (number_after 0 p.said) said))) fits z in
      record {
        listed = λ on.
            ap (λ (x : List Said × Table). start_line ++ (lines_after true 0 x.0 ++ end_line (number_after 0 x.0))) w ∙ ap (λ (l : List ℕ). start_line ++ l) e.0
            ∙ ap (λ (b : Bool). start_line ++ (lines_after b 0 p.said ++ ending (ltb 0 (length p.rest)) (number_after 0 p.said))) (sym on);
        records = ap (λ (x : List Said × Table). number_after 0 x.0) w ∙ e.1;
        table = ap (λ (x : List Said × Table). x.1) w ∙ e.2;
      }

  whole_capture : At (list_chunks shown unlisted cs)
  unfolding lines_after number_after
  whole_capture = subst At (sym (listed_chunks shown cs (walked.unread (replicate 64 unused)))) at_end

pub in_chunks : ListedInChunks
in_chunks = record { whole_capture = whole_capture; walked = walked_in_chunks step }
