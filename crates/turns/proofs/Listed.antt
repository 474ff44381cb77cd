-- All turns together: what is listed is the capture that came. Assumes nothing.
use Prim.Native.Nat.{ℕ, ◌+◌, ◌-◌, ◌≤◌, min}
use mathlib.Core.Path.{◌≡◌, refl, sym, ap, ◌∙◌, subst}
use mathlib.Core.Bool.{Bool, true, false, false≢true}
use mathlib.Core.List.{List, [], ◌∷◌, ◌++◌, append-nil, append_assoc}
use native.Mathlib.Omega.{arith}
use borrow.Author.Tests.{le-leb, leb-true, leb-false}
use lib.Dec.{T, ltb, leb}
use lib.ListN.{length, take, drop, take-append-drop}
use lib.Seq.{sets, length-sets, length-take-le, drop-length, take_all}
use Rattle.capture.specs.Walk.{ChunkWalk}
use Rattle.table.specs.Table.{Table}
use Rattle.lines.specs.Lines.{start_line, ending}
use Rattle.lines.specs.Placing.{line_room, roomy}
use Rattle.input.specs.Input.{between}
use Rattle.listing.specs.Listing.{Said, lines_after, number_after}
use Rattle.listing.specs.Chunks.{chunked}
use Rattle.listing.specs.InChunks.{LentChunk, capture_of, Run, unlisted, list_chunk, list_chunks, count_at_end, ListedAs}
use Rattle.listing.proofs.InChunks.{in_chunks}
use Rattle.listing.proofs.Lines.{nothing_shown}
use Rattle.turns.specs.declared.Stage.{Stage}
use Rattle.turns.specs.declared.Stage.TheVariants.{Going, CannotWrite}
use Rattle.turns.specs.declared.State.{State}
use Rattle.turns.proofs.Turning.{many}
use Rattle.turns.specs.Turns.{started, is_read, listed, InPlace, Turned, Listing, RecordsListed}

one_more : (shown : Bool) (r : Run) (cs : List LentChunk) (c : LentChunk) → list_chunks shown r (cs ++ (c ∷ [])) ≡ list_chunk shown (list_chunks shown r cs) c
unfolding list_chunks
one_more shown r [] c = refl
one_more shown r (x ∷ cs) c = one_more shown (list_chunk shown r x) cs c

capture_more : (cs : List LentChunk) (c : LentChunk) → capture_of (cs ++ (c ∷ [])) ≡ capture_of cs ++ c.bytes
unfolding capture_of
capture_more [] c = append-nil c.bytes
capture_more (x ∷ cs) c = ap (λ (l : List ℕ). x.bytes ++ l) (capture_more cs c) ∙ sym (append_assoc x.bytes (capture_of cs) c.bytes)

nothing_used : (shown : Bool) (chunk : List ℕ) (t : Table) (n room : ℕ) → roomy room 0 ≡ true → length (chunked shown chunk t n room).rest ≡ length chunk
    → chunked shown chunk t n room ≡ record { said = []; rest = chunk; state = t }
unfolding chunked lines_after
nothing_used shown chunk t n room fits z = in_chunks.walked.nothing_used _ chunk t fits z

same_listing : (shown : Bool) (capture text : List ℕ) {k k' m m' : ℕ} {t t' : Table} → k ≡ k' → m ≡ m' → t ≡ t'
    → ListedAs shown capture (start_line ++ (text ++ ending (ltb 0 k) m)) (count_at_end (ltb 0 k) m) t
    → ListedAs shown capture (start_line ++ (text ++ ending (ltb 0 k') m')) (count_at_end (ltb 0 k') m') t'
same_listing shown capture text e f g p = rw (sym e, sym f, sym g) p

-- the output keeps its size
out_size : {shown : Bool} {input d : List ℕ} {s r : State} {input' d' : List ℕ} → Turned shown input d s r input' d' → length d' ≡ length d
out_size {shown} {input} {d} {s} t = ap length t.lines ∙ length-sets d 0 (lines_after shown s.records (listed shown input s (length d)).said)

-- where no line is shown it stays as it was
out_kept : {shown : Bool} {input d : List ℕ} {s r : State} {input' d' : List ℕ} → Turned shown input d s r input' d' → shown ≡ false → d' ≡ d
out_kept {shown} {input} {d} {s} t off =
    t.lines ∙ ap (λ (b : Bool). sets d 0 (lines_after b s.records (listed shown input s (length d)).said)) off ∙ ap (sets d 0) (nothing_shown _ _)

roomy_for : (d : List ℕ) → line_room ≤ length d → roomy (length d) 0 ≡ true
roomy_for d room = le-leb (0 + line_room) (length d) (omega arith)

-- nothing has been listed yet
at_start : (shown : Bool) (input : List ℕ) (have : ℕ) (stage : Stage) {s : State} → s ≡ started have stage → is_read stage ≡ false → have ≤ length input
    → InPlace input s × Listing shown (take have input) input s
unfolding list_chunks capture_of
at_start shown input have stage e unread h =
    rw e (
      (omega arith, h),
      record {
        chunks = [];
        later = between 0 have input;
        held = refl;
        records = refl;
        table = refl;
        behind = [];
        begun = (let n : have - 0 ≡ have = omega arith in ap (λ (k : ℕ). take k input) n) ∙ sym (append-nil (take have input));
        all = λ q. absurd (subst T (sym q ∙ unread) tt);
        not_full = λ q. absurd (subst T (sym q ∙ unread) tt);
        whole = λ q. absurd (subst T (sym q ∙ unread) tt);
      },
    )

-- the same of the call
pub none_listed : (shown : Bool) (input d : List ℕ) (have : ℕ) {s : State} → s ≡ started have Going → have ≤ length input → line_room ≤ length d
    → RecordsListed shown (take have input) input d s input d
none_listed shown input d have e h room =
    let p = at_start shown input have Going e refl h in
    record {
      listing = p.1;
      places = p.0;
      input_size = refl;
      out_size = refl;
      room = λ _. record { out = λ _. refl; written = λ _. rw e };
      no_room = λ none. absurd (false≢true (sym none ∙ roomy_for d room));
    }

module _ (shown : Bool) (first input d : List ℕ) (s r : State) (input' d' : List ℕ) (h : InPlace input s) (room : line_room ≤ length d)
    (so_far : Listing shown first input s) (turned : Turned shown input d s r input' d') where
  abbrev before : Run
  before = list_chunks shown unlisted so_far.chunks

  abbrev chunk : LentChunk
  chunk = record { bytes = so_far.later; room = length d }

  abbrev after : Run
  after = list_chunks shown unlisted (so_far.chunks ++ (chunk ∷ []))

  abbrev now_listed : ChunkWalk Said Table
  now_listed = listed shown input s (length d)

  as_chunk : now_listed ≡ chunked shown (before.rest ++ so_far.later) before.table before.records (length d)
  as_chunk i = chunked shown (so_far.held i) (so_far.table i) (so_far.records i) (length d)

  rest_after : now_listed.rest ≡ after.rest
  unfolding list_chunk
  rest_after = ap (λ (w : ChunkWalk Said Table). w.rest) as_chunk ∙ sym (ap (λ (x : Run). x.rest) (one_more shown unlisted so_far.chunks chunk))

  table_after_lem : now_listed.state ≡ after.table
  unfolding list_chunk
  table_after_lem = ap (λ (w : ChunkWalk Said Table). w.state) as_chunk ∙ sym (ap (λ (x : Run). x.table) (one_more shown unlisted so_far.chunks chunk))

  records_after : number_after s.records now_listed.said ≡ after.records
  unfolding list_chunk
  records_after = (λ i. number_after (so_far.records i) (as_chunk i).said) ∙ sym (ap (λ (x : Run). x.records) (one_more shown unlisted so_far.chunks chunk))

  fits : roomy (length d) 0 ≡ true
  fits = roomy_for d room

  all_listed : is_read r.stage ≡ true
      → (let cut = ltb 0 (r.have - r.from) in ListedAs shown (capture_of (so_far.chunks ++ (chunk ∷ []))) (start_line ++ (after.text ++ ending cut r.records)) (count_at_end cut r.records) r.table)
  unfolding number_after
  all_listed e =
      let ended = turned.ended e in
      let idle = nothing_used shown (between s.from s.have input) s.table s.records (length d) fits (ended.0 ∙ sym (many input s h)) in
      let rest : after.rest ≡ between s.from s.have input = sym rest_after ∙ ap (λ (w : ChunkWalk Said Table). w.rest) idle in
      let table : after.table ≡ s.table = sym table_after_lem ∙ ap (λ (w : ChunkWalk Said Table). w.state) idle in
      let records : after.records ≡ s.records = sym records_after ∙ ap (λ (w : ChunkWalk Said Table). number_after s.records w.said) idle in
      let again : length (chunked shown after.rest after.table after.records (length d)).rest ≡ length after.rest =
      (λ i. length (chunked shown (rest i) (table i) (records i) (length d)).rest) ∙ ap (λ (w : ChunkWalk Said Table). length w.rest) idle ∙ ap length (sym rest) in
      let left : length after.rest ≡ r.have - r.from = ap length (sym rest_after ∙ sym ended.1) ∙ many input' r turned.places in
      same_listing shown (capture_of (so_far.chunks ++ (chunk ∷ []))) after.text left (sym (turned.records ∙ records_after)) (sym (turned.table ∙ table_after_lem))
      (in_chunks.whole_capture shown (so_far.chunks ++ (chunk ∷ [])) (length d) fits again)

  -- a turn lists one chunk more
  after_turn : Listing shown first input' r
  after_turn =
      let here = between r.from r.have input' in
      let new = drop (length now_listed.rest) here in
      record {
        chunks = so_far.chunks ++ (chunk ∷ []);
        later = new;
        held = sym (take-append-drop (length now_listed.rest) here) ∙ ap (λ (x : List ℕ). x ++ new) (turned.left ∙ rest_after);
        records = turned.records ∙ records_after;
        table = turned.table ∙ table_after_lem;
        behind = so_far.behind ++ new;
        begun = ap (λ (l : List ℕ). l ++ new) (capture_more so_far.chunks chunk ∙ so_far.begun) ∙ append_assoc first so_far.behind new;
        all = λ e. ap (drop (length now_listed.rest)) (turned.ended e).1 ∙ drop-length now_listed.rest;
        not_full = λ e.
            let ended = turned.ended e in
            let left : length now_listed.rest ≡ r.have - r.from = ap length (sym ended.1) ∙ many input' r turned.places in
            omega (arith, left, ended.2, turned.size);
        whole = all_listed;
      }

-- the same of the call, which was lent the input and the output as they were before
pub one_turn_more : {shown : Bool} {first input₀ d₀ input d : List ℕ} {s r : State} {input' d' : List ℕ} → line_room ≤ length d₀
    → RecordsListed shown first input₀ d₀ s input d → Turned shown input d s r input' d' → RecordsListed shown first input₀ d₀ r input' d'
one_turn_more {d₀ = d₀} room l t =
    let so_far = l.room (roomy_for d₀ room) in
    record {
      listing = after_turn _ _ _ _ _ _ _ _ l.places (omega (arith, l.out_size, room)) l.listing t;
      places = t.places;
      input_size = t.size ∙ l.input_size;
      out_size = out_size t ∙ l.out_size;
      room = λ _. record { out = λ off. out_kept t off ∙ so_far.out off; written = t.written };
      no_room = λ none. absurd (false≢true (sym none ∙ roomy_for d₀ room));
    }

-- ---- Whatever is asked for

-- the bytes that have been read, as far as the input has them
module _ (input : List ℕ) (have e : ℕ) (is : e ≡ min have (length input)) where
  pub within : e ≤ length input
  within = omega arith

  same_bytes : take e input ≡ take have input
  same_bytes = go (leb have (length input)) refl
    where
      go : (s : Bool) → leb have (length input) ≡ s → take e input ≡ take have input
      go true t =
          let low = leb-true have (length input) t in
          let same : e ≡ have = omega arith in
          ap (λ (k : ℕ). take k input) same
      go false t =
          let high = leb-false have (length input) t in
          take_all e input (omega arith) ∙ sym (take_all have input (omega arith))

  -- the output has no room for a line
  pub no_room : (shown : Bool) (d : List ℕ) {s : State} → roomy (length d) 0 ≡ false → s ≡ started e CannotWrite → RecordsListed shown (take have input) input d s input d
  no_room shown d none by =
      let p = at_start shown input e CannotWrite by refl within in
      let count : e ≡ length (take have input) = sym (length-take-le e input within) ∙ ap length same_bytes in
      record {
        listing = rw same_bytes at p.1;
        places = p.0;
        input_size = refl;
        out_size = refl;
        room = λ some. absurd (false≢true (sym none ∙ some));
        no_room = λ _. record { state = by ∙ ap (λ (n : ℕ). started n CannotWrite) count; unread = refl; unwritten = refl };
      }

  -- it has
  pub as_read : {shown : Bool} {d : List ℕ} {s : State} {input' d' : List ℕ} → RecordsListed shown (take e input) input d s input' d' → RecordsListed shown (take have input) input d s input' d'
  as_read l = rw same_bytes at l
