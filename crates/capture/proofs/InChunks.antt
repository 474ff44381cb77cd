-- Going through a capture in any chunks is going through it whole. Assumes nothing.
use Prim.Native.Nat.{ℕ, zero, suc, ◌+◌, ◌-◌, ◌≤◌, zero-le}
use mathlib.Core.Path.{◌≡◌, refl, sym, ap, ◌∙◌}
use mathlib.Core.Bool.{Bool, true, false, cond}
use mathlib.Core.List.{List, [], ◌∷◌, ◌++◌, append_assoc, append-nil}
use native.Mathlib.Omega.{arith}
use borrow.Author.Tests.{eq-eqb, ne_eqb}
use lib.ListN.{length, take, drop, length-append, length-drop}
use lib.Seq.{take-append-le, drop-append-le, drop-drop}
use Rattle.capture.specs.Records.{Held, damaged, Front, end, cut, whole, entry_of}
use Rattle.capture.specs.Walk.{walk_by, walk_from, walk, ChunkWalk, walk_chunk_by, walk_chunk_from, walk_chunk}
use Rattle.capture.specs.InChunks.{Chunk, joined, unread, behind, with_chunk, with_chunks, walk_end, InChunks}
use Rattle.capture.proofs.Fronts.{end_empty, cut_some, sized}
use Rattle.capture.proofs.Parts.{read_in_parts}

-- what remains is the end of the chunk
abbrev EndOf : List ℕ → List ℕ → Type 0
EndOf chunk rest = (k : ℕ) × (k ≤ length chunk) × (rest ≡ drop k chunk)

end_used : (chunk rest : List ℕ) → EndOf chunk rest → (length rest ≤ length chunk) × (drop (length chunk - length rest) chunk ≡ rest)
end_used chunk rest (k, h, e) =
    let l : length rest ≡ length chunk - k = rw (e, length-drop k chunk) in
    let d : length chunk - length rest ≡ k = omega arith in
    (omega arith, rw d (sym e))

module _ {O S : Type 0} (step : S → List ℕ → Held → O × S) where
  -- ---- the bounds leave no record out
  module _ (j k : ℕ) (alike : (rest : List ℕ) (s : S) → length rest ≤ j → length rest ≤ k → walk_from step j rest s ≡ walk_from step k rest s)
      (rest : List ℕ) (s : S) (hj : length rest ≤ suc j) (hk : length rest ≤ suc k) where
    walk_alike : (f : Front) → entry_of rest ≡ f → walk_by step (walk_from step j) rest s f ≡ walk_by step (walk_from step k) rest s f
    walk_alike end e = refl
    walk_alike cut e = refl
    walk_alike (whole size held) e =
        let p = sized rest size held e in
        let l = length-drop size rest in
        let a = step s (take size rest) held in
        ap (behind (a.0 ∷ [])) (alike (drop size rest) _ (omega arith) (omega arith))

  none_walked : (k : ℕ) (rest : List ℕ) (s : S) → length rest ≤ 0 → ([], s) ≡ walk_from step k rest s
  unfolding walk_from entry_of
  none_walked zero rest s h = refl
  none_walked (suc k) rest s h = rw (eq-eqb (length rest) 0 (omega arith))

  every_record : (j k : ℕ) (rest : List ℕ) (s : S) → length rest ≤ j → length rest ≤ k → walk_from step j rest s ≡ walk_from step k rest s
  unfolding walk_from
  every_record zero k rest s hj hk = none_walked k rest s hj
  every_record (suc j) zero rest s hj hk = sym (none_walked (suc j) rest s hk)
  every_record (suc j) (suc k) rest s hj hk = walk_alike j k (every_record j k) rest s hj hk (entry_of rest) refl

  module _ (ready : List O → Bool) where
    abbrev stop : List O → List ℕ → S → ChunkWalk O S
    stop said rest s = record { said = said; rest = rest; state = s }

    module _ (j k : ℕ) (alike : (said : List O) (rest : List ℕ) (s : S) → length rest ≤ j → length rest ≤ k → walk_chunk_from step j ready said rest s ≡ walk_chunk_from step k ready said rest s)
        (said : List O) (rest : List ℕ) (s : S) (hj : length rest ≤ suc j) (hk : length rest ≤ suc k) where
      part_alike : (f : Front) → entry_of rest ≡ f → walk_chunk_by step (walk_chunk_from step j ready) said rest s f ≡ walk_chunk_by step (walk_chunk_from step k ready) said rest s f
      part_alike end e = refl
      part_alike cut e = refl
      part_alike (whole size held) e =
          let p = sized rest size held e in
          let l = length-drop size rest in
          let a = step s (take size rest) held in
          alike (said ++ (a.0 ∷ [])) (drop size rest) a.1 (omega arith) (omega arith)

    none_ready : (b : Bool) (x : ChunkWalk O S) → x ≡ cond b x x
    none_ready true x = refl
    none_ready false x = refl

    none_parted : (k : ℕ) (said : List O) (rest : List ℕ) (s : S) → length rest ≤ 0 → stop said rest s ≡ walk_chunk_from step k ready said rest s
    unfolding walk_chunk_from entry_of
    none_parted zero said rest s h = refl
    none_parted (suc k) said rest s h = rw (eq-eqb (length rest) 0 (omega arith)) (none_ready (ready said) (stop said rest s))

    every_whole_record : (j k : ℕ) (said : List O) (rest : List ℕ) (s : S) → length rest ≤ j → length rest ≤ k → walk_chunk_from step j ready said rest s ≡ walk_chunk_from step k ready said rest s
    unfolding walk_chunk_from
    every_whole_record zero k said rest s hj hk = none_parted k said rest s hj
    every_whole_record (suc j) zero said rest s hj hk = sym (none_parted (suc j) said rest s hk)
    every_whole_record (suc j) (suc k) said rest s hj hk =
        ap (λ (x : ChunkWalk O S). cond (ready said) x (stop said rest s)) (part_alike j k (every_whole_record j k) said rest s hj hk (entry_of rest) refl)

    -- ---- what remains is the end of the chunk
    module _ (chunk : List ℕ) where
      end_by : (k : ℕ) → ((said : List O) (rest : List ℕ) (s : S) → EndOf chunk rest → EndOf chunk (walk_chunk_from step k ready said rest s).rest)
          → (said : List O) (rest : List ℕ) (s : S) → EndOf chunk rest → (f : Front) → entry_of rest ≡ f → (b : Bool) → EndOf chunk (cond b (walk_chunk_by step (walk_chunk_from step k ready) said rest s f) (stop said rest s)).rest
      end_by k onward said rest s h f e false = h
      end_by k onward said rest s h end e true = h
      end_by k onward said rest s h cut e true = h
      end_by k onward said rest s (m, h, q) (whole size held) e true =
          let p = sized rest size held e in
          let l : length rest ≡ length chunk - m = rw (q, length-drop m chunk) in
          let a = step s (take size rest) held in
          onward (said ++ (a.0 ∷ [])) (drop size rest) a.1 (m + size, omega arith, ap (drop size) q ∙ drop-drop size m chunk)

      part_end : (k : ℕ) (said : List O) (rest : List ℕ) (s : S) → EndOf chunk rest → EndOf chunk (walk_chunk_from step k ready said rest s).rest
      unfolding walk_chunk_from
      part_end zero said rest s h = h
      part_end (suc k) said rest s h = end_by k (part_end k) said rest s h (entry_of rest) refl (ready said)

  -- ---- what comes later

  -- a record that is whole, and then the rest
  module _ (rest later : List ℕ) (s : S) (size : ℕ) (held : Held) (e : entry_of rest ≡ whole size held) where
    abbrev one : O × S
    one = step s (take size rest) held

    next_walked : walk step (rest ++ later) s ≡ behind (one.0 ∷ []) (walk step (drop size rest ++ later) one.1)
    unfolding walk walk_from
    next_walked = go (length (rest ++ later)) refl
      where
        go : (k : ℕ) → length (rest ++ later) ≡ k → walk_from step k (rest ++ later) s ≡ behind (one.0 ∷ []) (walk_from step (length (drop size rest ++ later)) (drop size rest ++ later) one.1)
        go zero h =
            let p = sized rest size held e in
            let l = length-append rest later in
            absurd (omega arith)
        go (suc k) h =
            let p = sized rest size held e in
            let l = length-append rest later in
            let d = length-drop size rest in
            let m = length-append (drop size rest) later in
            rw (read_in_parts rest later size held e, take-append-le size rest later p.1, drop-append-le size rest later p.1)
            (ap (behind (one.0 ∷ [])) (every_record k (length (drop size rest ++ later)) (drop size rest ++ later) one.1 (omega arith) (omega arith)))

  module _ (ready : List O → Bool) (later : List ℕ) where
    -- what has been said, and then what remains with what comes later
    abbrev all : ChunkWalk O S → List O × S
    all p = behind p.said (walk step (p.rest ++ later) p.state)

    all_by : (k : ℕ) → ((said : List O) (rest : List ℕ) (s : S) → all (walk_chunk_from step k ready said rest s) ≡ all (stop ready said rest s))
        → (said : List O) (rest : List ℕ) (s : S) (f : Front) → entry_of rest ≡ f → (b : Bool) → all (cond b (walk_chunk_by step (walk_chunk_from step k ready) said rest s f) (stop ready said rest s)) ≡ all (stop ready said rest s)
    all_by k onward said rest s f e false = refl
    all_by k onward said rest s end e true = refl
    all_by k onward said rest s cut e true = refl
    all_by k onward said rest s (whole size held) e true =
        let a = step s (take size rest) held in
        onward (said ++ (a.0 ∷ [])) (drop size rest) a.1
        ∙ (λ i. (append_assoc said (a.0 ∷ []) (walk step (drop size rest ++ later) a.1).0 i, (walk step (drop size rest ++ later) a.1).1))
        ∙ ap (behind said) (sym (next_walked rest later s size held e))

    all_same : (k : ℕ) (said : List O) (rest : List ℕ) (s : S) → all (walk_chunk_from step k ready said rest s) ≡ all (stop ready said rest s)
    unfolding walk_chunk_from
    all_same zero said rest s = refl
    all_same (suc k) said rest s = all_by k (all_same k) said rest s (entry_of rest) refl (ready said)

  more_to_come : (ready : List O → Bool) (chunk later : List ℕ) (s : S) → walk step (chunk ++ later) s ≡ all ready later (walk_chunk step ready chunk s)
  unfolding walk_chunk
  more_to_come ready chunk later s = sym (all_same ready later (length chunk) [] chunk s)

  -- ---- the end of a capture

  -- where a record is whole, some bytes are used
  used_some : (ready : List O → Bool) (left : List ℕ) (s : S) (size : ℕ) (held : Held) → entry_of left ≡ whole size held → ready [] ≡ true → (k : ℕ) → length left ≡ k
      → length (walk_chunk_from step k ready [] left s).rest ≡ length left → ⊥
  unfolding walk_chunk_from
  used_some ready left s size held e b zero l z = let p = sized left size held e in omega arith
  used_some ready left s size held e b (suc k) l z =
      let p = sized left size held e in
      let a = step s (take size left) held in
      let f = part_end ready (drop size left) k (a.0 ∷ []) (drop size left) a.1 (0, zero-le, refl) in
      let d = length-drop size left in
      let g = end_used (drop size left) (walk_chunk_from step k ready (a.0 ∷ []) (drop size left) a.1).rest f in
      let w : length (walk_chunk_from step k ready (a.0 ∷ []) (drop size left) a.1).rest ≡ length left = rw (b, e) at z in
      omega arith

  nothing_used : (ready : List O → Bool) (left : List ℕ) (s : S) → ready [] ≡ true → length (walk_chunk step ready left s).rest ≡ length left → walk_chunk step ready left s ≡ stop ready [] left s
  unfolding walk_chunk walk_chunk_from
  nothing_used ready left s b z = by_front (entry_of left) refl
    where
      stopped : (k : ℕ) (f : Front) → entry_of left ≡ f → ((size : ℕ) (held : Held) → f ≡ whole size held → ⊥) → walk_chunk_from step k ready [] left s ≡ stop ready [] left s
      stopped zero f e h = refl
      stopped (suc k) end e h = rw (b, e)
      stopped (suc k) cut e h = rw (b, e)
      stopped (suc k) (whole size held) e h = absurd (h size held refl)

      by_front : (f : Front) → entry_of left ≡ f → walk_chunk_from step (length left) ready [] left s ≡ stop ready [] left s
      by_front f e = stopped (length left) f e (λ size held q. used_some ready left s size held (e ∙ q) b (length left) refl z)

  at_the_end : (ready : List O → Bool) (left : List ℕ) (s : S) → ready [] ≡ true → length (walk_chunk step ready left s).rest ≡ length left → walk step left s ≡ walk_end step left s
  unfolding walk walk_from walk_chunk
  at_the_end ready left s b z = by_front (entry_of left) refl
    where
      cut_walked : entry_of left ≡ cut → (k : ℕ) → (k ≡ 0 → ⊥) → walk_from step k left s ≡ ((step s left (damaged 41)).0 ∷ [], (step s left (damaged 41)).1)
      cut_walked e zero h = absurd (h refl)
      cut_walked e (suc k) h = rw e

      by_front : (f : Front) → entry_of left ≡ f → walk_from step (length left) left s ≡ walk_end step left s
      by_front end e = let n = end_empty left e in rw (eq-eqb (length left) 0 n, n)
      by_front cut e = let n = cut_some left e in rw (ne_eqb (length left) 0 n) (cut_walked e (length left) n)
      by_front (whole size held) e = absurd (used_some ready left s size held e b (length left) refl z)

  -- ---- a whole capture

  all_chunks : (cs : List (Chunk O)) (p : ChunkWalk O S) → behind p.said (walk step (p.rest ++ joined cs) p.state)
      ≡ behind (with_chunks step p cs).said (walk step (with_chunks step p cs).rest (with_chunks step p cs).state)
  unfolding joined with_chunk with_chunks
  all_chunks [] p = rw (append-nil p.rest)
  all_chunks (c ∷ cs) p =
      let ready = c.ready p.said in
      let q = walk_chunk step ready (p.rest ++ c.bytes) p.state in
      let w = walk step (q.rest ++ joined cs) q.state in
      ap (λ (x : List ℕ). behind p.said (walk step x p.state)) (sym (append_assoc p.rest c.bytes (joined cs)))
      ∙ ap (behind p.said) (more_to_come ready (p.rest ++ c.bytes) (joined cs) p.state)
      ∙ (λ i. (sym (append_assoc p.said q.said w.0) i, w.1))
      ∙ all_chunks cs (with_chunk step p c)

  left_over : (ready : List O → Bool) (chunk : List ℕ) (s : S)
      → (length (walk_chunk step ready chunk s).rest ≤ length chunk) × (drop (length chunk - length (walk_chunk step ready chunk s).rest) chunk ≡ (walk_chunk step ready chunk s).rest)
  unfolding walk_chunk
  left_over ready chunk s = end_used chunk _ (part_end ready chunk (length chunk) [] chunk s (0, zero-le, refl))

  pub in_chunks : InChunks step
  in_chunks =
      record {
        whole_capture = λ cs s ready b z.
            let p = with_chunks step (unread s) cs in
            all_chunks cs (unread s) ∙ ap (behind p.said) (at_the_end ready p.rest p.state b z);
        more_to_come = more_to_come;
        left_within = λ ready chunk s. (left_over ready chunk s).0;
        left_over = λ ready chunk s. (left_over ready chunk s).1;
        nothing_used = nothing_used;
        at_the_end = at_the_end;
        every_record = every_record;
        every_whole_record = every_whole_record;
      }
