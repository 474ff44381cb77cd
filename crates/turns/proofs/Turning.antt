-- What a turn leaves of the bytes that were not listed yet. Assumes nothing.
use Prim.Native.Nat.{ℕ, zero, suc, ◌+◌, ◌-◌, ◌≤◌}
use mathlib.Core.Path.{◌≡◌, refl, sym, ap, ◌∙◌, subst}
use mathlib.Core.Bool.{Bool, true, false}
use mathlib.Core.List.{List, [], ◌∷◌}
use native.Mathlib.Omega.{arith}
use lib.Dec.{T}
use lib.ListN.{length, take, drop, length-drop, length-take}
use lib.Seq.{take-nil, take-length, take_all, take-take, drop-drop, length-take-le}
use Rattle.table.specs.Table.{Table}
use Rattle.input.specs.declared.Filled.{Filled}
use Rattle.input.specs.declared.Source.{Source}
use Rattle.input.specs.declared.Source.TheVariants.{Open, Ended, Failed}
use Rattle.input.specs.Input.{is_open, has_ended, between, ReadBehind}
use Rattle.listing.specs.declared.chunk.Progress.{Progress}
use Rattle.listing.specs.Listing.{lines_after}
use Rattle.listing.specs.Chunks.{chunked, ChunkListed}
use Rattle.listing.proofs.InChunks.{in_chunks}
use Rattle.listing.proofs.Lines.{nothing_shown}
use Rattle.turns.specs.declared.Stage.{Stage}
use Rattle.turns.specs.declared.State.{State}
use Rattle.turns.specs.Turns.{stage_by, is_read, is_unwritten, InPlace, Turned}

drop_take : (m n : ℕ) (l : List ℕ) → drop m (take n l) ≡ take (n - m) (drop m l)
drop_take zero n l = let e : n ≡ n - 0 = omega arith in ap (λ (k : ℕ). take k l) e
drop_take (suc m) zero l = let e : 0 ≡ 0 - suc m = omega arith in ap (λ (k : ℕ). take k (drop (suc m) l)) e
drop_take (suc m) (suc n) [] = sym (take-nil (suc n - suc m))
drop_take (suc m) (suc n) (x ∷ l) = let e : n - m ≡ suc n - suc m = omega arith in drop_take m n l ∙ ap (λ (k : ℕ). take k (drop m l)) e

-- what is left of a chunk is its end
left_over : (shown : Bool) (chunk : List ℕ) (t : Table) (n room : ℕ) → drop (length chunk - length (chunked shown chunk t n room).rest) chunk ≡ (chunked shown chunk t n room).rest
unfolding chunked
left_over shown chunk t n room = in_chunks.walked.left_over _ chunk t

-- bytes that are used, and those behind them
behind_used : (input : List ℕ) (from have used : ℕ) → drop used (between from have input) ≡ between (from + used) have input
behind_used input from have used =
    let n : have - from - used ≡ have - (from + used) = omega arith in
    drop_take used (have - from) (drop from input) ∙ ap (take (have - from - used)) (drop-drop used from input) ∙ ap (λ (k : ℕ). take k (drop (from + used) input)) n

-- at least what was there is there
grown : {left input input' : List ℕ} {r : Filled} → ReadBehind left input input' r → length left ≤ r.end
grown {left} {r = r} p = go (is_open r.source) refl
  where
    go : (s : Bool) → is_open r.source ≡ s → length left ≤ r.end
    go true e = omega (arith, p.more e)
    go false e = omega (arith, p.shut e)

-- reading fails no line
read_only : (source : Source) → is_unwritten (stage_by source) ≡ false
read_only Open = refl
read_only Ended = refl
read_only Failed = refl

-- where all has been read nothing more comes
shut_at_end : (source : Source) → is_read (stage_by source) ≡ true → is_open source ≡ false
shut_at_end Open e = sym e
shut_at_end Ended e = refl
shut_at_end Failed e = refl

ended_at_end : (source : Source) → is_read (stage_by source) ≡ true → has_ended source ≡ true
ended_at_end Open e = e
ended_at_end Ended e = refl
ended_at_end Failed e = e

pub many : (input : List ℕ) (s : State) → InPlace input s → length (between s.from s.have input) ≡ s.have - s.from
many input s h = length-take-le (s.have - s.from) (drop s.from input) (rw (length-drop s.from input) (omega (arith, h)))

module _ (shown : Bool) (input d : List ℕ) (s : State) where
  -- the bytes that are not listed yet, and those that are left of them
  abbrev chunk : List ℕ
  chunk = between s.from s.have input

  abbrev rest : List ℕ
  rest = (chunked shown chunk s.table s.records (length d)).rest

  module _ {d' : List ℕ} {p : Progress} {t' : Table} (h : InPlace input s) (l : ChunkListed shown chunk s.table s.records d p t' d') where
    left : drop p.at chunk ≡ rest
    left = ap (λ (n : ℕ). drop n chunk) l.at ∙ left_over shown chunk s.table s.records (length d)

    -- where no line is shown none is put
    pub none_put : shown ≡ false → p.put ≡ 0
    none_put off = l.put ∙ ap (λ (b : Bool). length (lines_after b s.records (chunked shown chunk s.table s.records (length d)).said)) off ∙ ap length (nothing_shown _ _)

    -- nothing was read
    pub went_on : (stage : Stage) → is_read stage ≡ false → (shown ≡ false → is_unwritten stage ≡ false)
        → Turned shown input d s (record { table = t'; records = p.records; from = s.from + p.at; have = s.have; stage = stage }) input d'
    went_on stage going written =
        record {
          table = l.table;
          records = l.records;
          lines = l.out;
          written = written;
          left = ap (take (length rest)) (sym (behind_used input s.from s.have p.at) ∙ left) ∙ take-length rest;
          unread = λ _. sym (behind_used input s.from s.have p.at) ∙ left;
          size = refl;
          places = (omega (arith, h, l.at_within, many input s h), h.1);
          ended = λ e. absurd (subst T (sym e ∙ going) tt);
        }

    -- none was used, and more may have been read
    pub read_on : {input' : List ℕ} {f : Filled} {stage : Stage} → p.at ≡ 0 → ReadBehind chunk input input' f → stage ≡ stage_by f.source
        → Turned shown input d s (record { table = t'; records = p.records; from = 0; have = f.end; stage = stage }) input' d'
    read_on {input'} {f} {stage} none r by =
        let same : chunk ≡ rest = ap (λ (n : ℕ). drop n chunk) (sym none) ∙ left in
        let front : take (length chunk) (between 0 f.end input') ≡ chunk = take-take (length chunk) (f.end - 0) input' (omega (arith, grown r)) ∙ r.kept in
        record {
          table = l.table;
          records = l.records;
          lines = l.out;
          written = λ _. ap is_unwritten by ∙ read_only f.source;
          left = ap (λ (x : List ℕ). take (length x) (between 0 f.end input')) (sym same) ∙ front ∙ same;
          unread = λ less. absurd (omega (arith, less, ap length same, many input s h));
          size = r.size;
          places = (omega arith, omega (arith, r.within, r.size));
          ended = λ e.
              let none_came : f.end ≡ length chunk = r.shut (shut_at_end f.source (sym (ap is_read by) ∙ e)) in
              let all : between 0 f.end input' ≡ take (length chunk) (between 0 f.end input') =
              sym (take_all (length chunk) (between 0 f.end input') (omega (arith, none_came, length-take (f.end - 0) input'))) in
              let room = r.ended (ended_at_end f.source (sym (ap is_read by) ∙ e)) in
              (ap length (sym same) ∙ many input s h, all ∙ front ∙ same, rw (sym same) room);
        }
