-- What the crates above need of a step. Assumes nothing.
use Prim.Native.Nat.{ℕ, ◌+◌, ◌%◌}
use mathlib.Core.Path.{◌≡◌, refl, sym, ap, ◌∙◌}
use mathlib.Core.Bool.{Bool, true, false, not, ◌&&◌, ◌||◌, cond, false≢true}
use mathlib.Core.List.{List}
use borrow.Author.Tests.{eq-eqb}
use Rattle.refusal.specs.Refusals.{differs}
use Rattle.frame.specs.Layout.{fields_of, cip_in}
use Rattle.frame.specs.Reading.{payload_of, blocks_of}
use Rattle.tally.specs.Tally.{counted}
use Rattle.stream.specs.declared.Record.{Record}
use Rattle.stream.specs.Records.{no_counts, admitted_within, block_flag, flags_of, kept_dbc, dbc_expected, bump, counts_after, record_after}
use Rattle.stream.specs.Step.{stepped}
use Rattle.stream.specs.Answers.{step_of, answer_of, after}

-- a step keeps the record in use, and its id
pub after_in_use : (r : Record) (frame : List ℕ) (L : ℕ) → (after r frame L).in_use ≡ r.in_use
unfolding after step_of stepped record_after
after_in_use r frame L = refl

pub after_id : (r : Record) (frame : List ℕ) (L : ℕ) → (after r frame L).id ≡ r.id
unfolding after step_of stepped record_after
after_id r frame L = refl

-- and its limit, which admission gives
pub admitted_limit : (k limit : ℕ) → (admitted_within k limit).limit ≡ limit
unfolding admitted_within
admitted_limit k limit = refl

pub after_limit : (r : Record) (frame : List ℕ) (L : ℕ) → (after r frame L).limit ≡ r.limit
unfolding after step_of stepped record_after
after_limit r frame L = refl

-- a newly admitted stream has counted nothing
pub admitted_counts : (k limit : ℕ) → (admitted_within k limit).counts ≡ no_counts
unfolding admitted_within
admitted_counts k limit = refl

-- each count goes up with its flag
module _ (r : Record) (frame : List ℕ) (L : ℕ) where
  pub after_frames : (after r frame L).counts.frames ≡ bump true r.counts.frames
  unfolding after step_of stepped record_after counts_after
  after_frames = refl

  pub after_sequence_breaks : (after r frame L).counts.sequence_breaks ≡ bump (answer_of r frame L).flags.sequence r.counts.sequence_breaks
  unfolding after answer_of step_of stepped record_after counts_after
  after_sequence_breaks = refl

  pub after_block_breaks : (after r frame L).counts.block_breaks ≡ bump (answer_of r frame L).flags.block r.counts.block_breaks
  unfolding after answer_of step_of stepped record_after counts_after
  after_block_breaks = refl

  pub after_format_changes : (after r frame L).counts.format_changes ≡ bump (answer_of r frame L).flags.format r.counts.format_changes
  unfolding after answer_of step_of stepped record_after counts_after
  after_format_changes = refl

  pub after_mr_changes : (after r frame L).counts.mr_changes ≡ bump (answer_of r frame L).flags.mr r.counts.mr_changes
  unfolding after answer_of step_of stepped record_after counts_after
  after_mr_changes = refl

-- the tally counts what the frame's presentation time is answered to be
pub after_tally : (r : Record) (frame : List ℕ) (L : ℕ) → (after r frame L).tally ≡ counted (answer_of r frame L).timing r.tally
unfolding after answer_of step_of stepped record_after
after_tally r frame L = refl

-- what a record expects of the next frame: this sequence number where a frame has been seen, and this block count where one is expected
pub record Expects (r : Record) (number count : ℕ) : Type 0 where
  pub sequence : r.seen ≡ true → (r.sequence + 1) % 256 ≡ number
  pub dbc : r.dbc_expected ≡ true → r.next_dbc ≡ count

pub expects_any : (k limit sequence dbc : ℕ) → Expects (admitted_within k limit) sequence dbc
unfolding admitted_within
expects_any k limit sequence dbc = record { sequence = λ e. absurd (false≢true e); dbc = λ e. absurd (false≢true e) }

-- where a flag may be raised, the numbers that it compares are the same
no_sequence : (seen : Bool) (a b : ℕ) → (seen ≡ true → b ≡ a) → seen && differs a b ≡ false
no_sequence true a b e = ap not (eq-eqb a b (sym (e refl)))
no_sequence false a b e = refl

no_block : (seen has expected : Bool) (a b n : ℕ) → (has ≡ true → a ≡ n) → (expected ≡ true → b ≡ n) → seen && (has && expected && differs a b) ≡ false
no_block false has expected a b n f e = refl
no_block true false expected a b n f e = refl
no_block true true false a b n f e = refl
no_block true true true a b n f e = ap not (eq-eqb a b (f refl ∙ sym (e refl)))

-- the count that is kept is the one that is expected next
next_block : (has seen expected : Bool) (a b n : ℕ) → (expected ≡ true → b ≡ n) → has || (seen && expected) ≡ true → cond has a b ≡ cond has a n
next_block true seen expected a b n e h = refl
next_block false true expected a b n e h = e h
next_block false false expected a b n e h = absurd (false≢true h)

-- a frame that carries the numbers that are expected
module _ (r : Record) (frame : List ℕ) (L : ℕ) (sequence dbc : ℕ) (expects : Expects r sequence dbc)
    (same : (fields_of frame).header.avtp.sequence ≡ sequence) (carried : cip_in (fields_of frame) ≡ true → (fields_of frame).cip.dbc ≡ dbc) where
  -- breaks neither sequence nor block count
  pub no_breaks : ((answer_of r frame L).flags.sequence ≡ false) × ((answer_of r frame L).flags.block ≡ false)
  unfolding answer_of step_of stepped flags_of block_flag
  no_breaks = (
    no_sequence r.seen (fields_of frame).header.avtp.sequence ((r.sequence + 1) % 256) (λ e. expects.sequence e ∙ sym same),
    no_block r.seen (cip_in (fields_of frame)) r.dbc_expected (fields_of frame).cip.dbc r.next_dbc dbc carried expects.dbc,
  )

  -- and after it the next frame is expected to follow
  pub expects_next : Expects (after r frame L) (((fields_of frame).header.avtp.sequence + 1) % 256)
      (cond (cip_in (fields_of frame)) (((fields_of frame).cip.dbc + blocks_of (payload_of frame) (fields_of frame).cip.dbs) % 256) dbc)
  unfolding after step_of stepped record_after kept_dbc dbc_expected
  expects_next =
      record {
        sequence = λ e. refl;
        dbc = next_block (cip_in (fields_of frame)) r.seen r.dbc_expected
            (((fields_of frame).cip.dbc + blocks_of (payload_of frame) (fields_of frame).cip.dbs) % 256) r.next_dbc dbc expects.dbc;
      }
