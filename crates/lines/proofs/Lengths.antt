-- How long the lines are at most. Assumes nothing.
use Rattle.std.proofs.Common.{ℕ, ◌^◌, ◌<◌, ◌≤◌, Bool, true, false, List, length, arith, length-append}
use Rattle.presentation.specs.declared.Kind.{Kind}
use Rattle.presentation.specs.declared.Kind.TheVariants.{None, Cut, Outside, Late, Ahead, Unclear, Far}
use Rattle.presentation.specs.declared.Timing.{Timing}
use Rattle.frame.specs.Layout.{has_cip}
use Rattle.stream.specs.declared.Flags.{Flags}
use Rattle.text.specs.Text.{ascii, signed}
use Rattle.text.proofs.Decimals.{decimal_length}
use Rattle.lines.specs.Lines.{end_line, ending, next_number, admitted, refused, frame, flag_word, block_word, flags_text, kind_word, timing_text, line_text}
use Rattle.lines.specs.Placing.{line_room}

flag_length : (raised : Bool) (word : List ℕ) → 2 ≤ length word → length (flag_word raised word) ≤ length word
flag_length true word h = omega arith
flag_length false word h = h

block_length : (has raised : Bool) → length (block_word has raised) ≤ 5
block_length true raised = flag_length raised (ascii "break") (omega arith)
block_length false raised = omega arith

flags_length : (tag : ℕ) (f : Flags) → length (flags_text tag f) ≤ 47
unfolding flags_text
flags_length tag f =
    let a = flag_length f.sequence (ascii "break") (omega arith) in
    let b = block_length (has_cip tag) f.block in
    let c = flag_length f.format (ascii "change") (omega arith) in
    let d = flag_length f.mr (ascii "change") (omega arith) in
    simp length-append (omega arith)

kind_length : (k : Kind) → length (kind_word k) ≤ 7
kind_length None = omega arith
kind_length Cut = omega arith
kind_length Outside = omega arith
kind_length Late = omega arith
kind_length Ahead = omega arith
kind_length Unclear = omega arith
kind_length Far = omega arith

pub timing_length : (t : Timing) → length (signed t.offset) ≤ 21 → length (timing_text t) ≤ 43
unfolding timing_text
timing_length t h = let k = kind_length t.kind in simp length-append (omega arith)

-- the line of record number n, which has 64 bits
module _ (n : ℕ) (wide : n < 2 ^ 64) where
  pub admitted_length : length (line_text n admitted) ≤ 30
  unfolding line_text
  admitted_length = let l = decimal_length n wide in simp length-append (omega arith)

  pub frame_length_lem : (tag : ℕ) (f : Flags) (t : Timing) → length (timing_text t) ≤ 43 → length (line_text n (frame tag f t)) ≤ 110
  unfolding line_text
  frame_length_lem tag f t h =
      let l = decimal_length n wide in
      let g = flags_length tag f in
      simp length-append (omega arith)

  pub refused_length : (number : ℕ) → number < 2 ^ 64 → length (line_text n (refused number)) ≤ 50
  unfolding line_text
  refused_length number h =
      let l = decimal_length n wide in
      let m = decimal_length number h in
      simp length-append (omega arith)

  end_length : length (end_line n) ≤ 33
  unfolding end_line
  end_length = let l = decimal_length n wide in simp length-append (omega arith)

pub ending_length : (cut : Bool) (n : ℕ) → n < 2 ^ 64 → length (ending cut n) ≤ line_room
unfolding ending
ending_length true n h =
    let next : next_number n < 2 ^ 64 = omega arith in
    let l = refused_length (next_number n) next 41 (omega arith) in
    let m = end_length (next_number n) next in
    simp length-append (omega arith)
ending_length false n h = omega (arith, end_length n h)
