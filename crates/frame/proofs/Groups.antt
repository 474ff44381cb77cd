-- The groups of a frame's checks, one after another, and what holds where none applies. Assumes nothing.
use Prim.Native.Nat.{ℕ, zero, suc, ◌+◌, ◌-◌, ◌≤◌, ◌<◌}
use mathlib.Core.Path.{◌≡◌, refl, sym, ◌∙◌}
use mathlib.Core.Bool.{Bool, true, false}
use mathlib.Core.List.{List, ◌++◌}
use native.Mathlib.Omega.{arith}
use borrow.Author.Tests.{ltb-false}
use lib.Dec.{T}
use Rattle.frame.specs.declared.layout.Stream.{Stream}
use Rattle.frame.specs.declared.layout.Cip.{Cip}
use Rattle.frame.specs.declared.layout.Header.{Header}
use Rattle.frame.specs.declared.layout.Fields.{Fields}
use Rattle.frame.specs.Layout.{cip_length, fields_of, cip_in}
use Rattle.refusal.specs.Refusals.{first_of}
use Rattle.frame.specs.Checks.{quadlets, block_bytes, length_checks, ethernet_checks, avtp_checks, address_checks, stream_checks, block_checks, cip_checks, header_checks, asked_if, read_checks, frame_checks}
use Rattle.refusal.proofs.First.{numbered, clear, or_else, then, both}

pub header_then : (n : ℕ) (h : Header) → first_of (header_checks n h) ≡
    or_else (first_of (ethernet_checks h.ethernet)) (or_else (first_of (avtp_checks h.avtp)) (or_else (first_of (address_checks h.ethernet)) (first_of (stream_checks n h.stream))))
unfolding header_checks ethernet_checks avtp_checks address_checks
header_then n h = then (ethernet_checks h.ethernet) _ tt ∙ rw (then (avtp_checks h.avtp) (address_checks h.ethernet ++ stream_checks n h.stream) tt, then (address_checks h.ethernet) (stream_checks n h.stream) tt) refl

pub read_then : (n : ℕ) (f : Fields) → first_of (read_checks n f) ≡
    or_else (first_of (length_checks n)) (or_else (first_of (header_checks n f.header)) (first_of (asked_if (cip_in f) (cip_checks f.header.stream f.cip))))
unfolding read_checks length_checks header_checks ethernet_checks avtp_checks address_checks stream_checks
read_then n f = then (length_checks n) _ tt ∙ rw (then (header_checks n f.header) (asked_if (cip_in f) (cip_checks f.header.stream f.cip)) tt) refl

-- no check of a frame answers 0
cip_numbered : (has : Bool) (s : Stream) (c : Cip) → T (numbered (asked_if has (cip_checks s c)))
unfolding cip_checks block_checks
cip_numbered true s c = tt
cip_numbered false s c = tt

pub frame_numbered : (frame : List ℕ) → T (numbered (frame_checks frame))
unfolding frame_checks read_checks length_checks header_checks ethernet_checks avtp_checks address_checks stream_checks
frame_numbered frame = let f = fields_of frame in cip_numbered (cip_in f) f.header.stream f.cip

pub long_enough : (n : ℕ) → first_of (length_checks n) ≡ 0 → 42 ≤ n
unfolding length_checks
long_enough n e = ltb-false n 42 (clear (length_checks n) tt e).0

stream_room : (n : ℕ) (s : Stream) → 42 ≤ n → first_of (stream_checks n s) ≡ 0 → s.data_length + 42 ≤ n
unfolding stream_checks
stream_room n s h e =
    let f = clear (stream_checks n s) tt e in
    let p : s.data_length ≤ n - 42 = ltb-false _ _ f.0 in
    omega arith

-- the CIP header, where there is one, is within the data
cip_room : (has : Bool) (s : Stream) (c : Cip) → first_of (asked_if has (cip_checks s c)) ≡ 0 → cip_length has ≤ s.data_length
unfolding cip_checks block_checks
cip_room true s c e = ltb-false _ _ (clear (cip_checks s c) tt e).0
cip_room false s c e = omega arith

-- past the checks of the header its data fits the frame
pub header_room : (n : ℕ) (h : Header) → 42 ≤ n → first_of (header_checks n h) ≡ 0 → h.stream.data_length + 42 ≤ n
header_room n h l e =
    let p = both _ _ (sym (header_then n h) ∙ e) in
    let q = both _ _ p.1 in
    stream_room n h.stream l (both _ _ q.1).1

-- and so does the data of an accepted frame
pub accepted_room : (n : ℕ) (f : Fields) → first_of (read_checks n f) ≡ 0 → (cip_length (cip_in f) ≤ f.header.stream.data_length) × (f.header.stream.data_length + 42 ≤ n)
accepted_room n f e =
    let p = both _ _ (sym (read_then n f) ∙ e) in
    let q = both _ _ p.1 in (
      cip_room (cip_in f) f.header.stream f.cip q.1,
      header_room n f.header (long_enough n p.0) q.0,
    )

-- ---- blocks

pub quadlets_some : (dbs : ℕ) → (dbs ≡ 0 → ⊥) → dbs ≡ quadlets dbs
quadlets_some zero h = absurd (h refl)
quadlets_some (suc n) h = refl

pub block_some : (dbs : ℕ) → 0 < block_bytes dbs
unfolding block_bytes
block_some zero = omega arith
block_some (suc n) = omega arith
