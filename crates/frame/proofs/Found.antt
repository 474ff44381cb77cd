-- A number read from within a frame's first n bytes, of which the frame has at least n, is the number that stands there. Assumes nothing.
use Prim.Native.Nat.{ℕ, ◌+◌, ◌≤◌}
use mathlib.Core.Path.{◌≡◌, ◌∙◌}
use mathlib.Core.List.{List}
use native.Mathlib.Nat.{le_trans}
use lib.ListN.{length}
use Rattle.wire.specs.Numbers.{number, number_at, number_or_0}
use Rattle.wire.proofs.Numbers.{there}

pub found : (frame : List ℕ) {n : ℕ} → n ≤ length frame → (at k : ℕ) → at + k ≤ n → {r : ℕ} → r ≡ number_or_0 at k frame → r ≡ number_at at k frame
found frame h at k within e = e ∙ there number at k frame (le_trans within h)
