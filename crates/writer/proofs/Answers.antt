-- What the checks' number says of a write's answer and of the output. Assumes nothing.
use Prim.Native.Nat.{ℕ}
use mathlib.Core.Path.{◌≡◌, refl}
use mathlib.Core.List.{List, ◌++◌}
use lib.ListN.{length, drop}
use Rattle.std.specs.Prelude.{Ok, Err}
use Rattle.refusal.specs.declared.Refusal.{Refusal}
use Rattle.refusal.specs.Refusals.{number_of}
use Rattle.refusal.proofs.First.{positive}
use Rattle.writer.specs.declared.Sender.{Sender}
use Rattle.writer.specs.declared.given.Given.{Given}
use Rattle.writer.specs.Frames.{frame_length, frame_bytes}
use Rattle.writer.specs.Writing.{write_refusal, advanced, write_answer, writing, output}

module _ (s : Sender) (g : Given) (payload out : List ℕ) where
  -- the answer and the output of a write that is refused, and of one that is not
  pub refuses : (r : Refusal) → number_of r ≡ write_refusal g (length payload) (length out) → (write_answer (Err r) s ≡ writing s g payload (length out)) × (out ≡ output s g payload out)
  unfolding writing output
  refuses r e = let p = positive r in rw (← e, p.1) (refl, refl)

  pub sends : {t : Sender} {exit : List ℕ} → write_refusal g (length payload) (length out) ≡ 0 → t ≡ advanced s g payload → exit ≡ frame_bytes s g payload ++ drop (frame_length g.stream.tag (length payload)) out
      → (write_answer (Ok tt) t ≡ writing s g payload (length out)) × (exit ≡ output s g payload out)
  unfolding writing output
  sends e f h = rw (e, f, h) (refl, refl)
