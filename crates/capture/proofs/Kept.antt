-- What holds of a state and of all that has been said, and still does after each record, holds at the end of a capture. Assumes nothing.
use Prim.Native.Nat.{ℕ, zero, suc}
use mathlib.Core.Path.{sym, subst}
use mathlib.Core.List.{List, [], ◌∷◌, ◌++◌, append_assoc, append-nil}
use lib.ListN.{length, take, drop}
use Rattle.capture.specs.Records.{Held, damaged, Front, end, cut, whole, entry_of}
use Rattle.capture.specs.Walk.{walk_by, walk_from, walk}

module _ {O S : Type 0} (step : S → List ℕ → Held → O × S) (P : List O → S → Type 0)
    (goes_on : (said : List O) (s : S) (bytes : List ℕ) (held : Held) → P said s → P (said ++ ((step s bytes held).0 ∷ [])) (step s bytes held).1) where
  abbrev Behind : List O → List O × S → Type 0
  Behind said w = P (said ++ w.0) w.1

  -- what stands at the front, where the rest goes on so
  by_front : (k : ℕ) → ((said : List O) (rest : List ℕ) (s : S) → P said s → Behind said (walk_from step k rest s))
      → (said : List O) (rest : List ℕ) (s : S) → P said s → (f : Front) → Behind said (walk_by step (walk_from step k) rest s f)
  by_front k onward said rest s h end = subst (λ (l : List O). P l s) (sym (append-nil said)) h
  by_front k onward said rest s h cut = goes_on said s rest (damaged 41) h
  by_front k onward said rest s h (whole size held) =
      let a = step s (take size rest) held in
      let b = walk_from step k (drop size rest) a.1 in
      subst (λ (l : List O). P l b.1) (append_assoc said (a.0 ∷ []) b.0)
      (onward (said ++ (a.0 ∷ [])) (drop size rest) a.1 (goes_on said s (take size rest) held h))

  kept_from : (k : ℕ) (said : List O) (rest : List ℕ) (s : S) → P said s → Behind said (walk_from step k rest s)
  unfolding walk_from
  kept_from zero said rest s h = subst (λ (l : List O). P l s) (sym (append-nil said)) h
  kept_from (suc k) said rest s h = by_front k (kept_from k) said rest s h (entry_of rest)

  pub kept : (capture : List ℕ) (s : S) → P [] s → P (walk step capture s).0 (walk step capture s).1
  unfolding walk
  kept capture s h = kept_from (length capture) [] capture s h
