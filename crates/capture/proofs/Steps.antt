-- Going through a capture is a step for each of its records. Assumes nothing.
use Prim.Native.Nat.{ℕ, zero, suc}
use mathlib.Core.Path.{◌≡◌, refl, ap}
use mathlib.Core.List.{List, [], ◌∷◌}
use lib.ListN.{length, take, drop}
use Rattle.capture.specs.Records.{Held, Front, end, cut, whole, entry_of}
use Rattle.capture.specs.Walk.{walk_by, walk_from, walk, CaptureRecord, records_in, steps}

abbrev pub record_step : Unit {0} → List ℕ → Held → CaptureRecord × Unit {0}
record_step s bytes held = (record { bytes = bytes; held = held }, s)

module _ {O S : Type 0} (step : S → List ℕ → Held → O × S) where
  steps_from : (k : ℕ) (rest : List ℕ) (s : S) → walk_from step k rest s ≡ steps step s (walk_from record_step k rest tt).0
  unfolding walk_from steps
  steps_from zero rest s = refl
  steps_from (suc k) rest s = by_front (steps_from k) (entry_of rest)
    where
      by_front : ((rest : List ℕ) (s : S) → walk_from step k rest s ≡ steps step s (walk_from record_step k rest tt).0)
          → (f : Front) → walk_by step (walk_from step k) rest s f ≡ steps step s (walk_by record_step (walk_from record_step k) rest tt f).0
      by_front onward end = refl
      by_front onward cut = refl
      by_front onward (whole size held) =
          let a = step s (take size rest) held in
          ap (λ (b : List O × S). (a.0 ∷ b.0, b.1)) (onward (drop size rest) a.1)

  pub walk_steps : (capture : List ℕ) (s : S) → walk step capture s ≡ steps step s (records_in capture)
  unfolding walk records_in
  walk_steps capture s = steps_from (length capture) capture s

  -- what is said of the later records, and the state at the end: from the state that the first n leave
  pub steps_later : (n : ℕ) (rs : List CaptureRecord) (s : S) → (let w = steps step s rs in (drop n w.0, w.1)) ≡ steps step (steps step s (take n rs)).1 (drop n rs)
  unfolding steps
  steps_later zero rs s = refl
  steps_later (suc n) [] s = refl
  steps_later (suc n) (r ∷ rs) s = steps_later n rs (step s r.bytes r.held).1
