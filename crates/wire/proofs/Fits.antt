-- The test that each value of a row is within its field, and the fact. Assumes nothing.
use Prim.Native.Nat.{ℕ, ◌^◌}
use mathlib.Core.Path.{◌≡◌, refl}
use mathlib.Core.Bool.{true, ◌&&◌}
use mathlib.Core.List.{List, [], ◌∷◌}
use borrow.Author.Tests.{lt-ltb}
use lib.Dec.{T, ltb, ltb→lt}
use mir.Facts.{and_yes}
use Rattle.wire.specs.Bits.{Fit, fits}

pub fit : (ws vs : List ℕ) → T (fits ws vs) → Fit ws vs
fit [] [] t = tt
fit [] (v ∷ vs) t = absurd t
fit (w ∷ ws) [] t = absurd t
fit (w ∷ ws) (v ∷ vs) t = let p = and_yes (ltb v (2 ^ w)) (fits ws vs) t in (ltb→lt v (2 ^ w) p.0, fit ws vs p.1)

pub fit_true : (ws vs : List ℕ) → Fit ws vs → fits ws vs ≡ true
fit_true [] [] h = refl
fit_true [] (v ∷ vs) h = absurd h
fit_true (w ∷ ws) [] h = absurd h
fit_true (w ∷ ws) (v ∷ vs) h = λ i. lt-ltb v (2 ^ w) h.0 i && fit_true ws vs h.1 i
