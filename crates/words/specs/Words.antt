-- Texts compared, byte for byte.
use Rattle.std.specs.Prelude.{ℕ, Bool, true, false, cond, List, [], ◌∷◌, eqb, length}

-- do the bytes start with this text?
unfoldable pub starts_with : List ℕ → List ℕ → Bool
starts_with [] bytes = true
starts_with (a ∷ text) [] = false
starts_with (a ∷ text) (b ∷ bytes) = cond (eqb b a) (starts_with text bytes) false

-- are they this text, and no more?
unfoldable pub same : List ℕ → List ℕ → Bool
same text bytes = cond (eqb (length bytes) (length text)) (starts_with text bytes) false
