-- What std's tests of two texts give. Assumes nothing.
use Rattle.std.proofs.Common.{ℕ, ◌≡◌, List, [], ◌∷◌, length, take, refl, arith, nat_eq}
use Rattle.std.specs.Cmp.Lexicographic.{pointwise}
use Rattle.std.proofs.lemmas.Grind.{common_steps}
use Rattle.words.specs.Words.{starts_with, same}

pub starts : (text bytes : List ℕ) → pointwise nat_eq text (take (length text) bytes) ≡ starts_with text bytes
unfolding starts_with
starts [] bytes = refl
starts (a ∷ text) [] = refl
starts (a ∷ text) (b ∷ bytes) = grind (arith, common_steps, starts text bytes)

pub is_same : (word text : List ℕ) → pointwise nat_eq word text ≡ same text word
unfolding starts_with same
is_same [] [] = refl
is_same [] (a ∷ text) = grind (arith, common_steps)
is_same (b ∷ word) [] = grind (arith, common_steps)
is_same (b ∷ word) (a ∷ text) = grind (arith, common_steps, is_same word text)
