-- A name as a message shows it, byte by byte. Assumes nothing.
use Prim.Native.Nat.{ℕ, ◌+◌, ◌≤◌, ◌<◌}
use mathlib.Core.Path.{◌≡◌, sym, ap, ◌∙◌}
use mathlib.Core.List.{List, [], ◌∷◌, ◌++◌, append-nil, append_assoc}
use native.Mathlib.Numerals.{add-one}
use lib.ListN.{length, take, get_or}
use lib.Seq.{take-suc, take_all}
use Rattle.text.specs.InTurn.{PutInTurn}
use Rattle.text.proofs.Puts.{more}
use Rattle.messages.specs.Messages.{shown_byte, shown}

shown_end : (name : List ℕ) (b : ℕ) → shown (name ++ (b ∷ [])) ≡ shown name ++ shown_byte b
unfolding shown
shown_end [] b = append-nil (shown_byte b)
shown_end (a ∷ name) b = ap (λ (x : List ℕ). shown_byte a ++ x) (shown_end name b) ∙ sym (append_assoc (shown_byte a) (shown name) (shown_byte b))

-- a name is put byte by byte: one more byte, and all
module _ (name : List ℕ) (i : ℕ) {d d₁ : List ℕ} {at m : ℕ} (p : PutInTurn d at (shown (take i name)) d₁ m) where
  pub one_more : {d₂ : List ℕ} {r : ℕ} → i < length name → PutInTurn d₁ m (shown_byte (get_or name i 0)) d₂ r → PutInTurn d at (shown (take (i + 1) name)) d₂ r
  one_more h q = rw (add-one i, take-suc name i 0 h, shown_end (take i name) (get_or name i 0)) (more p q)

  pub all_put : length name ≤ i → PutInTurn d at (shown name) d₁ m
  all_put h = rw (take_all i name h) at p
