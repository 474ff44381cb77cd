-- Every byte of a shown name is printable ASCII. Assumes nothing.
use Prim.Native.Nat.{ℕ, ◌≤◌, ◌<◌}
use mathlib.Core.Path.{◌≡◌, refl, sym, subst}
use mathlib.Core.Bool.{Bool, true, false, not, cond}
use mathlib.Core.List.{List, [], ◌∷◌, ◌++◌}
use native.Mathlib.Omega.{arith}
use borrow.Author.Tests.{ltb-false}
use lib.Dec.{T, ltb, eqb}
use Rattle.messages.specs.Messages.{plain, octal, shown_byte, shown, Printable, AreBytes, NamesArePrintable}

both : (s t : List ℕ) → Printable s → Printable t → Printable (s ++ t)
unfolding Printable
both [] t p q = q
both (b ∷ s) t (low, high, p) q = (low, high, both s t p q)

plain_printable : (b : ℕ) → plain b ≡ true → (32 ≤ b) × (b ≤ 126)
plain_printable b = go (ltb b 32) (ltb 126 b) refl refl
  where
    go : (s t : Bool) → ltb b 32 ≡ s → ltb 126 b ≡ t → cond s false (cond t false (not (eqb b 92))) ≡ true → (32 ≤ b) × (b ≤ 126)
    go true t low high e = absurd (subst T (sym e) tt)
    go false true low high e = absurd (subst T (sym e) tt)
    go false false low high e = (ltb-false b 32 low, ltb-false 126 b high)

octal_printable : (b : ℕ) → b < 256 → Printable (octal b)
unfolding Printable
octal_printable b h = (omega arith, omega arith, (omega arith, omega arith, (omega arith, omega arith, (omega arith, omega arith, tt))))

byte_printable : (b : ℕ) → b < 256 → Printable (shown_byte b)
unfolding shown_byte Printable
byte_printable b h = go (plain b) refl
  where
    go : (s : Bool) → plain b ≡ s → Printable (cond s (b ∷ []) (octal b))
    go true e = let p = plain_printable b e in (p.0, p.1, tt)
    go false e = octal_printable b h

pub names_printable : NamesArePrintable
unfolding shown Printable AreBytes
names_printable [] bytes = tt
names_printable (b ∷ name) (h, bytes) = both (shown_byte b) (shown name) (byte_printable b h) (names_printable name bytes)
