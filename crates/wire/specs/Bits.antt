-- Fields of bits, related to sums of powers of two (document 01, Frame layout).
use Rattle.std.specs.Prelude.{ℕ, ◌+◌, ◌*◌, ◌/◌, ◌%◌, ◌^◌, ◌<◌, Bool, true, false, ◌&&◌, List, [], ◌∷◌, get_or, eqb, ltb}

-- the w bits of n above its lowest s
abbrev pub bits : ℕ → ℕ → ℕ → ℕ
bits s w n = n / 2 ^ s % 2 ^ w

-- A row is fields side by side in one number. Their widths in bits describe it, the first field at the top.
abbrev pub width : List ℕ → ℕ
width [] = 0
width (w ∷ ws) = w + width ws

-- the fields that stand in n
abbrev pub unpack : List ℕ → ℕ → List ℕ
unpack [] n = []
unpack (w ∷ ws) n = bits (width ws) w n ∷ unpack ws n

-- field i of them, counted from 0 at the top
abbrev pub field : ℕ → List ℕ → ℕ → ℕ
field i ws n = get_or (unpack ws n) i 0

-- the number in which these values stand
abbrev pub pack : List ℕ → List ℕ → ℕ
pack [] vs = 0
pack (w ∷ ws) [] = 0
pack (w ∷ ws) (v ∷ vs) = v * 2 ^ width ws + pack ws vs

-- there is a value for each field, and it is within the field's bits
abbrev pub Fit : List ℕ → List ℕ → Type 0
Fit [] [] = Unit {0}
Fit [] (v ∷ vs) = ⊥
Fit (w ∷ ws) [] = ⊥
Fit (w ∷ ws) (v ∷ vs) = (v < 2 ^ w) × Fit ws vs

-- the same as a test
abbrev pub fits : List ℕ → List ℕ → Bool
fits [] [] = true
fits [] (v ∷ vs) = false
fits (w ∷ ws) [] = false
fits (w ∷ ws) (v ∷ vs) = ltb v (2 ^ w) && fits ws vs

-- a field of one bit as a truth value, and back
abbrev pub flag : ℕ → Bool
flag n = eqb n 1

abbrev pub bit : Bool → ℕ
bit true = 1
bit false = 0
