-- Messages on standard error: `program: name: text` and a line feed.
use Rattle.std.specs.Prelude.{ℕ, ◌+◌, ◌/◌, ◌%◌, ◌<◌, ◌≤◌, Bool, false, not, cond, List, [], ◌∷◌, ◌++◌, eqb, ltb}
use Rattle.text.specs.Text.{ascii}

-- ---- names

-- a byte that a terminal shows as a character, whatever its encoding: printable ASCII, but for the backslash
abbrev pub plain : ℕ → Bool
plain b = cond (ltb b 32) false (cond (ltb 126 b) false (not (eqb b 92)))

-- any other is shown as a backslash and its three octal digits
abbrev pub octal : ℕ → List ℕ
octal b = 92 ∷ (48 + b / 64) ∷ (48 + b / 8 % 8) ∷ (48 + b % 8) ∷ []

unfoldable pub shown_byte : ℕ → List ℕ
shown_byte b = cond (plain b) (b ∷ []) (octal b)

unfoldable pub shown : List ℕ → List ℕ
shown [] = []
shown (b ∷ name) = shown_byte b ++ shown name

-- every byte of a text is printable ASCII
unfoldable pub Printable : List ℕ → Type 0
Printable [] = Unit
Printable (b ∷ text) = (32 ≤ b) × (b ≤ 126) × Printable text

-- what bytes are
unfoldable pub AreBytes : List ℕ → Type 0
AreBytes [] = Unit
AreBytes (b ∷ text) = (b < 256) × AreBytes text

-- whatever a name holds, no control character of it is shown
abbrev pub NamesArePrintable : Type 0
NamesArePrintable = (name : List ℕ) → AreBytes name → Printable (shown name)

-- ---- messages

abbrev pub about : List ℕ → List ℕ → List ℕ
about program name = program ++ (ascii ": " ++ shown name)

abbrev pub message : List ℕ → List ℕ → List ℕ → List ℕ
message program name text = about program name ++ (ascii ": " ++ (text ++ ascii "\n"))
