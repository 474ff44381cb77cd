-- The words that a program is started with.
use Rattle.std.specs.Prelude.{ℕ, suc, ◌-◌, ◌<◌, ◌≡◌, Bool, true, false, cond, List, [], ◌∷◌, length, Option, Some, None}
use Rattle.text.specs.Text.{ascii}
use Rattle.text.specs.InTurn.{PutInTurn}
use Rattle.words.specs.Words.{starts_with, same}
use Rattle.messages.specs.Messages.{message}
use Rattle.options.specs.declared.Word.{Word}
use Rattle.options.specs.declared.Word.TheVariants.{Help, Version, Rest, Unknown}
use Rattle.options.specs.declared.Request.{Request}

-- ---- one word

-- with a dash in front
unfoldable pub option_of : List ℕ → Word
option_of w =
    cond (same (ascii "--") w) Rest
    (cond (same (ascii "-h") w) Help
    (cond (same (ascii "--help") w) Help
    (cond (same (ascii "--version") w) Version
    Unknown)))

-- a dash alone is a name, as is every word with no dash in front: none of the options
unfoldable pub meaning : List ℕ → Option Word
meaning w = cond (same (ascii "-") w) None (cond (starts_with (ascii "-") w) (Some (option_of w)) None)

-- ---- all of them

-- the one of a word at a place, if it is one, else what another gives
abbrev pub here_or : ℕ → Option Word → Option (ℕ × Word) → Option (ℕ × Word)
here_or at None later = later
here_or at (Some w) later = Some (at, w)

-- the first of the words that is no name, and its place, counted on from a place; none where all are names
unfoldable pub first_option : ℕ → List (List ℕ) → Option (ℕ × Word)
first_option at [] = None
first_option at (w ∷ ws) = here_or at (meaning w) (first_option (suc at) ws)

-- the meaning of some word: which it is the system says
pub record Meant (r : Option Word) : Type 0 where
  pub word : List ℕ
  pub meant : r ≡ meaning word

-- the words are all that there are behind the program's own name, or those up to the first that is no name
abbrev pub WordsOf : Option (ℕ × Word) → ℕ → List (List ℕ) → Type 0
WordsOf None count words = length words ≡ count - 1
WordsOf (Some first) count words = (length words ≡ first.0) × (first.0 < count)

-- the answer is that of some words
pub record Requested (r : Request) : Type 0 where
  pub words : List (List ℕ)
  pub first : r.first ≡ first_option 1 words
  pub many : WordsOf r.first r.count words

-- how many are no names: the program's own, and the one that is no name
abbrev pub others_by : Option (ℕ × Word) → ℕ
others_by None = 1
others_by (Some first) = 2

abbrev pub names_of : Request → ℕ
names_of r = r.count - others_by r.first

-- a word is refused, which the system says: d is the room of the message, and d' the same afterwards
pub record Refused (program d d' : List ℕ) (r : ℕ) : Type 0 where
  pub word : List ℕ
  pub said : PutInTurn d 0 (message program word (ascii "unknown option; --help lists the options")) d' r
