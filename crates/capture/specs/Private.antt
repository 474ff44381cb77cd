-- What the private calls answer. No public contract speaks of it.
use Rattle.std.specs.Prelude.{ℕ, false, ◌≡◌, ◌||◌, List, [], ◌∷◌, eqb, Result, MatchResult}
use Rattle.refusal.specs.declared.Refusal.{Refusal}
use Rattle.refusal.specs.declared.Refusal.TheVariants.{RecordKind}
use Rattle.refusal.specs.Refusals.{if_accepted, Check, ◌answers◌, first_of}
use Rattle.capture.specs.declared.Kind.{Kind}
use Rattle.capture.specs.declared.Kind.TheVariants.{Frame, Admit, Remove, AdmitWithin}
use Rattle.capture.specs.Records.{Held, damaged, body_of, wrong_length, retired_kind, unknown_kind}

-- the number that stands in a record for its kind
abbrev pub kind_number : Kind → ℕ
kind_number Frame = 1
kind_number Admit = 2
kind_number Remove = 3
kind_number AdmitWithin = 5

-- a number is that of a kind, or of none
abbrev pub Named : ℕ → Result Kind Refusal → Type 0
Named n r = MatchResult r (λ kind. kind_number kind ≡ n) (λ e. (e ≡ RecordKind) × ((eqb n 1 || eqb n 2 || eqb n 3 || eqb n 5) ≡ false))

-- the checks on a whole record, by its length and the number of its kind
abbrev pub content_checks : ℕ → ℕ → List Check
content_checks n kind = wrong_length n kind answers 42 ∷ retired_kind kind answers 44 ∷ unknown_kind kind answers 43 ∷ []

-- what it holds
abbrev pub held_with : ℕ → ℕ → List ℕ → Held
held_with n kind bytes = let number = first_of (content_checks n kind) in if_accepted number (body_of kind bytes) (damaged number)
