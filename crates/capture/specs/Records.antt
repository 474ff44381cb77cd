-- A capture's records (document 01, Capture and listing; requests #107 and #109), over the bytes that remain of it.
use Rattle.std.specs.Prelude.{ℕ, ◌+◌, Bool, false, cond, not, ◌||◌, List, [], ◌∷◌, eqb, ltb, length, drop, Result, Ok, Err}
use Rattle.wire.specs.Numbers.{number_or_0, little_endian_or_0}
use Rattle.refusal.specs.declared.Refusal.{Refusal}
use Rattle.refusal.specs.Refusals.{number_of, if_accepted, Check, ◌answers◌, first_of, differs}
use Rattle.capture.specs.declared.Entry.{Entry}
use Rattle.capture.specs.declared.Entry.TheVariants.{End, Cut, Whole}
use Rattle.capture.specs.declared.Content.{Content}
use Rattle.capture.specs.declared.Content.TheVariants.{Frame, Admit}

-- ---- What stands at the front

-- what a whole record holds
pub data Held : Type 0 where
  -- damaged, or of a retired kind: refused, with this number
  damaged : ℕ → Held
  -- a frame with its arrival time L
  arrival : ℕ → Held
  -- the id of a stream to admit, with its limit
  admission : ℕ → ℕ → Held

-- what stands at the front of the bytes that remain
pub data Front : Type 0 where
  -- nothing is left
  end : Front
  -- 41: the capture ends inside the record
  cut : Front
  -- a record of this size, that is the place of the next one
  whole : ℕ → Held → Front

-- what each case of the answer says
abbrev pub held_of : Result Content Refusal → Held
held_of (Ok (Frame L)) = arrival L
held_of (Ok (Admit id limit)) = admission id limit
held_of (Err r) = damaged (number_of r)

abbrev pub front_of : Entry → Front
front_of End = end
front_of Cut = cut
front_of (Whole size content) = whole size (held_of content)

-- ---- Layout

-- a two-byte little-endian length of what follows in the record, a two-byte little-endian kind, then the body
unfoldable pub length_of : List ℕ → ℕ
length_of rest = little_endian_or_0 0 2 rest

unfoldable pub kind_of : List ℕ → ℕ
kind_of rest = little_endian_or_0 2 2 rest

abbrev pub size_of : List ℕ → ℕ
size_of rest = 2 + length_of rest

-- "eight id bytes, four limit bytes little-endian" (request #107)
abbrev pub limit_of : List ℕ → ℕ
limit_of rest = little_endian_or_0 12 4 rest

-- kind 1: eight-byte little-endian L, then a frame; kind 2 admits: eight id bytes in wire order, with 2,147,483,647; kind 5 admits with a limit.
-- This is asked where no number is answered, and then the kind is one of these
abbrev pub body_of : ℕ → List ℕ → Held
body_of kind rest =
    cond (eqb kind 1) (arrival (little_endian_or_0 4 8 rest))
    (cond (eqb kind 2) (admission (number_or_0 4 8 rest) 2_147_483_647)
    (admission (number_or_0 4 8 rest) (limit_of rest)))

-- the frame in a record: what stands behind L, none where the record is shorter
unfoldable pub frame_in : List ℕ → List ℕ
frame_in bytes = drop 12 bytes

-- ---- Numbers answered

-- at least 10 for kind 1, exactly 10 for kinds 2 and 3, exactly 14 for kind 5 (request #107)
abbrev pub wrong_for : ℕ → ℕ → Bool
wrong_for kind n =
    cond (eqb kind 1) (ltb n 10)
    (cond (eqb kind 2 || eqb kind 3) (differs n 10)
    (cond (eqb kind 5) (differs n 14)
    false))

-- under 2, or wrong for its kind
unfoldable pub wrong_length : ℕ → ℕ → Bool
wrong_length n kind = ltb n 2 || wrong_for kind n

-- "Kind 3 is no longer obeyed" (request #109): it removed a stream. It is answered before it could be unknown
unfoldable pub retired_kind : ℕ → Bool
retired_kind kind = eqb kind 3

unfoldable pub unknown_kind : ℕ → Bool
unknown_kind kind = not (eqb kind 1 || eqb kind 2 || eqb kind 5)

-- "44 for kind 3 of right length, after 42, before 43" (request #109)
abbrev pub record_checks : List ℕ → List Check
record_checks rest =
    ltb (length rest) (size_of rest) answers 41
    ∷ wrong_length (length_of rest) (kind_of rest) answers 42
    ∷ retired_kind (kind_of rest) answers 44
    ∷ unknown_kind (kind_of rest) answers 43
    ∷ []

-- what a record holds by the number answered, 0 where there is none
abbrev pub held_by : ℕ → List ℕ → Held
held_by number rest = if_accepted number (body_of (kind_of rest) rest) (damaged number)

-- after 41 reading ends; a record answered 42 or above is skipped whole
abbrev pub front_by : ℕ → List ℕ → Front
front_by number rest = cond (eqb number 41) cut (whole (size_of rest) (held_by number rest))

unfoldable pub entry_of : List ℕ → Front
entry_of rest = cond (eqb (length rest) 0) end (front_by (first_of (record_checks rest)) rest)
