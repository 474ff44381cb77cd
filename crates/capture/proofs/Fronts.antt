-- What stands at the front by the tests on the way, and what each case of it says of the bytes. Assumes nothing.
use Prim.Native.Nat.{ℕ, zero, suc, ◌+◌, ◌≤◌}
use mathlib.Core.Path.{◌≡◌, refl, sym}
use mathlib.Core.Bool.{Bool, true, false, cond}
use mathlib.Core.List.{List}
use native.Mathlib.Omega.{arith}
use borrow.Author.Tests.{le-ltb, ne_eqb, eqb-true, eqb-false, ltb-false}
use lib.Dec.{eqb, ltb}
use lib.ListN.{length}
use Rattle.wire.specs.Numbers.{number_or_0, little_endian_or_0}
use Rattle.refusal.specs.Refusals.{first_of}
use Rattle.capture.specs.Sizes.{RecordSizes}
use Rattle.capture.specs.Numbers.{held_number, front_number, RecordNumbers}
use Rattle.capture.specs.Records.{Held, damaged, arrival, admission, end, cut, whole, length_of, kind_of, size_of, limit_of, body_of, wrong_length, retired_kind, unknown_kind, record_checks, held_by, front_by, entry_of}

-- what a record holds, by whether its kind is 1 and whether it is 2
abbrev pub body_by : Bool → Bool → List ℕ → Held
body_by one two rest = cond one (arrival (little_endian_or_0 4 8 rest)) (cond two (admission (number_or_0 4 8 rest) 2_147_483_647) (admission (number_or_0 4 8 rest) (limit_of rest)))

-- a length n and a kind k were read, and something is left
module _ (rest : List ℕ) {n k : ℕ} (some : length rest ≡ 0 → ⊥) (en : n ≡ length_of rest) (ek : k ≡ kind_of rest) where
  module _ (all : 2 + n ≤ length rest) where
    pub wrong : true ≡ wrong_length n k → whole (2 + n) (damaged 42) ≡ entry_of rest
    unfolding entry_of first_of
    wrong e = rw (ne_eqb (length rest) 0 some, ← en, ← ek, le-ltb (length rest) (2 + n) all, ← e)

    module _ (right : false ≡ wrong_length n k) where
      pub retired : true ≡ retired_kind k → whole (2 + n) (damaged 44) ≡ entry_of rest
      unfolding entry_of first_of
      retired e = rw (ne_eqb (length rest) 0 some, ← en, ← ek, le-ltb (length rest) (2 + n) all, ← right, ← e)

      module _ (obeyed : false ≡ retired_kind k) where
        pub unknown : true ≡ unknown_kind k → whole (2 + n) (damaged 43) ≡ entry_of rest
        unfolding entry_of first_of
        unknown e = rw (ne_eqb (length rest) 0 some, ← en, ← ek, le-ltb (length rest) (2 + n) all, ← right, ← obeyed, ← e)

        pub known : false ≡ unknown_kind k → whole (2 + n) (body_of k rest) ≡ entry_of rest
        unfolding entry_of first_of
        known e = rw (ne_eqb (length rest) 0 some, ← en, ← ek, le-ltb (length rest) (2 + n) all, ← right, ← obeyed, ← e)

-- ---- for callers

-- nothing stands at the front of no bytes only
pub end_empty : (rest : List ℕ) → entry_of rest ≡ end → length rest ≡ 0
unfolding entry_of
end_empty rest e = go (eqb (length rest) 0) refl (first_of (record_checks rest)) e
  where
    not_end : (b : Bool) (size : ℕ) (held : Held) → cond b cut (whole size held) ≡ end → ⊥
    not_end true size held e = let z : ◌≡◌ {A = ℕ} 0 1 = cc in omega arith
    not_end false size held e = let z : ◌≡◌ {A = ℕ} 0 1 = cc in omega arith

    go : (b : Bool) → eqb (length rest) 0 ≡ b → (n : ℕ) → cond b end (front_by n rest) ≡ end → length rest ≡ 0
    go true p n e = eqb-true (length rest) 0 p
    go false p n e = absurd (not_end (eqb n 41) (size_of rest) (held_by n rest) e)

-- a record is cut where something is left
pub cut_some : (rest : List ℕ) → entry_of rest ≡ cut → length rest ≡ 0 → ⊥
unfolding entry_of
cut_some rest e = go (eqb (length rest) 0) refl e
  where
    go : (b : Bool) → eqb (length rest) 0 ≡ b → cond b end (front_by (first_of (record_checks rest)) rest) ≡ cut → length rest ≡ 0 → ⊥
    go true p e = let z : ◌≡◌ {A = ℕ} 0 1 = cc in absurd (omega arith)
    go false p e = eqb-false (length rest) 0 p

-- a whole record is all there
pub all_there : (rest : List ℕ) (size : ℕ) (held : Held) → entry_of rest ≡ whole size held → (size ≡ size_of rest) × (size ≤ length rest)
unfolding entry_of first_of
all_there rest size held e = go (eqb (length rest) 0) (ltb (length rest) (size_of rest)) refl _ e
  where
    size_is : size_of rest ≤ length rest → (b : Bool) (h : Held) → cond b cut (whole (size_of rest) h) ≡ whole size held → (size ≡ size_of rest) × (size ≤ length rest)
    size_is l true h e = let z : ◌≡◌ {A = ℕ} 0 1 = cc in absurd (omega arith)
    size_is l false h e = let z : size ≡ size_of rest = cc in (z, omega arith)

    go : (none cut_off : Bool) → ltb (length rest) (size_of rest) ≡ cut_off → (n : ℕ) → cond none end (front_by (cond cut_off 41 n) rest) ≡ whole size held
        → (size ≡ size_of rest) × (size ≤ length rest)
    go true cut_off p n e = let z : ◌≡◌ {A = ℕ} 0 1 = cc in absurd (omega arith)
    go false true p n e = let z : ◌≡◌ {A = ℕ} 0 1 = cc in absurd (omega arith)
    go false false p n e = size_is (ltb-false (length rest) (size_of rest) p) (eqb n 41) (held_by n rest) e

pub sized : RecordSizes
sized rest size held e = let p = all_there rest size held e in (omega arith, p.1)

-- the number of what stands there is the first that applies
pub numbered : RecordNumbers
unfolding entry_of
numbered rest some = rw (ne_eqb (length rest) 0 some) (of_front (eqb n 41) refl)
  where
    n : ℕ
    n = first_of (record_checks rest)

    of_body : (one two : Bool) → held_number (body_by one two rest) ≡ 0
    of_body true two = refl
    of_body false true = refl
    of_body false false = refl

    of_held : (k : ℕ) → held_number (held_by k rest) ≡ k
    of_held zero = of_body (eqb (kind_of rest) 1) (eqb (kind_of rest) 2)
    of_held (suc k) = refl

    of_front : (b : Bool) → eqb n 41 ≡ b → front_number (cond b cut (whole (size_of rest) (held_by n rest))) ≡ n
    of_front true e = sym (eqb-true n 41 e)
    of_front false e = of_held n
