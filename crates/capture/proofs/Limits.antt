-- A record that admits with another limit than the largest is of kind 5. Assumes nothing.
use Prim.Native.Nat.{ℕ, zero, suc, ◌≤◌}
use mathlib.Core.Path.{◌≡◌, refl, sym, ap, ◌∙◌}
use mathlib.Core.Bool.{Bool, true, false, not, cond, ◌||◌}
use mathlib.Core.List.{List}
use native.Mathlib.Omega.{arith}
use borrow.Author.Tests.{eqb-true}
use lib.Dec.{eqb}
use lib.ListN.{length, take, drop, length-take, take-append-drop}
use Rattle.wire.specs.Numbers.{little_endian}
use Rattle.refusal.specs.Refusals.{first_of}
use Rattle.refusal.proofs.First.{clear}
use Rattle.capture.specs.Records.{Held, admission, end, cut, whole, length_of, kind_of, size_of, unknown_kind, record_checks, held_by, entry_of}
use Rattle.capture.proofs.Fronts.{body_by, all_there}
use Rattle.capture.proofs.Parts.{never, read_same, at_least_10}

-- what a whole record holds, by its number
of_entry : (rest : List ℕ) (size : ℕ) (held : Held) → entry_of rest ≡ whole size held → held_by (first_of (record_checks rest)) rest ≡ held
unfolding entry_of
of_entry rest size held e = go (eqb (length rest) 0) (eqb n 41) e
  where
    n : ℕ
    n = first_of (record_checks rest)

    go : (none cut_off : Bool) → cond none end (cond cut_off cut (whole (size_of rest) (held_by n rest))) ≡ whole size held → held_by n rest ≡ held
    go true cut_off e = let z : ◌≡◌ {A = ℕ} 0 1 = cc in absurd (omega arith)
    go false true e = let z : ◌≡◌ {A = ℕ} 0 1 = cc in absurd (omega arith)
    go false false e = cc

-- the kind of a record stands in its own bytes
kind_of_record : (rest : List ℕ) (size : ℕ) → 4 ≤ size → size ≤ length rest → kind_of (take size rest) ≡ kind_of rest
unfolding kind_of
kind_of_record rest size h l =
    let there : length (take size rest) ≡ size = length-take size rest ∙ omega arith in
    sym (read_same 2 2 (take size rest) (drop size rest) (omega arith) little_endian) ∙ ap (λ (s : List ℕ). kind_of s) (take-append-drop size rest)

-- by kind
of_body : (one two five : Bool) (rest : List ℕ) (id limit : ℕ) → body_by one two rest ≡ admission id limit
    → not (one || two || five) ≡ false → (five ≡ true → ⊥) → limit ≡ 2_147_483_647
of_body true two five rest id limit e known not-5 = let z : ◌≡◌ {A = ℕ} 0 1 = cc in absurd (omega arith)
of_body false true five rest id limit e known not-5 = cc
of_body false false true rest id limit e known not-5 = absurd (not-5 refl)
of_body false false false rest id limit e known not-5 = never known

pub largest_but_5 : (rest : List ℕ) (size id limit : ℕ) → entry_of rest ≡ whole size (admission id limit) → (kind_of (take size rest) ≡ 5 → ⊥) → limit ≡ 2_147_483_647
unfolding unknown_kind
largest_but_5 rest size id limit e not-5 = go (first_of (record_checks rest)) refl (of_entry rest size (admission id limit) e)
  where
    go : (n : ℕ) → first_of (record_checks rest) ≡ n → held_by n rest ≡ admission id limit → limit ≡ 2_147_483_647
    go (suc n) p h = let z : ◌≡◌ {A = ℕ} 0 1 = cc in absurd (omega arith)
    go zero p h =
        let sound = clear (record_checks rest) tt p in
        let known = sound.1.1.1.0 in
        let long = at_least_10 (length_of rest) (kind_of rest) sound.1.0 known in
        let there = all_there rest size (admission id limit) e in
        let own : kind_of (take size rest) ≡ kind_of rest = kind_of_record rest size (omega arith) there.1 in
        of_body (eqb (kind_of rest) 1) (eqb (kind_of rest) 2) (eqb (kind_of rest) 5) rest id limit h known (λ five. not-5 (own ∙ eqb-true (kind_of rest) 5 five))
