-- What admission and removal answer, from what the searches found.
-- Assumes nothing.
use Prim.Native.Nat.{ℕ}
use mathlib.Core.Path.{◌≡◌, refl, sym, ◌∙◌}
use mathlib.Core.Bool.{true, false, not}
use mathlib.Core.List.{List, [], ◌∷◌}
use lib.Dec.{T, ltb}
use lib.ListN.{length, set}
use Rattle.std.specs.Prelude.{Some, None, Ok, Err, position}
use Rattle.std.specs.Option.{is_some}
use Rattle.refusal.specs.declared.Refusal.{Refusal}
use Rattle.refusal.specs.declared.Refusal.TheVariants.{AlreadyAdmitted}
use Rattle.refusal.specs.Refusals.{number_of, if_accepted, Check, ◌answers◌, first_of}
use Rattle.refusal.proofs.First.{positive, numbered, stop, go, then}
use Rattle.presentation.specs.Presentation.{largest_limit}
use Rattle.stream.specs.Records.{unused, admitted_within}
use Rattle.table.specs.Table.{Table, holds, is_unused, any, place, admit_checks, remove_checks, admit, remove, ChangedBy}
use Rattle.table.proofs.Searched.{found_at, found_none, finds}

-- ---- one check, and then others
abbrev pub long : ℕ → Check
long n = ltb 64 n answers 20

abbrev over : ℕ → Check
over limit = ltb largest_limit limit answers 24

abbrev rest : List Check → List Check
rest [] = []
rest (c ∷ cs) = cs

module _ (c : Check) (h : T (numbered (c ∷ []))) (ys : List Check) where
  pub stopped : (r : Refusal) → number_of r ≡ first_of (c ∷ []) → number_of r ≡ first_of (c ∷ ys)
  stopped r e = stop r (first_of (c ∷ [])) (first_of ys) e ∙ sym (then (c ∷ []) ys h)

  pub passed : (y : ℕ) → 0 ≡ first_of (c ∷ []) → y ≡ first_of ys → y ≡ first_of (c ∷ ys)
  passed y e q = go (first_of (c ∷ [])) (first_of ys) y e q ∙ sym (then (c ∷ []) ys h)

-- ---- the answer and the table afterwards
kept : (n : ℕ) (t u : Table) (r : Refusal) → number_of r ≡ n → t ≡ if_accepted n u t
kept n t u r e = let p = positive r in rw (← e, p.1) refl

module _ (limit : ℕ) (t : Table) (id : ℕ) where
  pub admit_refused : (r : Refusal) → number_of r ≡ first_of (admit_checks limit t id) → ChangedBy (admit limit) t id (Err r) t
  unfolding admit
  admit_refused r e = record { number = e; table = kept _ t _ r e }

  admit_made : 0 ≡ first_of (admit_checks limit t id) → ChangedBy (admit limit) t id (Ok tt) (set t (place is_unused t) (admitted_within id limit))
  unfolding admit
  admit_made e = record { number = e; table = rw (← e) refl }

  module _ (ok : 0 ≡ first_of (long (length t) ∷ [])) where
    pub already : is_some (position (holds id) t) ≡ true → ChangedBy (admit limit) t id (Err AlreadyAdmitted) t
    unfolding first_of
    already held = let h = sym (finds (holds id) t) ∙ held in admit_refused AlreadyAdmitted (passed (long (length t)) tt (rest (admit_checks limit t id)) 21 ok (rw h refl))

    module _ (held : is_some (position (holds id) t) ≡ false) where
      -- the checks that are left
      abbrev left : List Check
      left = over limit ∷ not (any is_unused t) answers 22 ∷ []

      past_held : (y : ℕ) → y ≡ first_of left → y ≡ first_of (admit_checks limit t id)
      unfolding first_of
      past_held y e =
          let h = sym (finds (holds id) t) ∙ held in
          passed (long (length t)) tt (rest (admit_checks limit t id)) y ok (rw h e)

      pub too_large : (r : Refusal) → number_of r ≡ first_of (over limit ∷ []) → ChangedBy (admit limit) t id (Err r) t
      too_large r e = admit_refused r (past_held (number_of r) (stopped (over limit) tt (rest left) r e))

      module _ (within : 0 ≡ first_of (over limit ∷ [])) where
        pub full : position is_unused t ≡ None → (r : Refusal) → number_of r ≡ 22 → ChangedBy (admit limit) t id (Err r) t
        unfolding first_of
        full free r e = admit_refused r (e ∙ past_held 22 (passed (over limit) tt (rest left) 22 within (rw (found_none is_unused t free) refl)))

        pub admitted_at : (i : ℕ) → position is_unused t ≡ Some i → ChangedBy (admit limit) t id (Ok tt) (set t i (admitted_within id limit))
        unfolding first_of
        admitted_at i free =
            let f = found_at is_unused t free in
            rw (← f.1) (admit_made (past_held 0 (passed (over limit) tt (rest left) 0 within (rw f.0 refl))))

module _ (t : Table) (id : ℕ) where
  pub remove_refused : (r : Refusal) → number_of r ≡ first_of (remove_checks t id) → ChangedBy remove t id (Err r) t
  unfolding remove
  remove_refused r e = record { number = e; table = kept _ t _ r e }

  remove_made : 0 ≡ first_of (remove_checks t id) → ChangedBy remove t id (Ok tt) (set t (place (holds id) t) unused)
  unfolding remove
  remove_made e = record { number = e; table = rw (← e) refl }

  module _ (ok : 0 ≡ first_of (long (length t) ∷ [])) where
    pub nothing_there : position (holds id) t ≡ None → (r : Refusal) → number_of r ≡ 23 → ChangedBy remove t id (Err r) t
    unfolding first_of
    nothing_there none r e = remove_refused r (e ∙ passed (long (length t)) tt (rest (remove_checks t id)) 23 ok (rw (found_none (holds id) t none) refl))

    pub removed_at : (i : ℕ) → position (holds id) t ≡ Some i → ChangedBy remove t id (Ok tt) (set t i unused)
    unfolding first_of
    removed_at i there = let f = found_at (holds id) t there in rw (← f.1) (remove_made (passed (long (length t)) tt (rest (remove_checks t id)) 0 ok (rw f.0 refl)))
