-- A search over a table, for any test: what the library's search answers is what the rule says.
-- Assumes nothing.
use mathlib.Core.Path.{◌≡◌, refl, sym, ap, ◌∙◌}
use Prim.Native.Nat.{ℕ, suc, ◌+◌}
use native.Mathlib.Omega.{arith}
use borrow.Author.Tests.{lt-ltb, le-ltb, ltb-true, ltb-false}
use mathlib.Core.Bool.{Bool, true, false, cond, ◌||◌}
use mathlib.Core.List.{[], ◌∷◌}
use lib.ListN.{length}
use lib.Dec.{ltb}
use Rattle.std.specs.Prelude.{Option, Some, None, position, Result, Err}
use Rattle.std.specs.List.{position_or_len}
use Rattle.std.specs.Option.{is_some, ok_or}
use Rattle.std.proofs.lemmas.List.Recursion.{is_position_or_len}
use Rattle.refusal.specs.declared.Refusal.{Refusal}
use Rattle.refusal.specs.Refusals.{number_of, verdict_number}
use Rattle.stream.specs.declared.Record.{Record}
use Rattle.table.specs.Table.{Table, any, place}

module _ (p : Record → Bool) where
  place_is : (t : Table) → place p t ≡ position_or_len p t
  unfolding place
  place_is t = is_position_or_len (place p) p refl (λ r u. let one : suc (place p u) ≡ 1 + place p u = omega arith in ap (λ (n : ℕ). cond (p r) 0 n) one) t

  step : (b rest : Bool) (k n : ℕ) → rest ≡ ltb k n → b || rest ≡ ltb (cond b 0 (suc k)) (suc n)
  step true rest k n e = sym (lt-ltb 0 (suc n) (omega arith))
  step false true k n e = sym (lt-ltb (suc k) (suc n) (omega (arith, ltb-true k n (sym e))))
  step false false k n e = sym (le-ltb (suc k) (suc n) (omega (arith, ltb-false k n (sym e))))

  any_is : (t : Table) → any p t ≡ ltb (place p t) (length t)
  unfolding any place
  any_is [] = refl
  any_is (r ∷ t) = step (p r) (any p t) (place p t) (length t) (any_is t)

  pub searched : (t : Table) → position p t ≡ cond (any p t) (Some (place p t)) None
  searched t = rw (any_is t, place_is t) refl

  picked_at : (b : Bool) (n i : ℕ) → cond b (Some n) None ≡ Some i → (b ≡ true) × (n ≡ i)
  picked_at true n i e = (refl, cc)
  picked_at false n i e = (cc, cc)

  picked : (b : Bool) (n : ℕ) → is_some (cond b (Some n) None) ≡ b
  picked true n = refl
  picked false n = refl

  module _ (t : Table) where
    pub found_at : {i : ℕ} → position p t ≡ Some i → (any p t ≡ true) × (place p t ≡ i)
    found_at {i} e = picked_at (any p t) (place p t) i (sym (searched t) ∙ e)

    -- whether it found one
    pub finds : is_some (position p t) ≡ any p t
    finds = ap is_some (searched t) ∙ picked (any p t) (place p t)

    pub found_none : position p t ≡ None → any p t ≡ false
    found_none e = sym finds ∙ ap is_some e

-- the refusal of a search that found none
pub missed : {o : Option ℕ} (e : Refusal) {r : Refusal} → o ≡ None → ◌≡◌ {A = Result ℕ Refusal} (Err r) (ok_or o e) → number_of r ≡ number_of e
missed e h v = ap (λ (x : Result ℕ Refusal). verdict_number x) v ∙ ap (λ (o : Option ℕ). verdict_number (ok_or o e)) h
