-- What a call leaves, by whether there is room, and one text after another. Assumes nothing.
use Prim.Native.Nat.{ℕ, ◌+◌, ◌-◌, ◌^◌, ◌≤◌, ◌<◌}
use Rattle.std.specs.Prelude.{min}
use mathlib.Core.Path.{◌≡◌, refl, sym, ap, ◌∙◌}
use mathlib.Core.Bool.{Bool, true, false}
use mathlib.Core.List.{List, [], ◌++◌}
use native.Mathlib.Omega.{arith}
use borrow.Author.Tests.{le-leb, lt-leb, leb-true, leb-false}
use lib.Dec.{leb}
use lib.ListN.{length, length-append}
use lib.Seq.{sets, length-sets}
use Rattle.text.specs.Putting.{largest, saturated, place_after, put_at, Put}
use Rattle.text.specs.InTurn.{PutInTurn}
use Rattle.text.proofs.Sets.{sets_append}

-- ---- Places

-- a number and what is taken for it, by whether it is above the largest
by_cap : (n : ℕ) {X : Type 0} → (n ≤ largest → saturated n ≡ n → X) → (largest < n → saturated n ≡ largest → X) → X
by_cap n {X} f g = go (leb n largest) refl
  where
    go : (s : Bool) → leb n largest ≡ s → X
    go true e = f (leb-true n largest e) (rw e)
    go false e = g (leb-false n largest e) (rw e)

saturated_below : (n : ℕ) → saturated n ≤ n
saturated_below n = by_cap n (λ h e. rw e (omega arith)) (λ h e. rw e (omega arith))

saturated_above : (m n : ℕ) → m < n → m < largest → m < saturated n
saturated_above m n h l = by_cap n (λ g e. rw e h) (λ g e. rw e l)

saturated_sum : (m n : ℕ) → saturated (saturated m + n) ≡ saturated (m + n)
saturated_sum m n =
    by_cap m (λ h e. rw e) (λ h e.
    let up : saturated (largest + n) ≡ largest = by_cap (largest + n) (λ g f. f ∙ omega arith) (λ g f. f) in
    let over : saturated (m + n) ≡ largest = by_cap (m + n) (λ g f. absurd (omega arith)) (λ g f. f) in
    rw (e, over) up)

after_sum : (at : ℕ) (s t : List ℕ) → place_after (place_after at s) t ≡ place_after at (s ++ t)
unfolding place_after
after_sum at s t =
    let e : at + length s + length t ≡ at + length (s ++ t) = omega (arith, length-append s t) in
    saturated_sum (at + length s) (length t) ∙ ap saturated e

pub after_below : (at : ℕ) (text : List ℕ) → place_after at text ≤ at + length text
unfolding place_after
after_below at text = saturated_below (at + length text)

-- ---- One call

-- what is known once it was asked whether there is room up to place n in a buffer of so many bytes
module _ {r : Bool} (n len : ℕ) (asked : r ≡ leb n len) where
  pub has_room : r ≡ true → n ≤ len
  has_room e = leb-true n len (sym asked ∙ e)

  pub lacks_room : r ≡ false → len < n
  lacks_room e = leb-false n len (sym asked ∙ e)

-- what `saturating_add` answers
saturating : (n : ℕ) → min n (2 ^ 64 - 1) ≡ saturated n
saturating n = by_cap n (λ h e. sym (e ∙ omega arith)) (λ h e. sym (e ∙ omega arith))

module _ {d d' text : List ℕ} {at r : ℕ} where
  pub put_there : length d ≤ largest → at + length text ≤ length d → d' ≡ sets d at text → r ≡ at + length text → Put d at text d' r
  unfolding place_after put_at
  put_there l h e p =
      record {
        place = rw (le-leb (at + length text) largest (omega arith)) p;
        buffer = rw (le-leb (at + length text) (length d) h) e;
        room = λ _. p;
      }

  pub not_put : length d < largest → length d < at + length text → d' ≡ d → r ≡ min (at + length text) (2 ^ 64 - 1) → Put d at text d' r
  unfolding place_after put_at
  not_put l h e p =
      record {
        place = p ∙ saturating (at + length text);
        buffer = rw (lt-leb (at + length text) (length d) h) e;
        room = λ g. absurd (omega arith);
      }

-- ---- One text after another

kept : (d : List ℕ) (at : ℕ) (s : List ℕ) (fits : Bool) → leb (at + length s) (length d) ≡ fits → length (put_at d at s) ≡ length d
unfolding put_at
kept d at s true e = rw e (length-sets d at s)
kept d at s false e = rw e

-- no text, by no call
pub none_put : (d : List ℕ) (at : ℕ) → at ≤ largest → PutInTurn d at [] d at
unfolding place_after
none_put d at h = record { place = rw (le-leb (at + 0) largest (omega arith)) (omega arith); kept = refl; stored = λ _. (omega arith, refl) }

module _ {d d₁ s : List ℕ} {at m : ℕ} where
  -- one text, by one call
  pub alone : Put d at s d₁ m → PutInTurn d at s d₁ m
  unfolding put_at
  alone p =
      record {
        place = p.place;
        kept = ap length p.buffer ∙ kept d at s (leb (at + length s) (length d)) refl;
        stored = λ h. (p.room h, p.buffer ∙ rw (le-leb (at + length s) (length d) (omega (arith, p.room h))));
      }

  -- a call's text where it is known to have room
  pub put_where_room : Put d at s d₁ m → at + length s ≤ length d → (m ≡ at + length s) × (d₁ ≡ sets d at s)
  put_where_room p h = (alone p).stored (omega (arith, p.place, after_below at s))

  -- and then another
  pub more : {d₂ t : List ℕ} {r : ℕ} → PutInTurn d at s d₁ m → PutInTurn d₁ m t d₂ r → PutInTurn d at (s ++ t) d₂ r
  more {d₂} {t} {r} p q =
      record {
        place = q.place ∙ rw p.place (after_sum at s t);
        kept = q.kept ∙ p.kept;
        stored = λ h. (
            let b = q.stored (rw p.kept h) in
            let a = p.stored (omega arith) in
            (rw (length-append s t) (omega arith), b.1 ∙ rw (a.1, a.0) (sym (sets_append s t d at)))
            );
      }
