-- The lines of records one behind another. Assumes nothing.
use Rattle.std.proofs.Common.{◌≡◌, ℕ, ◌+◌, ◌^◌, ◌<◌, Bool, List, [], ◌∷◌, ◌++◌, length, sym, refl, ap, ◌∙◌, append_assoc, append-nil, arith}
use Rattle.lines.specs.Lines.{next_number, line_text}
use Rattle.listing.specs.Listing.{Said, if_shown, lines_after, number_after, Numbered, NothingShown}

pub lines_append : (shown : Bool) (n : ℕ) (xs ys : List Said) → lines_after shown n (xs ++ ys) ≡ lines_after shown n xs ++ lines_after shown (number_after n xs) ys
unfolding lines_after number_after
lines_append shown n [] ys = refl
lines_append shown n (x ∷ xs) ys =
    let line = if_shown shown (line_text (next_number n) x.line) in
    ap (λ (l : List ℕ). line ++ l) (lines_append shown (next_number n) xs ys) ∙ sym (append_assoc line _ _)

pub number_append : (n : ℕ) (xs ys : List Said) → number_after n (xs ++ ys) ≡ number_after (number_after n xs) ys
unfolding number_after
number_append n [] ys = refl
number_append n (x ∷ xs) ys = number_append (next_number n) xs ys

-- one more
module _ (n : ℕ) (xs : List Said) (x : Said) where
  pub lines_more : (shown : Bool) → lines_after shown n (xs ++ (x ∷ [])) ≡ lines_after shown n xs ++ if_shown shown (line_text (next_number (number_after n xs)) x.line)
  unfolding lines_after
  lines_more shown = lines_append shown n xs (x ∷ []) ∙ ap (λ (l : List ℕ). lines_after shown n xs ++ l) (append-nil _)

  pub number_more : number_after n (xs ++ (x ∷ [])) ≡ next_number (number_after n xs)
  unfolding number_after
  number_more = number_append n xs (x ∷ [])

-- while 64 bits hold it, the number of the last is how many there are
number_sum : (n : ℕ) (xs : List Said) → n + length xs < 2 ^ 64 → number_after n xs ≡ n + length xs
unfolding number_after
number_sum n [] h = omega arith
number_sum n (x ∷ xs) h =
    let e : next_number n ≡ n + 1 = omega arith in
    rw e (number_sum (n + 1) xs (omega arith) ∙ omega arith)

pub numbered : Numbered
numbered said h = number_sum 0 said (omega (arith, h)) ∙ omega arith

pub nothing_shown : NothingShown
unfolding lines_after
nothing_shown n [] = refl
nothing_shown n (x ∷ xs) = nothing_shown (next_number n) xs
