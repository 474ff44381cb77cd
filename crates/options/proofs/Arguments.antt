-- Arguments read one after the other, all of them names so far. Assumes nothing.
use Rattle.std.proofs.Common.{ℕ, ◌+◌, ◌-◌, ◌≤◌, ◌<◌, ◌≡◌, sym, ap, ◌∙◌, List, [], ◌∷◌, ◌++◌, append-nil, append_assoc, add-one, arith, length, length-append, Option, Some, None}
use Rattle.options.specs.declared.Word.{Word}
use Rattle.options.specs.Options.{here_or, first_option, Meant, Requested}

-- what is left gives what the whole gives
pub record Names (at : ℕ) : Type 0 where
  pub words : List (List ℕ)
  pub passes : (rest : List (List ℕ)) → first_option 1 (words ++ rest) ≡ first_option at rest
  pub many : length words + 1 ≡ at

module _ {at : ℕ} (names : Names at) where
  pub all_names : {count : ℕ} → at - 1 ≤ count - 1 → count ≤ at → Requested (record { first = None; count = count })
  unfolding first_option
  all_names low high =
      record {
        words = names.words;
        first = sym (names.passes []) ∙ ap (first_option 1) (append-nil names.words);
        many = omega (arith, names.many);
      }

  module _ {r : Option Word} (said : Meant r) where
    length_more : length (names.words ++ (said.word ∷ [])) ≡ length names.words + 1
    length_more = length-append names.words (said.word ∷ [])

    passes_on : (rest : List (List ℕ)) → first_option 1 ((names.words ++ (said.word ∷ [])) ++ rest) ≡ here_or at r (first_option (at + 1) rest)
    unfolding first_option
    passes_on rest =
        ap (first_option 1) (append_assoc names.words (said.word ∷ []) rest) ∙ names.passes (said.word ∷ rest)
        ∙ rw (sym said.meant, add-one at)

    pub one_more : r ≡ None → Names (at + 1)
    one_more e =
        record {
          words = names.words ++ (said.word ∷ []);
          passes = λ rest. passes_on rest ∙ ap (λ (x : Option Word). here_or at x (first_option (at + 1) rest)) e;
          many = omega (arith, names.many, length_more);
        }

    pub an_option : {w : Word} {count : ℕ} → r ≡ Some w → at < count → Requested (record { first = Some (at, w); count = count })
    an_option e within =
        record {
          words = names.words ++ (said.word ∷ []);
          first = sym (ap (first_option 1) (sym (append-nil (names.words ++ (said.word ∷ [])))) ∙ passes_on [] ∙ ap (λ (x : Option Word). here_or at x (first_option (at + 1) [])) e);
          many = (omega (arith, names.many, length_more), within);
        }
