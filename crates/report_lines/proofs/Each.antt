-- The texts of some items put one behind the other, item by item. Assumes nothing.
use Prim.Native.Nat.{ℕ, ◌+◌, ◌*◌, ◌≤◌, ◌<◌}
use mathlib.Core.Path.{◌≡◌, sym, ap, ◌∙◌}
use mathlib.Core.List.{List, [], ◌∷◌, ◌++◌, append-nil, append_assoc}
use Rattle.std.proofs.Math.Nat.{mul-suc}
use native.Mathlib.Numerals.{add-one}
use native.Mathlib.Omega.{arith}
use lib.ListN.{length, take, get_or, length-append}
use lib.Seq.{take-suc, take_all}
use Rattle.stream.specs.declared.Record.{Record}
use Rattle.text.specs.Text.{decimal}
use Rattle.text.specs.InTurn.{PutInTurn}
use Rattle.text.proofs.Puts.{more}
use Rattle.report_lines.specs.Columns.{column, used_text, table_text}
use Rattle.report_lines.specs.Private.{columns}

-- one more item has its text behind those before it
pub columns_end : (ns : List ℕ) (n : ℕ) → columns (ns ++ (n ∷ [])) ≡ columns ns ++ column (decimal n)
unfolding columns
columns_end [] n = append-nil (column (decimal n))
columns_end (m ∷ ns) n = ap (λ (x : List ℕ). column (decimal m) ++ x) (columns_end ns n) ∙ sym (append_assoc (column (decimal m)) (columns ns) (column (decimal n)))

pub table_end : (t : List Record) (r : Record) → table_text (t ++ (r ∷ [])) ≡ table_text t ++ used_text r
unfolding table_text
table_end [] r = append-nil (used_text r)
table_end (s ∷ t) r = ap (λ (x : List ℕ). used_text s ++ x) (table_end t r) ∙ sym (append_assoc (used_text s) (table_text t) (used_text r))

-- `all` is the text of the items, `one` that of each, which has at most so many bytes
module _ {A : Type 0} (all : List A → List ℕ) (one : A → List ℕ) (most : ℕ) where
  -- the texts of the first i are put, and they are short
  pub record Upto (items : List A) (i : ℕ) (d : List ℕ) (at : ℕ) (out : List ℕ) (end : ℕ) : Type 0 where
    pub few : i ≤ length items
    pub put : PutInTurn d at (all (take i items)) out end
    pub short : length (all (take i items)) ≤ most * i

  module _ (all_end : (xs : List A) (x : A) → all (xs ++ (x ∷ [])) ≡ all xs ++ one x) (items : List A) (i : ℕ) {d d₁ : List ℕ} {at m : ℕ} (u : Upto items i d at d₁ m) where
    pub one_more : (x : A) {d₂ : List ℕ} {e : ℕ} → i < length items → PutInTurn d₁ m (one (get_or items i x)) d₂ e → length (one (get_or items i x)) ≤ most → Upto items (i + 1) d at d₂ e
    one_more x h q l =
        let next : all (take (i + 1) items) ≡ all (take i items) ++ one (get_or items i x) = ap all (rw add-one (take-suc items i x h)) ∙ all_end (take i items) (get_or items i x) in
        let sum = length-append (all (take i items)) (one (get_or items i x)) in
        let product : most * (i + 1) ≡ most * i + most = rw add-one (mul-suc most i) in
        record {
          few = omega arith;
          put = rw next (more u.put q);
          short = rw (next, product) (omega (arith, sum, u.short));
        }

  -- where there is none left
  module _ (items : List A) (i : ℕ) {d out : List ℕ} {at end : ℕ} (u : Upto items i d at out end) (whole : length items ≤ i) where
    pub all_put : PutInTurn d at (all items) out end
    all_put = rw (take_all i items whole) at u.put

    pub all_short : length (all items) ≤ most * length items
    all_short =
        let l : length items ≡ i = omega (arith, whole, u.few) in
        rw l (rw (take_all i items whole) at u.short)
