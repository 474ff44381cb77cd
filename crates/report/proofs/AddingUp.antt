-- The kinds add up to the accepted frames. Assumes nothing.
use Prim.Native.Nat.{ℕ, suc, ◌+◌, ◌<◌}
use mathlib.Core.Path.{◌≡◌, refl}
use mathlib.Core.Bool.{cond}
use mathlib.Core.List.{List, [], ◌∷◌}
use native.Mathlib.Omega.{arith}
use lib.Dec.{eqb}
use lib.ListN.{length}
use Rattle.presentation.specs.declared.Kind.{Kind}
use Rattle.presentation.specs.declared.Kind.TheVariants.{None, Cut, Outside, Late, Ahead, Unclear, Far}
use Rattle.tally.specs.Tally.{kind_number}
use Rattle.report.specs.Report.{ListedFrame, how_many, capped64, is_kind, counts_of, kinds_of}
use Rattle.report.specs.Totals.{KindsAddUp}

-- one frame more, of any kind
one_kind : (kind : Kind) (a b c d e f g n : ℕ) → a + b + c + d + e + f + g ≡ n
    → (let k = kind_number kind in cond (eqb k 0) (suc a) a + cond (eqb k 1) (suc b) b + cond (eqb k 2) (suc c) c + cond (eqb k 3) (suc d) d + cond (eqb k 4) (suc e) e + cond (eqb k 5) (suc f) f + cond (eqb k 6) (suc g) g ≡ suc n)
one_kind None a b c d e f g n h = omega arith
one_kind Cut a b c d e f g n h = omega arith
one_kind Outside a b c d e f g n h = omega arith
one_kind Late a b c d e f g n h = omega arith
one_kind Ahead a b c d e f g n h = omega arith
one_kind Unclear a b c d e f g n h = omega arith
one_kind Far a b c d e f g n h = omega arith

each_one : (xs : List ListedFrame) → how_many (is_kind None) xs + how_many (is_kind Cut) xs + how_many (is_kind Outside) xs + how_many (is_kind Late) xs + how_many (is_kind Ahead) xs + how_many (is_kind Unclear) xs + how_many (is_kind Far) xs ≡ length xs
unfolding how_many
each_one [] = refl
each_one (x ∷ xs) = one_kind x.timing.kind _ _ _ _ _ _ _ _ (each_one xs)

uncapped : (n : ℕ) → n < 4_294_967_295 → capped64 n ≡ n
uncapped n h = omega arith

pub kinds_add_up : KindsAddUp
unfolding counts_of kinds_of
kinds_add_up xs h =
    let e = each_one xs in
    let few : length xs < 4_294_967_295 = omega arith in
    rw (uncapped (how_many (is_kind None) xs) (omega arith), uncapped (how_many (is_kind Cut) xs) (omega arith), uncapped (how_many (is_kind Outside) xs) (omega arith), uncapped (how_many (is_kind Late) xs) (omega arith), uncapped (how_many (is_kind Ahead) xs) (omega arith), uncapped (how_many (is_kind Unclear) xs) (omega arith), uncapped (how_many (is_kind Far) xs) (omega arith)) (omega arith)
