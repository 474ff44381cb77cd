-- What the first check that applies answers, and what `?` makes of it. Assumes nothing.
use Prim.Native.Nat.{ℕ, zero, suc, ◌<◌}
use mathlib.Core.Path.{◌≡◌, refl}
use mathlib.Core.Bool.{Bool, true, false, not, ◌&&◌, cond}
use mathlib.Core.List.{List, [], ◌∷◌, ◌++◌}
use native.Mathlib.Omega.{arith}
use borrow.Author.Tests.{eq-eqb}
use lib.Dec.{T, eqb, ltb, ltb→lt}
use mir.Facts.{and_yes}
use Rattle.refusal.specs.declared.Refusal.{Refusal}
use Rattle.refusal.specs.declared.Refusal.TheVariants.{FrameTooShort, FrameTooLong, WrongTpid, CfiSet, WrongEthertype, ControlAvtpdu, WrongSubtype, WrongVersion, NoStreamId, WrongAddress, DataBeyondFrame, WrongTag, NoCipHeader, PartialBlock, NotAdmitted, WrongQpc, TableTooLong, AlreadyAdmitted, TableFull, NothingToRemove, LimitTooLarge, WriteWrongAddress, WriteFieldTooWide, WritePartialBlock, WritePayloadTooLong, WriteOutputTooShort, RecordCut, RecordLength, RecordKind, RecordRetired, CycleTooLarge, OffsetInCycleTooLarge, CycleSecondsTooLarge}
use Rattle.std.specs.Prelude.{Result, Ok, Err}
use Rattle.std.specs.Result.{IsErrAnd}
use Rattle.std.proofs.lemmas.Result.{err_from_is_err_and}
use Rattle.refusal.specs.Refusals.{verdict_number, number_of, Check, ◌answers◌, first_of}

-- no refusal has the number 0
pub positive : (r : Refusal) → (k : ℕ) × (number_of r ≡ suc k)
positive FrameTooShort = (0, refl)
positive FrameTooLong = (1, refl)
positive WrongTpid = (2, refl)
positive CfiSet = (3, refl)
positive WrongEthertype = (4, refl)
positive ControlAvtpdu = (5, refl)
positive WrongSubtype = (6, refl)
positive WrongVersion = (7, refl)
positive NoStreamId = (8, refl)
positive WrongAddress = (9, refl)
positive DataBeyondFrame = (10, refl)
positive WrongTag = (11, refl)
positive NoCipHeader = (12, refl)
positive PartialBlock = (13, refl)
positive NotAdmitted = (14, refl)
positive WrongQpc = (15, refl)
positive TableTooLong = (19, refl)
positive AlreadyAdmitted = (20, refl)
positive TableFull = (21, refl)
positive NothingToRemove = (22, refl)
positive LimitTooLarge = (23, refl)
positive WriteWrongAddress = (30, refl)
positive WriteFieldTooWide = (31, refl)
positive WritePartialBlock = (32, refl)
positive WritePayloadTooLong = (33, refl)
positive WriteOutputTooShort = (34, refl)
positive RecordCut = (40, refl)
positive RecordLength = (41, refl)
positive RecordKind = (42, refl)
positive RecordRetired = (43, refl)
positive CycleTooLarge = (60, refl)
positive OffsetInCycleTooLarge = (61, refl)
positive CycleSecondsTooLarge = (62, refl)

-- a check that asks whether two numbers differ does not apply to equal ones
pub eq_not : (a b : ℕ) → a ≡ b → not (eqb a b) ≡ false
eq_not a b h = rw (eq-eqb a b h) refl

-- ---- where no check applies

-- no check answers 0
abbrev pub numbered : List Check → Bool
numbered [] = true
numbered ((b answers n) ∷ rest) = ltb 0 n && numbered rest

-- no condition holds
abbrev pub Clear : List Check → Type 0
Clear [] = Unit {0}
Clear ((b answers n) ∷ rest) = (b ≡ false) × Clear rest

pub clear : (xs : List Check) → T (numbered xs) → first_of xs ≡ 0 → Clear xs
unfolding first_of
clear [] h e = tt
clear ((true answers n) ∷ xs) h e = let k = ltb→lt 0 n (and_yes (ltb 0 n) (numbered xs) h).0 in absurd (omega arith)
clear ((false answers n) ∷ xs) h e = (refl, clear xs (and_yes (ltb 0 n) (numbered xs) h).1 e)

pub none : (xs : List Check) → Clear xs → first_of xs ≡ 0
unfolding first_of
none [] h = refl
none ((b answers n) ∷ xs) h = rw h.0 (none xs h.1)

-- ---- from group to group

-- a number, or where it is 0 the next one
unfoldable pub or_else : ℕ → ℕ → ℕ
or_else zero m = m
or_else (suc n) m = suc n

or_pick : (b : Bool) (n m k : ℕ) → 0 < n → cond b n (or_else m k) ≡ or_else (cond b n m) k
unfolding or_else
or_pick true zero m k h = absurd (omega arith)
or_pick true (suc n) m k h = refl
or_pick false n m k h = refl

pub then : (xs ys : List Check) → T (numbered xs) → first_of (xs ++ ys) ≡ or_else (first_of xs) (first_of ys)
unfolding first_of or_else
then [] ys h = refl
then ((b answers n) ∷ xs) ys h =
    let p = and_yes (ltb 0 n) (numbered xs) h in
    rw (then xs ys p.1) (or_pick b n (first_of xs) (first_of ys) (ltb→lt 0 n p.0))

pub stop : (r : Refusal) (v w : ℕ) → number_of r ≡ v → number_of r ≡ or_else v w
unfolding or_else
stop r v w e = let p = positive r in rw (← e, p.1)

pub go : (v w y : ℕ) → 0 ≡ v → y ≡ w → y ≡ or_else v w
unfolding or_else
go v w y e q = rw (← e) q

pub both : (v w : ℕ) → or_else v w ≡ 0 → (v ≡ 0) × (w ≡ 0)
unfolding or_else
both zero w e = (refl, e)
both (suc v) w e = absurd (omega arith)

-- ---- what `?` passes on

-- the refusal itself
pub passed_on : {A : Type 0} (x : Result A Refusal) (r : Refusal) → IsErrAnd x (λ y. y ≡ r) → x ≡ Err r
passed_on x r h = let p = err_from_is_err_and x h in rw (p.1, p.2) refl
