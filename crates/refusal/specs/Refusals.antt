-- The numbers answered (document 01, Numbers answered; requests #101, #105, #107 and #109).
use Rattle.std.specs.Prelude.{ℕ, zero, suc, Bool, not, cond, List, [], ◌∷◌, eqb, Result, Ok, Err}
use Rattle.refusal.specs.declared.Refusal.{Refusal}
use Rattle.refusal.specs.declared.Refusal.TheVariants.{FrameTooShort, FrameTooLong, WrongTpid, CfiSet, WrongEthertype, ControlAvtpdu, WrongSubtype, WrongVersion, NoStreamId, WrongAddress, DataBeyondFrame, WrongTag, NoCipHeader, PartialBlock, NotAdmitted, WrongQpc, TableTooLong, AlreadyAdmitted, TableFull, NothingToRemove, LimitTooLarge, WriteWrongAddress, WriteFieldTooWide, WritePartialBlock, WritePayloadTooLong, WriteOutputTooShort, RecordCut, RecordLength, RecordKind, RecordRetired, CycleTooLarge, OffsetInCycleTooLarge, CycleSecondsTooLarge}

abbrev pub number_of : Refusal → ℕ
number_of FrameTooShort = 1
number_of FrameTooLong = 2
number_of WrongTpid = 3
number_of CfiSet = 4
number_of WrongEthertype = 5
number_of ControlAvtpdu = 6
number_of WrongSubtype = 7
number_of WrongVersion = 8
number_of NoStreamId = 9
number_of WrongAddress = 10
number_of DataBeyondFrame = 11
number_of WrongTag = 12
number_of NoCipHeader = 13
number_of PartialBlock = 14
number_of NotAdmitted = 15
number_of WrongQpc = 16
number_of TableTooLong = 20
number_of AlreadyAdmitted = 21
number_of TableFull = 22
number_of NothingToRemove = 23
number_of LimitTooLarge = 24
number_of WriteWrongAddress = 31
number_of WriteFieldTooWide = 32
number_of WritePartialBlock = 33
number_of WritePayloadTooLong = 34
number_of WriteOutputTooShort = 35
number_of RecordCut = 41
number_of RecordLength = 42
number_of RecordKind = 43
number_of RecordRetired = 44
number_of CycleTooLarge = 61
number_of OffsetInCycleTooLarge = 62
number_of CycleSecondsTooLarge = 63

-- the number of what some checks answer, whatever is accepted: 0 where none of them applies
abbrev pub verdict_number : {A : Type 0} → Result A Refusal → ℕ
verdict_number (Ok _) = 0
verdict_number (Err r) = number_of r

-- where a number decides: 0, the number of what is accepted, gives the one, and any other gives the other
abbrev pub if_accepted {ℓ} : {A : Type ℓ} → ℕ → A → A → A
if_accepted zero accepted refused = accepted
if_accepted (suc n) accepted refused = refused

-- A check is a condition and the number that it answers where it holds.
infix 68 ◌answers◌
pub data Check : Type 0 where
  ◌answers◌ : Bool → ℕ → Check

-- the number of the first check that applies; 0 where none does
unfoldable pub first_of : List Check → ℕ
first_of [] = 0
first_of ((b answers n) ∷ rest) = cond b n (first_of rest)

-- a condition that many checks ask
abbrev pub differs : ℕ → ℕ → Bool
differs a b = not (eqb a b)
