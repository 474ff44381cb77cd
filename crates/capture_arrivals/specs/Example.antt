-- Worked captures: which admission is the last that is obeyed, and which frames come behind it.
use Rattle.std.specs.Prelude.{ℕ, ◌≡◌, List, [], ◌∷◌, map, length, take, drop}
use Rattle.capture.specs.Walk.{records_in}
use Rattle.stream.specs.Answers.{Answer}
use Rattle.arrivals.specs.Arrivals.{run}
use Rattle.listing.specs.Listing.{visit}
use Rattle.listing.specs.Example.{example_capture, limit_capture, retired_capture}
use Rattle.capture_arrivals.specs.LastAdmission.{up_to_admission, arrivals_in, table_after}

-- how many records of a capture there are up to its last obeyed admission
abbrev last_admission : List ℕ → ℕ
last_admission capture = up_to_admission (visit capture).0

-- the number answered to a frame, and its sequence number
abbrev answered : Answer → ℕ × ℕ
answered a = (a.number, a.fields.header.avtp.sequence)

pub record WorkedCaptures : Type 0 where
  -- request #109's: of eleven records the fifth, though an admission comes later; frames are the third, the sixth and the last
  pub records : length (records_in retired_capture) ≡ 11
  pub fifth : last_admission retired_capture ≡ 5
  pub frames : map answered (run (table_after 5 retired_capture) (arrivals_in (drop 5 (records_in retired_capture)))).0 ≡ (0, 5) ∷ (0, 9) ∷ []
  -- kind 5; document 01's first record by itself; and none
  pub limits : last_admission limit_capture ≡ 1
  pub first_record : last_admission (take 12 example_capture) ≡ 1
  pub none : last_admission [] ≡ 0
  -- a frame that is cut is no arrival
  pub cut : arrivals_in (records_in (take 70 example_capture)) ≡ []
