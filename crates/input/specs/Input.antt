-- A buffer that holds what was read and is not used yet, between two places.
use Rattle.std.specs.Prelude.{ℕ, ◌-◌, ◌≤◌, ◌<◌, ◌≡◌, Bool, true, false, cond, List, ltb, Result, Ok, Err, length, take}
use Rattle.wire.specs.Numbers.{part}
use Rattle.input.specs.declared.Source.{Source}
use Rattle.input.specs.declared.Source.TheVariants.{Open, Ended, Failed}
use Rattle.input.specs.declared.Filled.{Filled}

-- ---- What became of an input

-- by what a read answered: how many bytes came, or why it failed
abbrev pub source_by : {E : Type 0} → Result ℕ E → Source
source_by (Ok n) = cond (ltb 0 n) Open Ended
source_by (Err e) = Failed

-- may more come?
abbrev pub is_open : Source → Bool
is_open Open = true
is_open Ended = false
is_open Failed = false

abbrev pub has_ended : Source → Bool
has_ended Open = false
has_ended Ended = true
has_ended Failed = false

-- ---- A buffer

-- the bytes between two places, as far as the buffer has them
abbrev pub between : ℕ → ℕ → List ℕ → List ℕ
between from have d = part from (have - from) d

-- more is read into the buffer d behind these bytes, which stand at its front afterwards: d' is the buffer then, and r what is answered.
-- What comes is the system's to say: something where more may come, and nothing elsewhere
pub record ReadBehind (left d d' : List ℕ) (r : Filled) : Type 0 where
  pub kept : take (length left) d' ≡ left
  pub size : length d' ≡ length d
  pub within : r.end ≤ length d
  pub more : is_open r.source ≡ true → length left < r.end
  pub shut : is_open r.source ≡ false → r.end ≡ length left
  -- a buffer with no room left is not taken for the end
  pub ended : has_ended r.source ≡ true → length left < length d

-- the first bytes are read into the buffer d: d' is the buffer afterwards. There are at least as many as are wanted where more may come,
-- and no more than that elsewhere
pub record First (wanted : ℕ) (d d' : List ℕ) (r : Filled) : Type 0 where
  pub size : length d' ≡ length d
  pub within : r.end ≤ length d
  pub more : is_open r.source ≡ true → wanted ≤ r.end
  pub shut : is_open r.source ≡ false → r.end ≤ wanted
