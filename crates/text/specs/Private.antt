-- What the private calls answer. No public contract speaks of it.
use Rattle.std.specs.Prelude.{ℕ, ◌+◌, ◌*◌, ◌/◌, ◌%◌, List, [], ◌∷◌}

-- the four digits of a number below ten thousand, also where the first are zeros, as one number: the first digit is its lowest byte
abbrev pub digit_bytes : ℕ → ℕ
digit_bytes n = 48 + n / 1000 + 256 * (48 + n / 100 % 10) + 65536 * (48 + n / 10 % 10) + 16777216 * (48 + n % 10)

-- the four lowest bytes of a number, the lowest first
abbrev pub low_bytes : ℕ → List ℕ
low_bytes n = n % 256 ∷ n / 256 % 256 ∷ n / 65536 % 256 ∷ n / 16777216 % 256 ∷ []
