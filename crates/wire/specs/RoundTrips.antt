-- Rows and their fields, and numbers and their bytes, undo each other; the test of a row is the fact.
use Rattle.std.specs.Prelude.{ℕ, ◌*◌, ◌^◌, ◌<◌, ◌≡◌, true, List, length}
use Rattle.wire.specs.Bits.{width, pack, unpack, Fit, fits}
use Rattle.wire.specs.Numbers.{number, bytes, Bytes}

pub record RoundTrips : Type 0 where
  pub tested : (ws vs : List ℕ) → fits ws vs ≡ true → Fit ws vs
  pub fitting : (ws vs : List ℕ) → Fit ws vs → fits ws vs ≡ true
  pub fields_of_row : (ws vs : List ℕ) → Fit ws vs → unpack ws (pack ws vs) ≡ vs
  pub row_of_fields : (ws : List ℕ) (n : ℕ) → n < 2 ^ width ws → pack ws (unpack ws n) ≡ n
  pub number_of_bytes : (k n : ℕ) → n < 2 ^ (8 * k) → number (bytes k n) ≡ n
  pub bytes_of_number : (bs : List ℕ) → Bytes bs → bytes (length bs) (number bs) ≡ bs
