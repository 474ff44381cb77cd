-- A table stays as long as it was, whatever a record holds. Assumes nothing.
use Rattle.std.proofs.Common.{◌≡◌, ℕ, List, length, refl}
use Rattle.capture.specs.Records.{Held, damaged, arrival, admission, frame_in}
use Rattle.table.specs.Table.{Table}
use Rattle.table.proofs.Lengths.{length_admit, length_receive}
use Rattle.listing.specs.Listing.{step}

pub length_after : (t : Table) (bytes : List ℕ) (h : Held) → length (step t bytes h).1 ≡ length t
length_after t bytes (damaged number) = refl
length_after t bytes (arrival L) = length_receive t (frame_in bytes) L
length_after t bytes (admission id limit) = length_admit limit t id
