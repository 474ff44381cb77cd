-- "In an old capture it is listed as refused and the stream stays admitted" (request #109): whatever records come, a stream that is admitted stays
-- so, in its place and with its limit.
use Rattle.std.specs.Prelude.{ℕ, ◌≤◌, ◌≡◌, true, List}
use Rattle.std.proofs.Math.Option.{some}
use Rattle.std.proofs.Math.ListN.{get_elem?}
use Rattle.stream.specs.declared.Record.{Record}
use Rattle.table.specs.Table.{Table}
use Rattle.capture_arrivals.specs.LastAdmission.{table_after}

-- at place i of the table stands a record of the stream whose record was r
pub record StandsAt (t : Table) (i : ℕ) (r : Record) : Type 0 where
  pub now : Record
  pub there : get_elem? t i ≡ some now
  pub in_use : now.in_use ≡ true
  pub id : now.id ≡ r.id
  pub limit : now.limit ≡ r.limit

-- after m records of a capture, and after as many or more
abbrev pub StaysAdmitted : Type 0
StaysAdmitted = (capture : List ℕ) (m n i : ℕ) (r : Record) → m ≤ n → get_elem? (table_after m capture) i ≡ some r → r.in_use ≡ true
    → StandsAt (table_after n capture) i r
