-- "Only a stream's own answers read its limit" (request #107). That is part of the claim about lists of arrivals by its form: a stream's answers
-- and its record are those of `replay`, which starts from the stream's own record and is fed its own accepted frames; and which are accepted,
-- and the number of one that is not, goes by the start table (`number_with`). Here both are said by themselves.
use Rattle.std.specs.Prelude.{ℕ, ◌≡◌, Bool, List, map}
use Rattle.std.proofs.Math.Option.{some}
use Rattle.std.proofs.Math.ListN.{get_elem?}
use Rattle.stream.specs.declared.Record.{Record}
use Rattle.stream.specs.Records.{no_counts, admitted_within}
use Rattle.table.specs.Table.{Table, number_with, admit, remove}
use Rattle.arrivals.specs.Arrivals.{Arrival, run, of_stream, StreamRecord, answers_to, Counted}

-- which records are in use, and the ids that they hold
abbrev pub ids_in : Table → List (Bool × ℕ)
ids_in t = map (λ (r : Record). (r.in_use, r.id)) t

abbrev pub limits_in : Table → List ℕ
limits_in t = map (λ (r : Record). r.limit) t

pub record OwnLimits : Type 0 where
  -- the number of a received frame, of an admission and of a removal goes by the ids: it reads no limit that a table holds
  pub received : (t u : Table) → ids_in t ≡ ids_in u → (frame : List ℕ) → number_with t frame ≡ number_with u frame
  pub admission : (t u : Table) → ids_in t ≡ ids_in u → (limit id : ℕ) → (admit limit t id).0 ≡ (admit limit u id).0
  pub removal : (t u : Table) → ids_in t ≡ ids_in u → (id : ℕ) → (remove t id).0 ≡ (remove u id).0
  -- two tables with the same ids, in which stream k has the same record: whatever limits the other records hold, the answers to the stream's
  -- arrivals are the same, and so is its record at the end
  pub answers : (t u : Table) → ids_in t ≡ ids_in u → (k i : ℕ) (r : Record) → StreamRecord t k i r → StreamRecord u k i r → (l : List Arrival)
      → answers_to (of_stream t k) l (run t l).0 ≡ answers_to (of_stream u k) l (run u l).0
  pub record_after : (t u : Table) → ids_in t ≡ ids_in u → (k i : ℕ) (r : Record) → StreamRecord t k i r → StreamRecord u k i r → (l : List Arrival)
      → get_elem? (run t l).1 i ≡ get_elem? (run u l).1 i
  -- no arrival changes a limit
  pub kept : (t : Table) (l : List Arrival) → limits_in (run t l).1 ≡ limits_in t
  -- what the claim says of counts since admission with the largest limit is so with any limit
  pub since_admission : (t : Table) (l : List Arrival) (k i limit : ℕ) (e : Record) → StreamRecord t k i (admitted_within k limit)
      → get_elem? (run t l).1 i ≡ some e → Counted no_counts e (answers_to (of_stream t k) l (run t l).0)
