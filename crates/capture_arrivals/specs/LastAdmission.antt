-- The frames of a capture as a list of arrivals (request #109): "After a capture's last obeyed admission demand 3 holds for the list of its
-- frames that follow; other records between them change nothing."
use Rattle.std.specs.Prelude.{ℕ, suc, ◌≡◌, Bool, true, false, cond, ◌||◌, List, [], ◌∷◌, ◌++◌, map, take, drop, replicate}
use Rattle.std.proofs.Math.Option.{some}
use Rattle.std.proofs.Math.ListN.{get_elem?}
use Rattle.capture.specs.Records.{Held, damaged, arrival, admission, frame_in}
use Rattle.capture.specs.Walk.{CaptureRecord, records_in, steps}
use Rattle.stream.specs.Records.{unused}
use Rattle.stream.specs.Answers.{Answer}
use Rattle.table.specs.Table.{Table, receive}
use Rattle.arrivals.specs.Arrivals.{Arrival, run, Claim}
use Rattle.lines.specs.Lines.{Line, admitted, refused, frame}
use Rattle.listing.specs.Listing.{Said, said_of, step, visit}

-- ---- The last obeyed admission: the last record that is listed as admitted

abbrev pub is_admitted : Line → Bool
is_admitted admitted = true
is_admitted (refused number) = false
is_admitted (frame tag flags timing) = false

unfoldable pub some_admitted : List Said → Bool
some_admitted [] = false
some_admitted (x ∷ xs) = is_admitted x.line || some_admitted xs

-- how many records there are up to it, itself included; 0 where none is listed so
unfoldable pub up_to_admission : List Said → ℕ
up_to_admission [] = 0
up_to_admission (x ∷ xs) = cond (some_admitted (x ∷ xs)) (suc (up_to_admission xs)) 0

-- ---- The frames among records

-- a record that holds a frame is one arrival, and any other is none
abbrev pub arrival_by : List ℕ → Held → List Arrival
arrival_by bytes (damaged number) = []
arrival_by bytes (arrival L) = record { frame = frame_in bytes; time = L } ∷ []
arrival_by bytes (admission id limit) = []

abbrev pub arrival_in : CaptureRecord → List Arrival
arrival_in r = arrival_by r.bytes r.held

unfoldable pub arrivals_in : List CaptureRecord → List Arrival
arrivals_in [] = []
arrivals_in (r ∷ rs) = arrival_in r ++ arrivals_in rs

-- their answers: each frame comes to the table that the records before it left, from t on
unfoldable pub answers_in : Table → List CaptureRecord → List Answer
answers_in t [] = []
answers_in t (r ∷ rs) = map (λ (a : Arrival). (receive t a.frame a.time).0) (arrival_in r) ++ answers_in (step t r.bytes r.held).1 rs

-- of what the listing says of the records, that of their frames
unfoldable pub said_in : List CaptureRecord → List Said → List Said
said_in [] xs = []
said_in (r ∷ rs) [] = []
said_in (r ∷ rs) (x ∷ xs) = map (λ (a : Arrival). x) (arrival_in r) ++ said_in rs xs

-- ---- The claim

-- from the table t on come these records, of which the listing says this, and they leave the table u
pub record FramesAsArrivals (t : Table) (rs : List CaptureRecord) (said : List Said) (u : Table) : Type 0 where
  -- demand 3 holds for the run of any list of arrivals from t on
  pub demand_3 : Claim t (run t)
  -- the answers to the frames are those of the run of their list, in every part, and the listing's lines are made of them
  pub answers : answers_in t rs ≡ (run t (arrivals_in rs)).0
  pub lines : said_in rs said ≡ map said_of (run t (arrivals_in rs)).0
  -- the table at the end is that run's
  pub table : u ≡ (run t (arrivals_in rs)).1
  -- and a record that holds no frame changes nothing
  pub others : (i : ℕ) (r : CaptureRecord) → get_elem? rs i ≡ some r → arrival_in r ≡ [] → (steps step t (take (suc i) rs)).1 ≡ (steps step t (take i rs)).1

-- the table that the first n records of a capture leave
abbrev pub table_after : ℕ → List ℕ → Table
table_after n capture = (steps step (replicate 64 unused) (take n (records_in capture))).1

pub record AfterLastAdmission : Type 0 where
  -- a visit goes through the records one after the other
  pub one_by_one : (capture : List ℕ) → visit capture ≡ steps step (replicate 64 unused) (records_in capture)
  pub frames_as_arrivals : (capture : List ℕ)
      → (let said = (visit capture).0 in
      let n = up_to_admission said in
      FramesAsArrivals (table_after n capture) (drop n (records_in capture)) (drop n said) (visit capture).1)
