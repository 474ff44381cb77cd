-- The whole listing of a capture (document 01, Capture and listing).
use Rattle.std.specs.Prelude.{◌≡◌, ℕ, ◌^◌, ◌<◌, Bool, true, false, cond, List, [], ◌∷◌, ◌++◌, length, replicate}
use Rattle.std.proofs.Math.Option.{Option, none, some}
use Rattle.refusal.specs.Refusals.{if_accepted}
use Rattle.capture.specs.Records.{Held, damaged, arrival, admission, frame_in}
use Rattle.capture.specs.Walk.{walk}
use Rattle.stream.specs.Records.{unused}
use Rattle.stream.specs.Answers.{Answer}
use Rattle.table.specs.Table.{Table, admit, receive}
use Rattle.lines.specs.Lines.{start_line, end_line, Line, admitted, refused, frame, next_number, line_text}

-- ---- One record

-- what is said of a record: its line, and the stream that it is about, none where a frame or the record itself is refused
pub record Said : Type 0 where
  pub stream : Option ℕ
  pub line : Line

-- an admission by the number answered
abbrev pub admission_line : ℕ → Line
admission_line number = if_accepted number admitted (refused number)

-- a received frame by its answer
abbrev pub frame_line : Answer → Line
frame_line a = if_accepted a.number (frame a.fields.header.stream.tag a.flags a.timing) (refused a.number)

abbrev pub frame_stream : Answer → Option ℕ
frame_stream a = if_accepted a.number (some a.fields.header.stream.id) none

abbrev pub said_of : Answer → Said
said_of a = record { stream = frame_stream a; line = frame_line a }

-- what is said of a record with these bytes, by what it holds, and the table afterwards
abbrev pub step : Table → List ℕ → Held → Said × Table
step t bytes (damaged number) = (record { stream = none; line = refused number }, t)
step t bytes (arrival L) =
    let received = receive t (frame_in bytes) L in
    (said_of received.0, received.1)
step t bytes (admission id limit) = (record { stream = some id; line = admission_line (admit limit t id).0 }, (admit limit t id).1)

-- ---- All of them

-- a capture is read with a table of 64 records, all unused at first: what is said of each record, and the table at the end
unfoldable pub visit : List ℕ → List Said × Table
visit capture = walk step capture (replicate 64 unused)

-- a line, where lines are shown
abbrev pub if_shown : Bool → List ℕ → List ℕ
if_shown shown line = cond shown line []

-- each record has one line and is counted: the text of their lines, numbered on from n, where lines are shown, and the number of the last
unfoldable pub lines_after : Bool → ℕ → List Said → List ℕ
lines_after shown n [] = []
lines_after shown n (x ∷ xs) = if_shown shown (line_text (next_number n) x.line) ++ lines_after shown (next_number n) xs

unfoldable pub number_after : ℕ → List Said → ℕ
number_after n [] = n
number_after n (x ∷ xs) = number_after (next_number n) xs

-- the number of the last is how many there are, while 64 bits hold it
abbrev pub Numbered : Type 0
Numbered = (said : List Said) → length said < 2 ^ 64 → number_after 0 said ≡ length said

unfoldable pub listing : List ℕ → List ℕ
listing capture = let said = (visit capture).0 in start_line ++ (lines_after true 0 said ++ end_line (number_after 0 said))

-- where no line is shown there is no text
abbrev pub NothingShown : Type 0
NothingShown = (n : ℕ) (said : List Said) → lines_after false n said ≡ []
