-- The visit report of a capture (requests #104, #106 and #107), made of the listing's own lines, for the streams that the table holds at the end.
use Rattle.std.specs.Prelude.{ℕ, suc, ◌-◌, min, Bool, false, cond, List, [], ◌∷◌, ◌++◌, eqb, ℤ, ◌+ℤ◌, length, take}
use Rattle.std.proofs.Math.Option.{Option, none, some}
use Rattle.std.specs.Int.Signed.{lt_z}
use Rattle.presentation.specs.declared.Kind.{Kind}
use Rattle.presentation.specs.declared.Kind.TheVariants.{None, Cut, Outside, Late, Ahead, Unclear, Far}
use Rattle.presentation.specs.declared.Timing.{Timing}
use Rattle.tally.specs.declared.Kinds.{Kinds}
use Rattle.tally.specs.Tally.{same_kind, is_timed, most_summed}
use Rattle.stream.specs.declared.Flags.{Flags}
use Rattle.stream.specs.declared.Counts.{Counts}
use Rattle.table.specs.Table.{Table}
use Rattle.lines.specs.Lines.{Line, admitted, refused, frame}
use Rattle.listing.specs.Listing.{Said, visit}
use Rattle.report_lines.specs.Columns.{summed_text, none_text, stream_line}

-- ---- A stream's accepted frames since its last admission, by the listing's lines

-- an accepted frame by what its line is made from; of the timing the line shows the kind and the offset
pub record ListedFrame : Type 0 where
  pub flags : Flags
  pub timing : Timing

-- the line is about the stream
abbrev pub is_about : ℕ → Option ℕ → Bool
is_about id none = false
is_about id (some stream) = eqb stream id

-- admission starts anew (in a capture a stream is admitted once at most, request #109), and what is refused changes nothing; a line with
-- `dbc=none` raises no block flag
abbrev pub frames_by : Line → List ListedFrame → List ListedFrame
frames_by admitted frames = []
frames_by (refused number) frames = frames
frames_by (frame tag flags timing) frames = frames ++ (record { flags = flags; timing = timing } ∷ [])

unfoldable pub since : ℕ → List ListedFrame → List Said → List ListedFrame
since id frames [] = frames
since id frames (x ∷ xs) = since id (cond (is_about id x.stream) (frames_by x.line frames) frames) xs

-- ---- Counts

unfoldable pub how_many : (ListedFrame → Bool) → List ListedFrame → ℕ
how_many p [] = 0
how_many p (x ∷ xs) = cond (p x) (suc (how_many p xs)) (how_many p xs)

-- a count of accepted frames or of a flag stays at 4,294,967,295 once there, and one of a kind, which is 64 bits wide, at
-- 18,446,744,073,709,551,615, as does that of the frames which are not summed
abbrev pub capped32 : ℕ → ℕ
capped32 n = min 4_294_967_295 n

abbrev pub capped64 : ℕ → ℕ
capped64 n = min 18_446_744_073_709_551_615 n

unfoldable pub counts_of : List ListedFrame → Counts
counts_of xs =
    record {
      frames = capped32 (length xs);
      sequence_breaks = capped32 (how_many (λ x. x.flags.sequence) xs);
      block_breaks = capped32 (how_many (λ x. x.flags.block) xs);
      format_changes = capped32 (how_many (λ x. x.flags.format) xs);
      mr_changes = capped32 (how_many (λ x. x.flags.mr) xs);
    }

-- ---- Kinds

abbrev pub is_kind : Kind → ListedFrame → Bool
is_kind kind x = same_kind x.timing.kind kind

unfoldable pub kinds_of : List ListedFrame → Kinds
kinds_of xs =
    record {
      none = capped64 (how_many (is_kind None) xs);
      cut = capped64 (how_many (is_kind Cut) xs);
      outside = capped64 (how_many (is_kind Outside) xs);
      late = capped64 (how_many (is_kind Late) xs);
      ahead = capped64 (how_many (is_kind Ahead) xs);
      unclear = capped64 (how_many (is_kind Unclear) xs);
      far = capped64 (how_many (is_kind Far) xs);
    }

-- ---- Smallest, largest, sum and mean

-- the offsets of those ahead or late, in their order
unfoldable pub offsets : List ListedFrame → List ℤ
offsets [] = []
offsets (x ∷ xs) = cond (is_timed x.timing.kind) (x.timing.offset ∷ offsets xs) (offsets xs)

abbrev pub lesser : ℤ → ℤ → ℤ
lesser a b = cond (lt_z b a) b a

abbrev pub greater : ℤ → ℤ → ℤ
greater a b = cond (lt_z a b) b a

-- from the left: what has come of d and the numbers before, with the next
unfoldable pub fold : (ℤ → ℤ → ℤ) → ℤ → List ℤ → ℤ
fold f d [] = d
fold f d (e ∷ es) = fold f (f d e) es

unfoldable pub four_text : List ℤ → List ℕ
four_text [] = none_text
four_text (d ∷ ds) = summed_text (fold lesser d ds) (fold greater d ds) (fold ◌+ℤ◌ d ds) (length (d ∷ ds))

-- ---- The report

unfoldable pub stream_text : ℕ → List ListedFrame → List ℕ
stream_text id xs = stream_line id (counts_of xs) (kinds_of xs) (four_text (take most_summed (offsets xs))) (capped64 (length (offsets xs) - most_summed))

-- a line for each stream that is admitted at the end, in table order
unfoldable pub report_of : Table → (ℕ → List ListedFrame) → List ℕ
report_of [] frames = []
report_of (r ∷ t) frames = cond r.in_use (stream_text r.id (frames r.id)) [] ++ report_of t frames

unfoldable pub report : List ℕ → List ℕ
report capture = let visited = visit capture in report_of visited.1 (λ id. since id [] visited.0)
