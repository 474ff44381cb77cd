-- The offset that an accepted frame is answered is in range. Assumes nothing.
use Prim.Native.Nat.{ℕ}
use mathlib.Core.Bool.{Bool, true, false, cond}
use mathlib.Core.List.{List}
use lib.Dec.{ltb}
use lib.IntN.{ℤ, pos, negsuc, ◌+ℤ◌}
use lib.Signed.{le_z_yes}
use Rattle.frame.specs.Layout.{fields_of}
use Rattle.frame.specs.Reading.{payload_of}
use Rattle.presentation.specs.declared.Kind.TheVariants.{Outside, Unclear}
use Rattle.presentation.specs.declared.Stamp.{Stamp}
use Rattle.presentation.specs.declared.Stamp.TheVariants.{Absent, Short, Present}
use Rattle.presentation.specs.Offset.{offset}
use Rattle.presentation.specs.Presentation.{stamp_of, untimed, side, timed, is_half_wrap, timing_within, timing_of, presentation_within}
use Rattle.presentation.proofs.Offset.{one_offset}
use Rattle.stream.specs.declared.Record.{Record}
use Rattle.stream.specs.Step.{stepped}
use Rattle.stream.specs.Answers.{step_of, answer_of}
use Rattle.report.proofs.Distances.{InRange}

timed_range : (limit : ℕ) (d : ℤ) → InRange d → (sum : ℤ) → InRange (timed limit d sum).offset
unfolding timed
timed_range limit d r (negsuc n) = r
timed_range limit d r (pos n) = go (ltb 18_446_744_073_709_551_615 n)
  where
    go : (b : Bool) → InRange (cond b (untimed Outside d) (record { kind = side limit d; offset = d; time = n })).offset
    go true = r
    go false = r

away_range : (limit : ℕ) (d : ℤ) → InRange d → (sum : ℤ) (half : Bool) → InRange (cond half (untimed Unclear d) (timed limit d sum)).offset
away_range limit d r sum true = r
away_range limit d r sum false = timed_range limit d r sum

stamp_range : (limit L : ℕ) (stamp : Stamp) → InRange (timing_of limit L stamp).offset
unfolding timing_within
stamp_range limit L Absent = record { low = le_z_yes tt; high = le_z_yes tt }
stamp_range limit L Short = record { low = le_z_yes tt; high = le_z_yes tt }
stamp_range limit L (Present T) =
    let is = (one_offset L T).is in
    away_range limit (offset L T) (record { low = is.low; high = is.high }) (pos L +ℤ offset L T) (is_half_wrap (offset L T))

pub answer_range : (r : Record) (frame : List ℕ) (L : ℕ) → InRange (answer_of r frame L).timing.offset
unfolding answer_of step_of stepped presentation_within
answer_range r frame L = stamp_range r.limit L (stamp_of (fields_of frame) (payload_of frame))
