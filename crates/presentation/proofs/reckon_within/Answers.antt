-- `reckon_within` has an answer half a wrap away, and else for each place where L + d can lie: below zero, before L, past the largest time, and
-- from L on, up to the limit and above it.
use Rattle.std.proofs.Common.{refl, arith}
use Rattle.presentation.proofs.Offset.{distance}
use Rattle.presentation.proofs.Reckoning.{unclear, before_zero, late, past_end, far, ahead, reckoned}
use Rattle.presentation.proofs.reckon_within.Goals as goal

pub returns-then-back-eq-HALF_WRAP : goal.returns-then-back-eq-HALF_WRAP
returns-then-back-eq-HALF_WRAP c =
    let s = distance c.args.arrival_time c.args.stamp in
    reckoned c.args.limit c.args.arrival_time c.args.stamp c.untimed.ensures (unclear c.args.limit c.args.arrival_time s (omega arith))

pub returns-in_default : goal.returns-in_default
returns-in_default c =
    let s = distance c.args.arrival_time c.args.stamp in
    reckoned c.args.limit c.args.arrival_time c.args.stamp c.untimed-in_default.ensures
    (before_zero c.args.limit c.args.arrival_time s (omega arith) (omega (arith, c.in_default.ensures)))

pub returns-then-distance-lt-HALF_WRAP : goal.returns-then-distance-lt-HALF_WRAP
returns-then-distance-lt-HALF_WRAP c =
    let s = distance c.args.arrival_time c.args.stamp in
    rw c.in-Some.ensures.1
    (reckoned c.args.limit c.args.arrival_time c.args.stamp refl
    (late c.args.limit c.args.arrival_time s (omega arith) (omega arith) (omega arith) c.in-Some.ensures.0))

pub returns-in_default-checked_add : goal.returns-in_default-checked_add
returns-in_default-checked_add c =
    let s = distance c.args.arrival_time c.args.stamp in
    reckoned c.args.limit c.args.arrival_time c.args.stamp c.untimed-in_default-checked_add.ensures
    (past_end c.args.limit c.args.arrival_time s (omega arith) (omega arith) (omega (arith, c.in_default-checked_add.ensures)))

pub returns-then-on-limit : goal.returns-then-on-limit
returns-then-on-limit c =
    let s = distance c.args.arrival_time c.args.stamp in
    let fits = c.in-Some-checked_add.ensures in
    rw fits.1
    (reckoned c.args.limit c.args.arrival_time c.args.stamp refl
    (far c.args.limit c.args.arrival_time s (omega arith) (omega arith) (omega (arith, fits.0)) (omega arith)))

pub returns-else-on-limit : goal.returns-else-on-limit
returns-else-on-limit c =
    let s = distance c.args.arrival_time c.args.stamp in
    let fits = c.in-Some-checked_add.ensures in
    rw fits.1
    (reckoned c.args.limit c.args.arrival_time c.args.stamp refl
    (ahead c.args.limit c.args.arrival_time s (omega arith) (omega arith) (omega (arith, fits.0)) (omega arith)))
