use Rattle.std.proofs.Common.{sym}
use Rattle.writer.proofs.Accepted.{accepted}
use Rattle.writer.proofs.checked.Checked.of.Goals as goal

pub invariant_of-result : goal.invariant_of-result
invariant_of-result c =
    let ok = accepted _ _ _ (sym c.in_ok-check.ensures) in
    record { fits = ok.fits; short = ok.short }
