use Rattle.std.proofs.Common.{◌∙◌, ap}
use Rattle.refusal.specs.Refusals.{verdict_number}
use Rattle.refusal.proofs.First.{stop, go, passed_on}
use Rattle.frame.proofs.Groups.{header_then}
use Rattle.frame.proofs.checks.check_header.Goals as goal

pub returns-in_err-check_ethernet : goal.returns-in_err-check_ethernet
returns-in_err-check_ethernet c = ap verdict_number (passed_on c.from_residual.result c.in_err-check_ethernet.field-0.0 c.from_residual.ensures.1) ∙ rw (header_then c.args.n c.args.h) (stop _ _ _ (c.in_err-check_ethernet.ensures))

pub returns-in_err-check_avtp : goal.returns-in_err-check_avtp
returns-in_err-check_avtp c = ap verdict_number (passed_on c.from_residual-in_err-check_avtp.result c.in_err-check_avtp.field-0.0 c.from_residual-in_err-check_avtp.ensures.1) ∙ rw (header_then c.args.n c.args.h) (go _ _ _ (c.in_ok-check_ethernet.ensures) (stop _ _ _ (c.in_err-check_avtp.ensures)))

pub returns-in_err-check_addresses : goal.returns-in_err-check_addresses
returns-in_err-check_addresses c = ap verdict_number (passed_on c.from_residual-in_err-check_addresses.result c.in_err-check_addresses.field-0.0 c.from_residual-in_err-check_addresses.ensures.1) ∙ rw (header_then c.args.n c.args.h) (go _ _ _ (c.in_ok-check_ethernet.ensures) (go _ _ _ (c.in_ok-check_avtp.ensures) (stop _ _ _ (c.in_err-check_addresses.ensures))))

pub returns : goal.returns
returns c = rw (header_then c.args.n c.args.h) (go _ _ _ (c.in_ok-check_ethernet.ensures) (go _ _ _ (c.in_ok-check_avtp.ensures) (go _ _ _ (c.in_ok-check_addresses.ensures) (c.check_stream.ensures))))
