-- The report of a capture as it is read.
use Rattle.std.specs.Prelude.{ℕ, ◌≤◌, ◌≡◌, true, false, List, ◌++◌, length}
use Rattle.text.specs.InTurn.{PutInTurn}
use Rattle.lines.specs.Placing.{roomy}
use Rattle.turns.specs.Turns.{is_read, is_unwritten}
use Rattle.report.specs.Report.{report}
use Rattle.avtp_report.specs.declared.Reported.{Reported}

-- a capture of which the first bytes had been read before, and the output d, which is d' afterwards: once all has been read, the report of the
-- first bytes and of what came behind them has been put there, where there is room for it, and nothing else. What comes is the system's
-- to say
pub record Reports (first d : List ℕ) (r : Reported) (d' : List ℕ) : Type 0 where
  pub behind : List ℕ
  pub text : is_read r.stage ≡ true → PutInTurn d 0 (report (first ++ behind)) d' r.end
  -- an output of so many bytes has room for any report
  pub fits : r.end ≤ 25_792
  -- after a failure there is none; where the output has room for a line of a listing, writing cannot fail
  pub failed : is_read r.stage ≡ false → (r.end ≡ 0) × (d' ≡ d)
  pub written : roomy (length d) 0 ≡ true → is_unwritten r.stage ≡ false
