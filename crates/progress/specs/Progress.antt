-- How far a long run has come, by the seconds that a clock shows.
use Rattle.std.specs.Prelude.{ℕ, ◌≡◌, cond, eqb}
use Rattle.progress.specs.declared.Progress.{Progress}
use Rattle.progress.specs.declared.Shown.{Shown}
use Rattle.progress.specs.declared.Shown.TheVariants.{Unticked, Ticked, Visible}

-- at a tick. It is shown from the second tick on, since the first may come at once
abbrev pub at_tick : Shown → Shown
at_tick Unticked = Ticked
at_tick Ticked = Visible
at_tick Visible = Visible

-- once the clock shows this second
abbrev pub ticked : Progress → ℕ → Progress
ticked p second = cond (eqb p.second second) p (record { wanted = p.wanted; second = second; shown = at_tick p.shown })

-- the clock was looked at, where progress is wanted: r is what has become of p
pub record Told (p r : Progress) : Type 0 where
  pub second : ℕ
  pub next : r ≡ cond p.wanted (ticked p second) p

-- wiped, which takes no tick back
abbrev pub wiped : Shown → Shown
wiped Unticked = Unticked
wiped Ticked = Ticked
wiped Visible = Ticked

-- once it is wiped
abbrev pub hidden : Progress → Progress
hidden p = record { wanted = p.wanted; second = p.second; shown = wiped p.shown }
