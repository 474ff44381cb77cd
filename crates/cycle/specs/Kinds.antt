-- The words for the kinds of a judgement by SYT (request #101).
use Rattle.std.specs.Prelude.{ℕ, List, codes}
use Rattle.cycle.specs.declared.judgement.CycleKind.{CycleKind}
use Rattle.cycle.specs.declared.judgement.CycleKind.TheVariants.{None, Late, Ahead}

abbrev pub cycle_kind_name : CycleKind → List ℕ
cycle_kind_name None = codes "none"
cycle_kind_name Late = codes "late"
cycle_kind_name Ahead = codes "ahead"
