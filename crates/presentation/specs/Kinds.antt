-- The words for the kinds of presentation times (document 01, Presentation time; requests #106 and #107).
use Rattle.std.specs.Prelude.{ℕ, List, codes}
use Rattle.presentation.specs.declared.Kind.{Kind}
use Rattle.presentation.specs.declared.Kind.TheVariants.{None, Cut, Outside, Late, Ahead, Unclear, Far}

abbrev pub kind_name : Kind → List ℕ
kind_name None = codes "none"
kind_name Cut = codes "cut"
kind_name Outside = codes "outside"
kind_name Late = codes "late"
kind_name Ahead = codes "ahead"
kind_name Unclear = codes "unclear"
kind_name Far = codes "far"
