-- The format that is kept after a frame tells what the four fields of its CIP header tell. Assumes nothing.
use Prim.Native.Nat.{ℕ}
use mathlib.Core.Path.{◌≡◌, refl, ap}
use mathlib.Core.Bool.{Bool, true, false, not, ◌&&◌, ◌||◌, cond}
use borrow.Author.Tests.{eq-eqb}
use Rattle.refusal.specs.Refusals.{differs}
use Rattle.frame.specs.declared.layout.Fields.{Fields}
use Rattle.frame.specs.Layout.{cip_in}
use Rattle.stream.specs.declared.Format.{Format}
use Rattle.stream.specs.declared.Record.{Record}
use Rattle.stream.specs.Records.{bit_differs, format_of, format_change, kept_format, format_flag}

number_same : (n : ℕ) → differs n n ≡ false
number_same n = ap not (eq-eqb n n refl)

bit_same : (b : Bool) → bit_differs b b ≡ false
bit_same true = refl
bit_same false = refl

format_same : (g : Format) → format_change g g ≡ false
unfolding format_change
format_same g = rw (number_same g.fmt, number_same g.dbs, number_same g.fraction_number, bit_same g.sph)

change_by_kept : (has : Bool) (last g : Format) → format_change last (cond has g last) ≡ has && format_change last g
change_by_kept true last g = refl
change_by_kept false last g = format_same last

pub flag_by_kept : (r : Record) (f : Fields) → differs f.header.stream.tag r.tag || format_change r.format (kept_format r f) ≡ format_flag r f
unfolding kept_format format_flag
flag_by_kept r f = rw (change_by_kept (cip_in f) r.format (format_of f.cip))
