use Rattle.std.proofs.Common.{◌≡◌, ℕ, false, arith, eq-eqb}
use Rattle.stream.specs.declared.Flags.{Flags}
use Rattle.text.specs.Text.{ascii}
use Rattle.text.proofs.Puts.{alone}
use Rattle.lines.specs.Lines.{flags_text}
use Rattle.lines.proofs.parts.put_flags.Goals as goal

-- each flag is judged and none is raised
at_once : (tag : ℕ) (f : Flags) → tag ≡ 1 → f.sequence ≡ false → f.block ≡ false → f.format ≡ false → f.mr ≡ false → flags_text tag f ≡ ascii " frame seq=ok dbc=ok fmt=ok mr=ok"
unfolding flags_text
at_once tag f one a b c d = rw (eq-eqb tag 1 one, a, b, c, d)

pub returns : goal.returns
returns c =
    rw (at_once c.args.tag c.args.flags (omega arith) c.if-flags.false c.if-flags-2.false c.if-flags-3.false c.if-flags-4.false) (alone c.put.ensures)
