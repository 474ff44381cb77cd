use Rattle.std.proofs.Common.{◌≡◌, rules, w64}
use mir.Val.{to_z, of_z}
use Rattle.text.proofs.Puts.{alone, more}
use Rattle.lines.specs.Lines.{timing_text}
use Rattle.lines.proofs.parts.put_timing.Goals as goal

pub returns-clause-put_in_turn : goal.returns-clause-put_in_turn
unfolding timing_text
returns-clause-put_in_turn c =
    let back : to_z w64 (of_z w64 c.args.timing.offset) ≡ c.args.timing.offset = search rules in
    more (more c.put_kind-a.ensures (rw back at (alone c.put_signed-b.ensures))) (alone c.put.ensures)
