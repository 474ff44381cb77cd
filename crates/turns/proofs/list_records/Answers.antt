use Rattle.std.proofs.Common.{sym, ◌∙◌}
use Rattle.turns.proofs.Listed.{no_room, as_read}
use Rattle.turns.proofs.list_records.Goals as goal

pub returns-then-not-roomy : goal.returns-then-not-roomy
returns-then-not-roomy g c =
    no_room c.args.input.now c.args.have c.min-end.result c.min-end.ensures c.args.shown c.args.out.now (sym c.roomy.ensures ∙ c.if-not-roomy.true) c.start.ensures

pub returns : goal.returns
returns g c = as_read c.args.input.now c.args.have c.min-end.result c.min-end.ensures c.all_turns.ensures
