use Rattle.std.proofs.Common.{sym, ◌∙◌, arith, length-take-le}
use Rattle.capture.specs.Records.{held_of}
use Rattle.capture.proofs.Fronts.{sized}
use Rattle.listing.proofs.Turns.{rest_is, no_room, none_whole, fits, one_more}
use Rattle.listing.proofs.chunk.list_record.Goals as goal

pub returns-then-not-roomy : goal.returns-then-not-roomy
returns-then-not-roomy c = no_room _ _ _ _ _ (sym c.roomy.ensures ∙ c.if-not-roomy.true)

pub returns-in_default : goal.returns-in_default
returns-in_default c =
    none_whole _ _ _ _ _ (sym c.roomy.ensures ∙ c.if-not-roomy.false) _ (rest_is c.args.p.at c.args.chunk.now) c.next_record.result c.next_record.ensures
    c.in_default.not-Whole

pub slice_bounds-record-end : goal.slice_bounds-record-end
slice_bounds-record-end c = sym (length-take-le c.in-Whole.size _ ((sized _ c.in-Whole.size (held_of c.in-Whole.content) (sym c.in-Whole.ensures)).1))

pub overflow_add-result : goal.overflow_add-result
overflow_add-result c =
    omega (
      arith,
      fits c.args.shown c.args.chunk.now c.args.table.now c.args.p c.args.out.now (sym c.roomy.ensures ∙ c.if-not-roomy.false) _ (rest_is c.args.p.at c.args.chunk.now)
          c.in-Whole.size (held_of c.in-Whole.content) c.in-Whole.ensures c.requires,
    )

pub returns : goal.returns
returns c =
    one_more _ _ _ _ _ (sym c.roomy.ensures ∙ c.if-not-roomy.false) _ (rest_is c.args.p.at c.args.chunk.now) c.in-Whole.size (held_of c.in-Whole.content) c.in-Whole.ensures
    _ _ c.obey-outcome.ensures _ _ c.in_ok-put.ensures.out_after c.in_ok-put.ensures.out_in_bounds
