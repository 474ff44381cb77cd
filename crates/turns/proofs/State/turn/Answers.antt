use Rattle.std.proofs.Common.{◌≡◌, true, false, refl, sym, ap, ◌∙◌, ◌+◌, arith, take, Result, Ok, Err, IsOk, is_err}
use Rattle.turns.proofs.Turning.{none_put, went_on, read_on}
use Rattle.turns.proofs.State.turn.Goals as goal

ok_only : {A E : Type 0} (r : Result A E) → IsOk r → is_err r ≡ true → true ≡ false
ok_only (Ok a) ok e = sym e
ok_only (Err why) ok e = sym ok

pub returns-then-is_err : goal.returns-then-is_err
returns-then-is_err g c =
    let l = c.list_chunk-done.ensures in
    went_on c.args.shown c.args.input.now c.args.out.now c.args.self.now c.requires l _ refl
    (λ off.
    let none = none_put c.args.shown c.args.input.now c.args.out.now c.args.self.now c.requires l off in
    ok_only c.write_lines.result (c.write_lines.ensures (ap (λ n. take n c.list_chunk-done.new.out) none)) (sym c.is_err.ensures.value ∙ c.if-is_err.true))

pub returns-then-done-gt0 : goal.returns-then-done-gt0
returns-then-done-gt0 g c =
    went_on c.args.shown c.args.input.now c.args.out.now c.args.self.now c.requires c.list_chunk-done.ensures _ refl (λ _. refl)

pub returns : goal.returns
returns g c =
    let same : c.args.self.now.from + c.list_chunk-done.result.at ≡ c.args.self.now.from = omega arith in
    read_on c.args.shown c.args.input.now c.args.out.now c.args.self.now c.requires c.list_chunk-done.ensures (omega arith) (rw same at c.refill-filled.ensures) c.from-self.ensures
