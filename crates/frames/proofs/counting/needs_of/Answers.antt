use Rattle.std.proofs.Common.{◌≡◌, length, Some, slice_get, arith, get_or, sym, ap, ◌∙◌}
use Rattle.std.proofs.lemmas.Option.{slice_get-get_or}
use Rattle.frames.specs.Inner.Need.{need, need_at}
use Rattle.frames.proofs.Known.{next_all}
use Rattle.frames.proofs.counting.needs_of.Goals as goal

pub loop-number-preserved : goal.loop-number-preserved
loop-number-preserved c =
    let here = c.loop-number in
    let i = here.number-index in
    let code = c.args.code.now in
    let order = c.deref-number-items in
    let p = get_or order.result.now i 0 in
    let made = c.instructions-instructions in
    let stands : slice_get code.order.items i ≡ Some p = ap (λ xs. slice_get xs i) (sym order.ensures.value) ∙ slice_get-get_or order.result.now i 0 c.loop-number-test.true in
    let is = c.of-need.ensures ∙ ap (λ t. need (need_at t) 0 made.result.now) c.deref.ensures.value ∙ ap (need (need_at here.needs.items) 0) made.ensures in
    next_all code here.needs.items c.keep.new.needs.items i p 0xffffffffffffffff c.of-need.result stands c.keep.ensures is (omega (arith, made.type_inv.0, ap length made.ensures)) here.invariant.0 here.invariant.1 here.invariant.2
