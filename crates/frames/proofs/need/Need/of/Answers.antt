use Rattle.frames.specs.Inner.Need.{need_at}
use Rattle.frames.proofs.Needing.{kept_need, kept_height}
use Rattle.frames.proofs.need.Need.of.Goals as goal

pub loop-instruction-preserved : goal.loop-instruction-preserved
loop-instruction-preserved c =
    let here = c.loop-instruction in
    let after = c.height_after-height in (
      kept_need (need_at c.args.needs.now) here.so_far c.and-so_far.result c.met.result here.height after.result here.instruction-index c.args.instructions.now _ c.loop-instruction-test.true c.met.ensures c.and-so_far.ensures after.ensures here.invariant.0,
      kept_height _ here.height after.result here.instruction-index after.ensures here.invariant.1,
    )
