use Rattle.frames.specs.Inner.Need.{need_at}
use Rattle.frames.proofs.Needing.{kept_words, kept_height}
use Rattle.frames.proofs.need.Need.words_of.Goals as goal

pub loop-instruction-preserved : goal.loop-instruction-preserved
loop-instruction-preserved c =
    let here = c.loop-instruction in
    let after = c.height_after-height in (
      kept_words (need_at c.args.needs.now) here.most c.max-most.result c.words_at.result here.height after.result here.instruction-index c.args.instructions.now _ c.loop-instruction-test.true c.words_at.ensures c.max-most.ensures after.ensures here.invariant.0,
      kept_height _ here.height after.result here.instruction-index after.ensures here.invariant.1,
    )
