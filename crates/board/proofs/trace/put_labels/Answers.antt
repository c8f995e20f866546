use Rattle.board.proofs.Writing.{lines_from, took_breaks, took_more}
use Rattle.board.proofs.trace.put_labels.Goals as goal

pub returns-in-Err : goal.returns-in-Err
returns-in-Err g c =
    took_breaks _ _ _ _ _ _ _ _ _ _ (lines_from c.args.labels.now c.loop-label.label-index _ c.loop-label-test.true) c.loop-label.invariant c.in-Err.ensures

pub loop-label-preserved : goal.loop-label-preserved
loop-label-preserved g c =
    took_more _ _ _ _ _ _ _ _ _ _ (lines_from c.args.labels.now c.loop-label.label-index _ c.loop-label-test.true) c.loop-label.invariant c.in_default.ensures.0 c.in_default.ensures.1
