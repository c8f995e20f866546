use Rattle.board.proofs.Counted.{labels_from}
use Rattle.board.proofs.Writing.{took_breaks, took_more}
use Rattle.board.proofs.numbered.put_labels.Goals as goal

pub returns-in-Err : goal.returns-in-Err
returns-in-Err g c =
    took_breaks _ _ _ _ _ _ _ _ _ _ (labels_from c.args.turn c.args.labels.now c.loop-label.label-index _ c.loop-label-test.true) c.loop-label.invariant c.in-Err.ensures

pub loop-label-preserved : goal.loop-label-preserved
loop-label-preserved g c =
    took_more _ _ _ _ _ _ _ _ _ _ (labels_from c.args.turn c.args.labels.now c.loop-label.label-index _ c.loop-label-test.true) c.loop-label.invariant c.in_default.ensures.0 c.in_default.ensures.1
