use Rattle.std.specs.Prelude.{◌-◌, ◌≤◌, ℕ, List, Option}
use Rattle.word86.specs.declared.label.Label.{Label}
use Rattle.plm_decl.specs.declared.names.Names.{Names}
use Rattle.plm_decl.specs.declared.placement.Placement.{Placement}
use Rattle.board.specs.Run.{due_of}
use Rattle.plm86.specs.declared.mean.MeanEnd.{MeanEnd}
use Rattle.plm86.specs.Mean.{choices_from}
use Rattle.plm86.specs.Inner.Meaning.{Far}
use Rattle.plm86.proofs.mean.take_turns.Given as goal

abbrev pub invariant-loop-turn : goal.invariant-loop-turn
invariant-loop-turn g l =
    (l.turn ≤ l.schedule.stop)
    × ((names : Names) (placement : Placement) (whole : List Label × MeanEnd) (old : Option (List ℕ)) (before : ℕ)
    → Far names placement whole (choices_from (due_of l.schedule) l.schedule.stop 0) l.initial.meaning old (g.S.Sink.taken l.initial.sink) before (g.S.Sink.failures l.initial.sink)
    → Far names placement whole (choices_from (due_of l.schedule) (l.schedule.stop - l.turn) l.turn) l.meaning old (g.S.Sink.taken l.sink) before (g.S.Sink.failures l.sink))

abbrev pub decreases-loop-turn : goal.decreases-loop-turn
decreases-loop-turn g l = l.schedule.stop - l.turn
