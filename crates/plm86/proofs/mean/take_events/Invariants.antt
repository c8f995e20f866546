use Rattle.std.specs.Prelude.{ℕ, ◌++◌, List, Option, drop}
use Rattle.word86.specs.declared.label.Label.{Label}
use Rattle.plm_decl.specs.declared.names.Names.{Names}
use Rattle.plm_decl.specs.declared.placement.Placement.{Placement}
use Rattle.plm86.specs.declared.mean.MeanEnd.{MeanEnd}
use Rattle.plm86.specs.Mean.{Alternatives}
use Rattle.plm86.specs.Inner.Meaning.{event_choices, Far}
use Rattle.plm86.proofs.mean.take_events.Given as goal

abbrev pub invariant-loop-event : goal.invariant-loop-event
invariant-loop-event g l =
    (names : Names) (placement : Placement) (whole : List Label × MeanEnd) (left : Alternatives) (old : Option (List ℕ)) (before : ℕ)
    → Far names placement whole (event_choices l.events ++ left) l.initial.meaning old (g.S.Sink.taken l.initial.sink) before (g.S.Sink.failures l.initial.sink)
    → Far names placement whole (event_choices (drop l.event-index l.events) ++ left) l.meaning old (g.S.Sink.taken l.sink) before (g.S.Sink.failures l.sink)
