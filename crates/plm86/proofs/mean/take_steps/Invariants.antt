use Rattle.std.specs.Prelude.{◌-◌, ℕ, ◌++◌, List, Option, replicate}
use Rattle.word86.specs.declared.label.Label.{Label}
use Rattle.plm_decl.specs.declared.names.Names.{Names}
use Rattle.plm_decl.specs.declared.placement.Placement.{Placement}
use Rattle.plm86.specs.declared.mean.MeanEnd.{MeanEnd}
use Rattle.plm86.specs.Mean.{Alternatives, one_step}
use Rattle.plm86.specs.Inner.Meaning.{Far}
use Rattle.plm86.proofs.mean.take_steps.Given as goal

abbrev pub invariant-loop-turn : goal.invariant-loop-turn
invariant-loop-turn g l =
    (names : Names) (placement : Placement) (whole : List Label × MeanEnd) (left : Alternatives) (old : Option (List ℕ)) (before : ℕ)
    → Far names placement whole (replicate l.count one_step ++ left) l.initial.meaning old (g.S.Sink.taken l.initial.sink) before (g.S.Sink.failures l.initial.sink)
    → Far names placement whole (replicate (l.count - l._turn) one_step ++ left) l.meaning old (g.S.Sink.taken l.sink) before (g.S.Sink.failures l.sink)
