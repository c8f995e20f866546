use Rattle.std.proofs.Common.{◌≡◌, ◌++◌, drop, map}
use Rattle.plm_decl.specs.Names.{procedure_of}
use Rattle.plm_type.specs.Inner.Reach.{rows}
use Rattle.plm_type.specs.Interrupts as spec
use Rattle.plm_type.proofs.interrupts.text_graph.Given as goal

abbrev pub invariant-loop-procedure : goal.invariant-loop-procedure
invariant-loop-procedure l =
    let ps = map procedure_of l.procedures in
    rows l.graph.items ++ map (λ p. spec.called ps (spec.body_effects p)) (map procedure_of (drop l.procedure-index l.procedures)) ≡ spec.text_graph ps
