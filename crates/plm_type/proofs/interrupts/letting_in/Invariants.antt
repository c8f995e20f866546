use Rattle.std.proofs.Common.{◌≡◌, ◌++◌, drop, map}
use Rattle.plm_decl.specs.Names.{procedure_of}
use Rattle.plm_type.specs.Interrupts as spec
use Rattle.plm_type.proofs.interrupts.letting_in.Given as goal

abbrev pub invariant-loop-procedure : goal.invariant-loop-procedure
invariant-loop-procedure l =
    l.marks.items ++ map (λ p. spec.lets_in (spec.body_effects (procedure_of p))) (drop l.procedure-index l.procedures)
    ≡ map (λ p. spec.lets_in (spec.body_effects (procedure_of p))) l.procedures
