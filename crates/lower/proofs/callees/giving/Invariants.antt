use Rattle.std.proofs.Common.{◌≡◌, ◌++◌, map, drop}
use Rattle.plm_type.specs.Rest.{Procedure}
use Rattle.plm_type.specs.View.{procedures_of}
use Rattle.lower.specs.Expressions.{are_giving}
use Rattle.lower.proofs.callees.giving.Given as goal

abbrev pub invariant-loop-procedure : goal.invariant-loop-procedure
invariant-loop-procedure l =
    l.giving.items ++ map (λ (p : Procedure). are_giving p.body) (procedures_of (drop l.procedure-index l.procedures)) ≡ map (λ (p : Procedure). are_giving p.body) (procedures_of l.procedures)
