use Rattle.std.proofs.Common.{◌≡◌, drop}
use Rattle.plm_decl.specs.ResolvedView as resolved
use Rattle.plm_type.specs.Inner.Typer.{variables, procedures, sizes, said, list_after, list_by, given_by}
use Rattle.plm_type.specs.Inner.Chains.{chain}
use Rattle.plm_type.proofs.Lists.{list_before}
use Rattle.plm_type.proofs.typer.Typer.+expression.Given as goal

abbrev pub invariant-list-loop-e : goal.invariant-list-loop-e
invariant-list-loop-e l =
    let left = resolved.expressions_of (drop l.e-index l.es) in
    list_before l.all l.faults.items (list_by l.self left) ≡ list_after l.initial.faults.items (list_by l.self (resolved.expressions_of l.es))

abbrev pub invariant-given-loop-e : goal.invariant-given-loop-e
invariant-given-loop-e l =
    let left = resolved.expressions_of (drop l.e-index l.es) in
    list_before l.all l.faults.items (given_by l.self l.others left) ≡ list_after l.initial.faults.items (given_by l.self l.fn.types (resolved.expressions_of l.es))

abbrev pub invariant-operations-loop-operation : goal.invariant-operations-loop-operation
invariant-operations-loop-operation l =
    let self = l.self in
    let from = chain (variables self) (procedures self) (sizes self) self.module l.first in
    from (said l.typed l.faults.items) (drop l.operation-index l.operations) ≡ from (said l.fn.left l.initial.faults.items) l.operations
