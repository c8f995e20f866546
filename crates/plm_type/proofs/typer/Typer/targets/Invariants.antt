use Rattle.std.proofs.Common.{◌≡◌, drop}
use Rattle.plm_decl.specs.ResolvedView as resolved
use Rattle.plm_type.specs.Inner.Typer.{targets_after, targets_by}
use Rattle.plm_type.proofs.Lists.{targets_before}
use Rattle.plm_type.proofs.typer.Typer.targets.Given as goal

abbrev pub invariant-loop-reference : goal.invariant-loop-reference
invariant-loop-reference l =
    let left = resolved.references_of (drop l.reference-index l.references) in
    targets_before l.all l.faults.items (targets_by l.self left) ≡ targets_after l.initial.faults.items (targets_by l.self (resolved.references_of l.references))
