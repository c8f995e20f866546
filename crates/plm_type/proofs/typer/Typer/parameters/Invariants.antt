use Rattle.std.proofs.Common.{◌≡◌, drop}
use Rattle.plm_type.specs.Inner.Typer.{variables, noted_after}
use Rattle.plm_type.specs.Statements.{typed_parameters}
use Rattle.plm_type.specs.View as view
use Rattle.plm_type.proofs.Lists.{mapped_before}
use Rattle.plm_type.proofs.typer.Typer.parameters.Given as goal

abbrev pub invariant-loop-parameter : goal.invariant-loop-parameter
invariant-loop-parameter l =
    let all = typed_parameters (variables l.self) l.external l.self.module in
    mapped_before view.scalar_of l.scalars.items l.faults.items (all (drop l.parameter-index l.parameters)) ≡ noted_after l.initial.faults.items (all l.parameters)
