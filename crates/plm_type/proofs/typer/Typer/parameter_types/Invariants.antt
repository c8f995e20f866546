use Rattle.std.proofs.Common.{◌≡◌, ◌++◌, drop}
use Rattle.plm_type.specs.Inner.Typer.{variables}
use Rattle.plm_type.specs.Typing.{parameter_types}
use Rattle.plm_type.proofs.typer.Typer.parameter_types.Given as goal

abbrev pub invariant-loop-parameter : goal.invariant-loop-parameter
invariant-loop-parameter l = l.types.items ++ parameter_types (variables l.self) (drop l.parameter-index l.parameters) ≡ parameter_types (variables l.self) l.parameters
