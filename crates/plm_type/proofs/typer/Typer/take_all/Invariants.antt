use Rattle.std.proofs.Common.{◌≡◌, drop}
use Rattle.plm_type.specs.Inner.Typer.{variables}
use Rattle.plm_type.specs.Typing.{take_all, parameter_types}
use Rattle.plm_type.proofs.typer.Typer.take_all.Given as goal

abbrev pub invariant-loop-parameter : goal.invariant-loop-parameter
invariant-loop-parameter l =
    take_all (parameter_types (variables l.self) (drop l.parameter-index l.parameters)) l.others ≡ take_all (parameter_types (variables l.self) l.parameters) l.types
