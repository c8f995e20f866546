use Rattle.std.proofs.Common.{◌≡◌, ◌++◌, drop, map}
use Rattle.plm_decl.specs.Names.{declared_location_of}
use Rattle.plm_type.specs.Inner.Typer.{variables, procedures, sizes}
use Rattle.plm_type.specs.Statements.{of_locations}
use Rattle.plm_type.proofs.typer.Typer.locations.Given as goal

abbrev pub invariant-loop-declared : goal.invariant-loop-declared
invariant-loop-declared l =
    let vs = variables l.self in
    let ps = procedures l.self in
    l.faults.items ++ of_locations vs ps (sizes l.self) (map declared_location_of (drop l.declared-index l.declared-items)) ≡ l.initial.faults.items ++ of_locations vs ps (sizes l.self) (map declared_location_of l.self.names.now.locations.items)
