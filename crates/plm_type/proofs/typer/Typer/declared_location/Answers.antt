use Rattle.std.proofs.Common.{◌++◌, map, ◌∙◌}
use Rattle.plm_decl.specs.Names.{procedure_of}
use Rattle.plm_decl.specs.Placement.{sizes_of}
use Rattle.plm_decl.specs.ResolvedView as resolved
use Rattle.plm_type.specs.Expressions.{location}
use Rattle.plm_type.proofs.typer.Typer.declared_location.Goals as goal

pub returns : goal.returns
returns c =
    let made = c.of_module.ensures in
    (λ j. (c.in_ok-typed.ensures j).faults)
    ∙ (λ j. c.args.faults.now.items ++ (location (made.names j).variables.items (map procedure_of (made.names j).procedures.items) (sizes_of (made.names j)) (made.index j) (resolved.location_of c.args.declared.now.location)).faults)
