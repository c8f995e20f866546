use Rattle.std.proofs.Common.{◌+◌, ◌++◌, List, drop, map, append_assoc, sym, ap, ◌∙◌}
use Rattle.plm_decl.specs.declared.found.Found.{Found}
use Rattle.plm_decl.specs.declared.names.DeclaredLocation.{DeclaredLocation}
use Rattle.plm_decl.specs.Names.{declared_location_of}
use Rattle.plm_decl.specs.ResolvedView as resolved
use Rattle.plm_type.specs.Inner.Typer.{variables, procedures, sizes}
use Rattle.plm_type.specs.Expressions.{location}
use Rattle.plm_type.specs.Statements.{of_locations}
use Rattle.plm_type.proofs.Lists.{drop_at}
use Rattle.plm_type.proofs.typer.Typer.locations.Goals as goal

pub loop-declared-preserved : goal.loop-declared-preserved
loop-declared-preserved c =
    let here = c.loop-declared in
    let self = c.args.self.now in
    let vs = variables self in
    let ps = procedures self in
    let xs = c.deref-declared-items.result.now in
    let i = here.declared-index in
    let x = c.declared-item.result in
    let left = of_locations vs ps (sizes self) (map declared_location_of (drop (i + 1) xs)) in
    ap (λ (l : List Found). l ++ left) c.in_ok-declared_location.ensures
    ∙ append_assoc here.faults.items (location vs ps (sizes self) x.module (resolved.location_of x.location)).faults left
    ∙ ap (λ (l : List DeclaredLocation). here.faults.items ++ of_locations vs ps (sizes self) (map declared_location_of l)) (sym (drop_at xs i x c.loop-declared-test.true c.declared-item.is))
    ∙ here.invariant
