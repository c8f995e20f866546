use Rattle.std.proofs.Common.{◌++◌, List, Option, ap, ◌∙◌}
use Rattle.std.specs.Global.{Vec}
use Rattle.plm_decl.specs.declared.layout.ScalarType.{ScalarType}
use Rattle.plm_decl.specs.ResolvedView as resolved
use Rattle.plm_type.specs.declared.program.Expression.{Expression}
use Rattle.plm_type.specs.Typing.{given_if, builtin_fits, port_type}
use Rattle.plm_type.specs.Trees.{to_port}
use Rattle.plm_type.specs.Faults.{port_faults}
use Rattle.plm_type.specs.View.{expressions_of}
use Rattle.plm_type.proofs.Said.{done_at}
use Rattle.plm_type.proofs.typer.Typer.port.Goals as goal

pub returns : goal.returns
returns c =
    let m = c.args.self.now.module in
    let r = c.args.reference.now in
    let b = c.args.builtin in
    let s = resolved.selector_of r.selector in
    let old = c.args.faults.now.items in
    let pair = c.in_ok-trees.ensures in
    let scalar = c.target_type-scalar.ensures ∙ ap (λ (l : List (Option ScalarType)). given_if (builtin_fits b s l) (port_type b)) c.deref-2.ensures.value in
    let trees = ap (λ (v : Vec Expression). expressions_of v.items) (pair.0 ∙ c.into_trees.ensures) in
    let tree = c.to_port.ensures ∙ ap (to_port b) trees in
    let faults = done_at pair.1 c.note_port-noted.ensures ∙ ap (λ (l : List (Option ScalarType)). old ++ port_faults m r.place b s l) c.deref.ensures.value in
    λ j. record { tree = tree j; scalar = scalar j; faults = faults j }
