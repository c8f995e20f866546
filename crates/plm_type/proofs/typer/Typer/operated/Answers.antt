use Rattle.std.proofs.Common.{◌++◌, List, Option, ap, ◌∙◌}
use Rattle.std.specs.Global.{Vec}
use Rattle.plm_decl.specs.declared.layout.ScalarType.{ScalarType}
use Rattle.plm_decl.specs.ResolvedView as resolved
use Rattle.plm_type.specs.declared.numbers.Numbers.TheVariants.{Other}
use Rattle.plm_type.specs.declared.program.Expression.{Expression}
use Rattle.plm_type.specs.Types.{width_of}
use Rattle.plm_type.specs.Typing.{given_if, first_type, builtin_fits, builtin_type}
use Rattle.plm_type.specs.Trees.{builtin_value}
use Rattle.plm_type.specs.Faults.{builtin_faults}
use Rattle.plm_type.specs.View.{expressions_of}
use Rattle.plm_type.proofs.Said.{done_at}
use Rattle.plm_type.proofs.typer.Typer.operated.Goals as goal

pub returns : goal.returns
returns c =
    let m = c.args.self.now.module in
    let r = c.args.reference.now in
    let b = c.args.builtin in
    let s = resolved.selector_of r.selector in
    let old = c.args.faults.now.items in
    let at = c.line-line.ensures in
    let pair = c.in_ok-trees.ensures in
    let width = c.first_width-width.ensures ∙ ap (λ (l : List (Option ScalarType)). width_of (first_type l)) c.deref-3.ensures.value in
    let scalar = c.value_type-scalar.ensures ∙ ap (λ (l : List (Option ScalarType)). given_if (builtin_fits b s l) (builtin_type b l)) c.deref-2.ensures.value in
    let trees = ap (λ (v : Vec Expression). expressions_of v.items) (pair.0 ∙ c.into_trees.ensures) in
    let tree = c.in_ok-tree.ensures ∙ (λ j. builtin_value (at.module j) (at.line j) b (width j) (trees j)) in
    let faults = done_at pair.1 c.note_builtin-noted.ensures ∙ ap (λ (l : List (Option ScalarType)). old ++ builtin_faults m r.place b s l) c.deref.ensures.value in
    λ j. record { tree = tree j; scalar = scalar j; numbers = Other; faults = faults j }
