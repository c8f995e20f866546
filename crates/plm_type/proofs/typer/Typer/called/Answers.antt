use Rattle.std.proofs.Common.{◌++◌, List, Option, option_map, ap, ◌∙◌}
use Rattle.std.specs.Global.{Vec}
use Rattle.plm_decl.specs.declared.layout.ScalarType.{ScalarType}
use Rattle.plm_decl.specs.Names.{procedure_of}
use Rattle.plm_decl.specs.ResolvedView as resolved
use Rattle.plm_type.specs.declared.numbers.Numbers.TheVariants.{Other}
use Rattle.plm_type.specs.declared.program.Expression.{Expression}
use Rattle.plm_type.specs.Rest.{Call}
use Rattle.plm_type.specs.Typing.{called_type}
use Rattle.plm_type.specs.Faults.{called_faults}
use Rattle.plm_type.specs.Inner.Typer.{variables}
use Rattle.plm_type.specs.View.{expressions_of}
use Rattle.plm_type.proofs.Rows.{expression_row}
use Rattle.plm_type.proofs.Said.{done_at}
use Rattle.plm_type.proofs.typer.Typer.called.Goals as goal

pub returns : goal.returns
returns c =
    let vs = variables c.args.self.now in
    let m = c.args.self.now.module in
    let r = c.args.reference.now in
    let s = resolved.selector_of r.selector in
    let q = option_map (λ p. procedure_of p.now) c.args.procedure in
    let old = c.args.faults.now.items in
    let pair = c.in_ok-trees.ensures in
    let scalar = c.called_type-scalar.ensures ∙ ap (called_type vs q s) c.deref-2.ensures.value in
    let faults = done_at pair.1 c.note_called-noted.ensures ∙ ap (λ (l : List (Option ScalarType)). old ++ called_faults vs m r.place q s l) c.deref.ensures.value in
    let trees = expression_row c.in_ok-trees.trees ∙ ap (λ (v : Vec Expression). expressions_of v.items) (pair.0 ∙ c.into_trees.ensures) in
    λ j. record { tree = Call (c.entry_of.ensures j) (trees j); scalar = scalar j; numbers = Other; faults = faults j }
