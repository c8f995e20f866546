use Rattle.std.proofs.Common.{◌++◌, append_assoc, sym, ap, ◌∙◌}
use Rattle.std.specs.Global.{Vec}
use Rattle.plm_decl.specs.declared.resolved.Binding.{Binding}
use Rattle.plm_decl.specs.Resolved.{Use}
use Rattle.plm_decl.specs.ResolvedView as resolved
use Rattle.plm_type.specs.Rest.{Call}
use Rattle.plm_type.specs.Typing.{parameters_wanted}
use Rattle.plm_type.specs.Trees.{entry_of}
use Rattle.plm_type.specs.Faults.{call_faults}
use Rattle.plm_type.specs.Inner.Typer.{variables, noted, noted_after, list_after, given_by, call_by}
use Rattle.plm_type.specs.declared.program.Expression.{Expression}
use Rattle.plm_type.specs.View.{expressions_of}
use Rattle.plm_type.proofs.Rows.{expression_row}
use Rattle.plm_type.proofs.Said.{done_at}
use Rattle.plm_type.proofs.typer.Typer.call.Goals as goal

pub returns-in_ok-trees-in-Procedure : goal.returns-in_ok-trees-in-Procedure
returns-in_ok-trees-in-Procedure c =
    let self = c.args.self.now in
    let old = c.args.faults.now.items in
    let r = c.args.reference.now in
    let es = resolved.expressions_of r.subscripts.items in
    let s = resolved.selector_of r.selector in
    let q = c.procedure-procedure.ensures in
    let wanted = parameters_wanted (variables self) in
    let did = c.in_ok-arguments-in-Procedure.ensures ∙ (λ j. list_after old (given_by self (wanted (q j)) (resolved.expressions_of (c.deref.ensures.value j)))) in
    let entry = c.entry_of.ensures ∙ ap entry_of q in
    let pair = c.in_ok-trees-in-Procedure.ensures in
    let arguments = expression_row c.in_ok-trees-in-Procedure.trees ∙ ap (λ (v : Vec Expression). expressions_of v.items) (pair.0 ∙ c.into_trees.ensures) ∙ (λ j. (did j).trees) in
    let types = c.deref-in-Procedure.ensures.value ∙ (λ j. (did j).types) in
    let faults = done_at pair.1 c.note_call-noted.ensures ∙ (λ j. (did j).faults ++ call_faults (variables self) self.module r.place (q j) s (types j)) ∙ append_assoc old (given_by self (wanted (q 1)) es).faults _ in
    (λ j. noted (Call (entry j) (arguments j)) (faults j))
    ∙ ap (λ (m : Binding). noted_after old (call_by self c.args.place (Use r.place m es s))) (sym c.in-Procedure.is)
