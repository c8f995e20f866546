use Rattle.std.proofs.Common.{◌+◌, List, drop, map, sym, ap, ◌∙◌}
use Rattle.std.proofs.lemmas.List.{drop_all}
use Rattle.plm_decl.specs.declared.names.Procedure.{Procedure}
use Rattle.plm_decl.specs.Names.{procedure_of}
use Rattle.plm_decl.specs.Placement.{sizes_of}
use Rattle.plm_type.specs.Inner.Typer.{variables, procedures, sizes, noted_after}
use Rattle.plm_type.specs.Statements.{typed_procedure, typed_procedures}
use Rattle.plm_type.specs.View as view
use Rattle.plm_type.proofs.Lists.{drop_at, mapped_before, mapped_next, mapped_all}
use Rattle.plm_type.proofs.typer.Typer.procedures.Goals as goal

pub loop-procedure-preserved : goal.loop-procedure-preserved
loop-procedure-preserved c =
    let here = c.loop-procedure in
    let self = c.args.self.now in
    let vs = variables self in
    let ps = procedures self in
    let all = typed_procedures vs ps (sizes self) in
    let xs = c.deref-procedure-items.result.now in
    let i = here.procedure-index in
    let x = c.procedure-item.result in
    let at = sym (drop_at xs i x c.loop-procedure-test.true c.procedure-item.is) in
    let names = c.of_module-typer.ensures.names in
    let did = c.in_ok-procedure_in.ensures
    ∙ (λ j. noted_after here.faults.items (typed_procedure (names j).variables.items (map procedure_of (names j).procedures.items) (sizes_of (names j)) (procedure_of x))) in
    mapped_next view.procedure_of here.typed.items _ c.in_ok-procedure_in.field-0 here.faults.items _ (typed_procedure vs ps (sizes self) (procedure_of x)) (all (map procedure_of (drop (i + 1) xs)))
    c.in_ok-push.ensures.items did
    ∙ ap (λ (l : List Procedure). mapped_before view.procedure_of here.typed.items here.faults.items (all (map procedure_of l))) at
    ∙ here.invariant

pub returns : goal.returns
returns c =
    let here = c.loop-procedure in
    let self = c.args.self.now in
    let all = typed_procedures (variables self) (procedures self) (sizes self) in
    let none = sym (drop_all here.procedure-index c.deref-procedure-items.result.now c.loop-procedure-test.false) in
    mapped_all view.procedure_of here.typed.items here.faults.items
    ∙ ap (λ (l : List Procedure). mapped_before view.procedure_of here.typed.items here.faults.items (all (map procedure_of l))) none
    ∙ here.invariant
