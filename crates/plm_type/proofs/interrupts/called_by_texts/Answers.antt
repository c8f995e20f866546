use Rattle.std.proofs.Common.{◌≡◌, ℕ, ◌<◌, List, Bool, length, map, Result, Ok, Err, IfOk, sym, ap, subst, ◌∙◌, ◌↔◌}
use Rattle.std.proofs.lemmas.List.{length-map}
use Rattle.std.specs.Global.{Vec}
use Rattle.plm_decl.specs.declared.names.Procedure.{Procedure}
use Rattle.plm_decl.specs.Names.{procedure_of}
use Rattle.plm_type.specs.Inner.Interrupts.{IsCalledIn}
use Rattle.plm_type.specs.Inner.Reach.{rows, IsMarked}
use Rattle.plm_type.specs.Interrupts as spec
use Rattle.plm_type.proofs.interrupts.called_by_texts.Goals as goal

if_ok : {A E : Type 0} {P Q : A → Type 0} (r : Result A E) → ((a : A) → P a → Q a) → IfOk r P → IfOk r Q
if_ok (Ok a) f h = f a h
if_ok (Err e) f h = h

pub returns : goal.returns
returns c =
    let names = c.args.names.now in
    let ps = names.procedures.items in
    let graph : rows c.deref-2.result.now ≡ spec.text_graph (map procedure_of ps) =
    ap rows c.deref-2.ensures.value ∙ c.in_ok-graph.ensures ∙ ap (λ (l : List Procedure). spec.text_graph (map procedure_of l)) c.deref.ensures.value in
    let main : c.deref-3.result.now ≡ spec.main_calls names = c.deref-3.ensures.value ∙ c.in_ok-main.ensures in
    let size : length c.deref-2.result.now ≡ length ps = sym (length-map c.deref-2.result.now (λ v. v.items)) ∙ ap length graph ∙ length-map (map procedure_of ps) _ ∙ length-map ps procedure_of in
    if_ok c.called_anywhere.result (λ (marks : Vec Bool) was p less. subst (λ (T : Type 0). T) (λ j. IsMarked marks.items p ↔ IsCalledIn (graph j) (main j) p) (was p (subst (λ n. p < n) (sym size) less))) c.called_anywhere.ensures
