use Rattle.std.proofs.Common.{◌≡◌, ℕ, List, map, IfOk, subst, ap, ◌∙◌}
use Rattle.plm_decl.specs.declared.resolved.Statement.{Statement}
use Rattle.plm_decl.specs.Names.{procedure_of}
use Rattle.plm_decl.specs.ResolvedView as resolved
use Rattle.plm_type.specs.Effects.{of_statements}
use Rattle.plm_type.specs.Interrupts as spec
use Rattle.plm_type.proofs.interrupts.called_by_main.Goals as goal

pub returns : goal.returns
returns c =
    let effects = c.deref-3.ensures.value ∙ c.in_ok-effects.ensures ∙ ap (λ (l : List Statement). of_statements (resolved.statements_of l)) c.deref.ensures.value in
    let path : spec.called (map procedure_of c.deref-2.result.now) c.deref-3.result.now ≡ spec.main_calls c.args.names.now = λ j. spec.called (map procedure_of (c.deref-2.ensures.value j)) (effects j) in
    subst (λ (l : List ℕ). IfOk c.called.result (λ numbers. numbers.items ≡ l)) path c.called.ensures
