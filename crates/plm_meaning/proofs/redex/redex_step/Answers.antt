use Rattle.std.proofs.Common.{◌≡◌, inl, inr, ap, subst, ◌∙◌, refl}
use Rattle.word86.specs.Access.{Write, Output}
use Rattle.word86.specs.declared.access.Access.TheVariants as access
use Rattle.word86.specs.declared.width.Width.TheVariants as width
use Rattle.word86.specs.Action.{Touch, Over, map_action}
use Rattle.word86.specs.Arithmetic.{low}
use Rattle.plm_type.specs.Rest as rest
use Rattle.plm_type.specs.Rest.{Value}
use Rattle.word86.specs.Place.{where_of}
use Rattle.plm_type.specs.View.{statements_of}
use Rattle.plm_meaning.specs.declared.redex.Action.TheVariants as action
use Rattle.plm_meaning.specs.Context.{Expr}
use Rattle.plm_meaning.specs.Inner.Redex.{acting, stored, value_in, value_left}
use Rattle.plm_meaning.proofs.Steps as steps
use Rattle.plm_type.specs.Next.{operated}
use Rattle.plm_meaning.proofs.redex.redex_step.Goals as goal

pub returns-in-Base-clause-step : goal.returns-in-Base-clause-step
returns-in-Base-clause-step c =
    let r = c.in-Base in
    steps.rewritten c.args.around.now (action.Touch (access.Read width.Word r.base)) _ _ r.is (steps.base_step c.args.around.now r.field-0 r.field-1.module r.field-1.line (where_of r.base) r.field-3)

pub returns-in-Refer-clause-step : goal.returns-in-Refer-clause-step
returns-in-Refer-clause-step c = steps.rewritten c.args.around.now _ _ _ c.in-Refer.is c.refer.ensures.step

pub returns-in-Binary-clause-step : goal.returns-in-Binary-clause-step
returns-in-Binary-clause-step c =
    let r = c.in-Binary in
    steps.rewritten c.args.around.now _ _ _ r.is
    (subst (λ o. acting c.operate.new.next (λ v. value_left o) ≡ map_action Expr (operated r.line.module r.line.line o)) c.value.ensures c.operate.ensures.step)

pub returns-in-Store-clause-step : goal.returns-in-Store-clause-step
returns-in-Store-clause-step c =
    let r = c.in-Store in
    steps.rewritten c.args.around.now _ _ _ r.is
    (ap (λ x. acting x (λ v. stored r.destination)) c.store.ensures.write
    ∙ steps.stored_step c.args.around.now r.destination (rest.ToPlain r.width (where_of r.place)) (Write r.width (where_of r.place) (low r.width (value_in r.destination))) refl)

pub returns-in-Output-clause-step : goal.returns-in-Output-clause-step
returns-in-Output-clause-step c =
    let r = c.in-Output in
    steps.rewritten c.args.around.now (action.Touch (access.Output r.width r.port c.low-v.result)) _ _ r.is
    (ap (λ n. Touch (Output r.width r.port n) (λ _. stored r.destination)) (c.low-v.ensures ∙ ap (low r.width) (c.from.ensures ∙ c.value-in-Output.ensures))
    ∙ steps.stored_step c.args.around.now r.destination (rest.ToPort r.width (Value r.port)) (Output r.width r.port (low r.width (value_in r.destination))) refl)

pub returns-in-Loop-clause-step : goal.returns-in-Loop-clause-step
returns-in-Loop-clause-step c = steps.rewritten c.args.around.now _ _ _ c.in-Loop.is (c.loop_step.ensures.step c.args.around.now)

-- a silent step says all that it leaves, but for a DO CASE, where the cases that are left have to be known
pub returns-in-Constant-clause-step : goal.returns-in-Constant-clause-step
returns-in-Constant-clause-step c =
    let s = c.args.around.now in
    elim c.in-Constant.is [
      | inl w ↦ steps.rewritten s action.Silent _ _ w.1 refl
      | inr (inl w) ↦ steps.rewritten s action.Silent _ _ w.3 refl
      | inr (inr (inl w)) ↦ steps.rewritten s action.Silent _ _ w refl
      | inr (inr (inr (inl w))) ↦ steps.rewritten s action.Silent _ _ w.1 refl
      | inr (inr (inr (inr (inl w)))) ↦ steps.rewritten s action.Silent _ _ w refl
      | inr (inr (inr (inr (inr (inl w))))) ↦ steps.rewritten s action.Silent _ _ w refl
      | inr (inr (inr (inr (inr (inr (inl w)))))) ↦ steps.rewritten s action.Silent _ _ w.2 refl
      | inr (inr (inr (inr (inr (inr (inr (inl w))))))) ↦ steps.rewritten s action.Silent _ _ w.3 refl
      | inr (inr (inr (inr (inr (inr (inr (inr (inl w)))))))) ↦ steps.rewritten s action.Silent _ _ w.1 refl
      | inr (inr (inr (inr (inr (inr (inr (inr (inr (inl w))))))))) ↦ steps.rewritten s action.Silent _ _ w refl
      | inr (inr (inr (inr (inr (inr (inr (inr (inr (inr (inl w)))))))))) ↦ steps.rewritten s action.Silent _ _ w.3 refl
      | inr (inr (inr (inr (inr (inr (inr (inr (inr (inr (inr w)))))))))) ↦ steps.rewritten s action.Silent _ _ w.2 (steps.case_left w.0 (statements_of w.1.now) Over)
    ]
