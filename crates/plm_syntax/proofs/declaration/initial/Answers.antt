use Rattle.std.proofs.Common.{◌∷◌, refl, ◌∙◌}
use Rattle.plm_token.specs.declared.token.Mark.TheVariants as mark
use Rattle.plm_syntax.specs.Terminal.{Sign}
use Rattle.plm_syntax.specs.Tree.{initial, constant_data, Attributes}
use Rattle.plm_syntax.specs.View.{values_of}
use Rattle.plm_syntax.specs.Inner.Symbol.{need, Want, Do, AttributesR, InitialG}
use Rattle.plm_syntax.specs.Inner.Machine.{a_value_list, set_initial, set_data}
use Rattle.plm_syntax.specs.Inner.Parts.{attributes_read, read_initial, read_values}
use Rattle.plm_syntax.proofs.Along.{quiet, taken, need_refused, failed, refusal}
use Rattle.plm_syntax.proofs.declaration.initial.Goals as goal

pub returns-in_err-inner-clause-leads : goal.returns-in_err-inner-clause-leads
returns-in_err-inner-clause-leads c = λ b a s v d. failed (read_initial b a) s v c.from_residual.result c.in_err-inner.field-0.0 c.from_residual.ensures.1
    (taken (Want InitialG ∷ s) (attributes_read b a v) c.in-Some.ensures
    ∙ need_refused (Sign mark.LeftParenthesis) c.in-Some.after (a_value_list (Do set_initial ∷ s)) (attributes_read b a v) c.in_err-inner.ensures.0)
    (refusal c.in_err-inner.field-0.0 c.in-Some.after c.in_err-inner.ensures.1 refl)

pub returns-in-Some-clause-leads : goal.returns-in-Some-clause-leads
returns-in-Some-clause-leads c = λ b a s v d. taken (Want InitialG ∷ s) (attributes_read b a v) c.in-Some.ensures
    ∙ taken (need mark.LeftParenthesis ∷ a_value_list (Do set_initial ∷ s)) (attributes_read b a v) c.in_ok-inner.ensures.1
    ∙ c.in_ok-list.ensures.leads (Do set_initial ∷ s) (attributes_read b a v) d
    ∙ quiet c.in_ok-list.rest (Do set_initial ∷ s) s (read_values c.in_ok-list.list.items (attributes_read b a v)) (AttributesR (Attributes b a (initial (values_of c.in_ok-list.list.items))) ∷ v) (λ t q. refl)

pub returns-in_err-inner-2-clause-leads : goal.returns-in_err-inner-2-clause-leads
returns-in_err-inner-2-clause-leads c = λ b a s v d. failed (read_initial b a) s v c.from_residual-in_err-inner-2.result c.in_err-inner-2.field-0.0 c.from_residual-in_err-inner-2.ensures.1
    (taken (Want InitialG ∷ s) (attributes_read b a v) c.in-Some-keyword.ensures
    ∙ need_refused (Sign mark.LeftParenthesis) c.in-Some-keyword.after (a_value_list (Do set_data ∷ s)) (attributes_read b a v) c.in_err-inner-2.ensures.0)
    (refusal c.in_err-inner-2.field-0.0 c.in-Some-keyword.after c.in_err-inner-2.ensures.1 refl)

pub returns-in-Some-keyword-clause-leads : goal.returns-in-Some-keyword-clause-leads
returns-in-Some-keyword-clause-leads c = λ b a s v d. taken (Want InitialG ∷ s) (attributes_read b a v) c.in-Some-keyword.ensures
    ∙ taken (need mark.LeftParenthesis ∷ a_value_list (Do set_data ∷ s)) (attributes_read b a v) c.in_ok-inner-2.ensures.1
    ∙ c.in_ok-list-2.ensures.leads (Do set_data ∷ s) (attributes_read b a v) d
    ∙ quiet c.in_ok-list-2.rest (Do set_data ∷ s) s (read_values c.in_ok-list-2.list.items (attributes_read b a v)) (AttributesR (Attributes b a (constant_data (values_of c.in_ok-list-2.list.items))) ∷ v) (λ t q. refl)
