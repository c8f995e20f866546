use Rattle.std.proofs.Common.{◌∷◌, refl, ◌∙◌}
use Rattle.plm_token.specs.declared.token.Mark.TheVariants as mark
use Rattle.plm_syntax.specs.Terminal.{Sign}
use Rattle.plm_syntax.specs.declared.tree.At.TheVariants as at_tree
use Rattle.plm_syntax.specs.Tree.{no_at, at_number, at_location, no_initial, Attributes}
use Rattle.plm_syntax.specs.View.{number_of, location_of}
use Rattle.plm_syntax.specs.Inner.Symbol.{need, Want, Do, AttributesR, AtG, AtBodyG}
use Rattle.plm_syntax.specs.Inner.Machine.{set_at, set_at_location}
use Rattle.plm_syntax.specs.Inner.Parsed.{ahead, next_of}
use Rattle.plm_syntax.specs.Inner.Parts.{attributes_read, read_at, read_location}
use Rattle.plm_syntax.proofs.Along.{quiet, taken, refused, need_refused, failed, refusal}
use Rattle.plm_syntax.proofs.Joined.{closes_at}
use Rattle.plm_syntax.proofs.NextDeclaration.{at_body_refused, located_at}
use Rattle.plm_syntax.proofs.declaration.at.Goals as goal

pub returns-in_err-inner-clause-leads : goal.returns-in_err-inner-clause-leads
returns-in_err-inner-clause-leads c = λ b s v d. failed (read_at b) s v c.from_residual.result c.in_err-inner.field-0.0 c.from_residual.ensures.1
    (taken (Want AtG ∷ s) (attributes_read b no_at v) c.in-Some.ensures
    ∙ need_refused (Sign mark.LeftParenthesis) c.in-Some.after (Want AtBodyG ∷ need mark.RightParenthesis ∷ s) (attributes_read b no_at v) c.in_err-inner.ensures.0)
    (refusal c.in_err-inner.field-0.0 c.in-Some.after c.in_err-inner.ensures.1 refl)

pub returns-in-Some-numeral-clause-leads : goal.returns-in-Some-numeral-clause-leads
returns-in-Some-numeral-clause-leads c = λ b s v d. closes_at (read_at b) mark.RightParenthesis s s v (AttributesR (Attributes b (at_number (number_of c.in-Some-numeral.number)) no_initial) ∷ v) (at_tree.Numeral c.in-Some-numeral.number) c.in-Some-numeral.behind c.close.result c.close.ensures
    (taken (Want AtG ∷ s) (attributes_read b no_at v) c.in-Some.ensures
    ∙ taken (need mark.LeftParenthesis ∷ Want AtBodyG ∷ need mark.RightParenthesis ∷ s) (attributes_read b no_at v) c.in_ok-inner.ensures.1
    ∙ taken (Want AtBodyG ∷ need mark.RightParenthesis ∷ s) (attributes_read b no_at v) c.in-Some-numeral.ensures
    ∙ quiet c.in-Some-numeral.behind (Do (set_at (at_number (number_of c.in-Some-numeral.number))) ∷ need mark.RightParenthesis ∷ s) (need mark.RightParenthesis ∷ s) (attributes_read b no_at v) (AttributesR (Attributes b (at_number (number_of c.in-Some-numeral.number)) no_initial) ∷ v) (λ t q. refl))
    (λ a. refl)

pub returns-in_default-form_at-clause-leads : goal.returns-in_default-form_at-clause-leads
returns-in_default-form_at-clause-leads c = λ b s v d. refusal c.refuse.result c.in_ok-inner.inner c.refuse.ensures
    (taken (Want AtG ∷ s) (attributes_read b no_at v) c.in-Some.ensures
    ∙ taken (need mark.LeftParenthesis ∷ Want AtBodyG ∷ need mark.RightParenthesis ∷ s) (attributes_read b no_at v) c.in_ok-inner.ensures.1
    ∙ refused AtBodyG c.in_ok-inner.inner (need mark.RightParenthesis ∷ s) (attributes_read b no_at v) (at_body_refused (next_of c.in_ok-inner.inner) c.in_default-numeral.ensures c.in_default-form_at.ensures.0 c.in_default-form_at.ensures.1))

pub returns-clause-leads : goal.returns-clause-leads
returns-clause-leads c = λ b s v d. closes_at (read_at b) mark.RightParenthesis s s v (AttributesR (Attributes b (at_location (location_of c.in_ok-location.location)) no_initial) ∷ v) (at_tree.Location c.in_ok-location.location) c.in_ok-location.behind c.close-2.result c.close-2.ensures
    (taken (Want AtG ∷ s) (attributes_read b no_at v) c.in-Some.ensures
    ∙ taken (need mark.LeftParenthesis ∷ Want AtBodyG ∷ need mark.RightParenthesis ∷ s) (attributes_read b no_at v) c.in_ok-inner.ensures.1
    ∙ taken (Want AtBodyG ∷ need mark.RightParenthesis ∷ s) (attributes_read b no_at v) c.in-Some-form_at.ensures
    ∙ located_at c.in-Some-form_at.form c.in-Some-form_at.place (need mark.RightParenthesis ∷ s) (attributes_read b no_at v) (ahead c.in-Some-form_at.start)
    ∙ c.in_ok-location.ensures.leads (Do set_at_location ∷ need mark.RightParenthesis ∷ s) (attributes_read b no_at v) d
    ∙ quiet c.in_ok-location.behind (Do set_at_location ∷ need mark.RightParenthesis ∷ s) (need mark.RightParenthesis ∷ s) (read_location c.in_ok-location.location (attributes_read b no_at v)) (AttributesR (Attributes b (at_location (location_of c.in_ok-location.location)) no_initial) ∷ v) (λ t q. refl))
    (λ a. refl)
