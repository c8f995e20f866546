use Rattle.std.proofs.Common.{◌∷◌, true, false, refl, ◌∙◌}
use Rattle.plm_syntax.specs.Tree.{no_at, External}
use Rattle.plm_syntax.specs.Inner.Symbol.{Want, Do, AttributesR, AttributesG, AtG, InitialG}
use Rattle.plm_syntax.specs.Inner.Machine.{set_external, set_public}
use Rattle.plm_syntax.specs.Inner.Parts.{read_attributes, attributes_read}
use Rattle.plm_syntax.proofs.Along.{quiet, taken, arrives_behind}
use Rattle.plm_syntax.proofs.NextDeclaration.{attributes_go}
use Rattle.plm_syntax.proofs.declaration.attributes.Goals as goal

pub returns-in-Some-clause-leads : goal.returns-in-Some-clause-leads
returns-in-Some-clause-leads c = λ s v d. taken (Want AttributesG ∷ s) (attributes_read false no_at v) c.in-Some.ensures
    ∙ quiet c.in-Some.rest (Do set_external ∷ s) s (attributes_read false no_at v) (AttributesR External ∷ v) (λ t q. refl)

pub returns-in-Some-keyword-clause-leads : goal.returns-in-Some-keyword-clause-leads
returns-in-Some-keyword-clause-leads c = λ s v d. arrives_behind read_attributes s v c.own_attributes.result
    (taken (Want AttributesG ∷ s) (attributes_read false no_at v) c.in-Some-keyword.ensures
    ∙ quiet c.in-Some-keyword.rest (Do set_public ∷ Want AtG ∷ Want InitialG ∷ s) (Want AtG ∷ Want InitialG ∷ s) (attributes_read false no_at v) (attributes_read true no_at v) (λ t q. refl))
    (c.own_attributes.ensures.leads s v d)

pub returns-clause-leads : goal.returns-clause-leads
returns-clause-leads c = λ s v d. arrives_behind read_attributes s v c.own_attributes-2.result (attributes_go c.args.cursor s (attributes_read false no_at v) c.in_default.ensures c.in_default-keyword.ensures) (c.own_attributes-2.ensures.leads s v d)
