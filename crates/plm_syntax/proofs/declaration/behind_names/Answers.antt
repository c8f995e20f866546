use Rattle.std.proofs.Common.{◌∷◌, ◌++◌, false, refl, ◌∙◌}
use Rattle.plm_syntax.specs.Tree.{no_dimension, no_at, no_initial, Attributes, VariableElement, elements}
use Rattle.plm_syntax.specs.View.{declared_of, dimension_of, type_of, attributes_of}
use Rattle.plm_syntax.specs.Inner.Symbol.{push, Want, Do, DeclaredR, DimensionR, AttributesR, ElementsR, DimensionG, TypeG, AttributesG}
use Rattle.plm_syntax.specs.Inner.Machine.{add_element, make_element, declared_tail}
use Rattle.plm_syntax.specs.Inner.Parts.{read_element, read_dimension, read_type, read_attributes, attributes_read}
use Rattle.plm_syntax.proofs.Along.{quiet, failed}
use Rattle.plm_syntax.proofs.declaration.behind_names.Goals as goal

pub returns-in_err-dimension-clause-leads : goal.returns-in_err-dimension-clause-leads
returns-in_err-dimension-clause-leads c = λ es s v d. failed (read_element es) s v c.from_residual.result c.in_err-dimension.field-0.0 c.from_residual.ensures.1
    (quiet c.args.cursor (declared_tail ++ (Do add_element ∷ s)) (Want DimensionG ∷ Want TypeG ∷ push (AttributesR (Attributes false no_at no_initial)) ∷ Want AttributesG ∷ Do make_element ∷ Do add_element ∷ s) (DeclaredR (declared_of c.args.declared) ∷ ElementsR es ∷ v) (DimensionR no_dimension ∷ DeclaredR (declared_of c.args.declared) ∷ ElementsR es ∷ v) (λ t q. refl))
    (c.in_err-dimension.ensures.leads (Want TypeG ∷ push (AttributesR (Attributes false no_at no_initial)) ∷ Want AttributesG ∷ Do make_element ∷ Do add_element ∷ s) (DeclaredR (declared_of c.args.declared) ∷ ElementsR es ∷ v))

pub returns-in_err-form-clause-leads : goal.returns-in_err-form-clause-leads
returns-in_err-form-clause-leads c = λ es s v d. failed (read_element es) s v c.from_residual-in_err-form.result c.in_err-form.field-0.0 c.from_residual-in_err-form.ensures.1
    (quiet c.args.cursor (declared_tail ++ (Do add_element ∷ s)) (Want DimensionG ∷ Want TypeG ∷ push (AttributesR (Attributes false no_at no_initial)) ∷ Want AttributesG ∷ Do make_element ∷ Do add_element ∷ s) (DeclaredR (declared_of c.args.declared) ∷ ElementsR es ∷ v) (DimensionR no_dimension ∷ DeclaredR (declared_of c.args.declared) ∷ ElementsR es ∷ v) (λ t q. refl)
    ∙ c.in_ok-dimension.ensures.leads (Want TypeG ∷ push (AttributesR (Attributes false no_at no_initial)) ∷ Want AttributesG ∷ Do make_element ∷ Do add_element ∷ s) (DeclaredR (declared_of c.args.declared) ∷ ElementsR es ∷ v))
    (c.in_err-form.ensures.leads (push (AttributesR (Attributes false no_at no_initial)) ∷ Want AttributesG ∷ Do make_element ∷ Do add_element ∷ s) (read_dimension c.in_ok-dimension.dimension (DeclaredR (declared_of c.args.declared) ∷ ElementsR es ∷ v)))

pub returns-in_err-attributes-clause-leads : goal.returns-in_err-attributes-clause-leads
returns-in_err-attributes-clause-leads c = λ es s v d. failed (read_element es) s v c.from_residual-in_err-attributes.result c.in_err-attributes.field-0.0 c.from_residual-in_err-attributes.ensures.1
    (quiet c.args.cursor (declared_tail ++ (Do add_element ∷ s)) (Want DimensionG ∷ Want TypeG ∷ push (AttributesR (Attributes false no_at no_initial)) ∷ Want AttributesG ∷ Do make_element ∷ Do add_element ∷ s) (DeclaredR (declared_of c.args.declared) ∷ ElementsR es ∷ v) (DimensionR no_dimension ∷ DeclaredR (declared_of c.args.declared) ∷ ElementsR es ∷ v) (λ t q. refl)
    ∙ c.in_ok-dimension.ensures.leads (Want TypeG ∷ push (AttributesR (Attributes false no_at no_initial)) ∷ Want AttributesG ∷ Do make_element ∷ Do add_element ∷ s) (DeclaredR (declared_of c.args.declared) ∷ ElementsR es ∷ v)
    ∙ c.in_ok-form.ensures.leads (push (AttributesR (Attributes false no_at no_initial)) ∷ Want AttributesG ∷ Do make_element ∷ Do add_element ∷ s) (read_dimension c.in_ok-dimension.dimension (DeclaredR (declared_of c.args.declared) ∷ ElementsR es ∷ v))
    ∙ quiet c.in_ok-form.rest (push (AttributesR (Attributes false no_at no_initial)) ∷ Want AttributesG ∷ Do make_element ∷ Do add_element ∷ s) (Want AttributesG ∷ Do make_element ∷ Do add_element ∷ s) (read_type c.in_ok-form.form (read_dimension c.in_ok-dimension.dimension (DeclaredR (declared_of c.args.declared) ∷ ElementsR es ∷ v))) (attributes_read false no_at (read_type c.in_ok-form.form (read_dimension c.in_ok-dimension.dimension (DeclaredR (declared_of c.args.declared) ∷ ElementsR es ∷ v)))) (λ t q. refl))
    (c.in_err-attributes.ensures.leads (Do make_element ∷ Do add_element ∷ s) (read_type c.in_ok-form.form (read_dimension c.in_ok-dimension.dimension (DeclaredR (declared_of c.args.declared) ∷ ElementsR es ∷ v))) d)

pub returns-clause-leads : goal.returns-clause-leads
returns-clause-leads c = λ es s v d. quiet c.args.cursor (declared_tail ++ (Do add_element ∷ s)) (Want DimensionG ∷ Want TypeG ∷ push (AttributesR (Attributes false no_at no_initial)) ∷ Want AttributesG ∷ Do make_element ∷ Do add_element ∷ s) (DeclaredR (declared_of c.args.declared) ∷ ElementsR es ∷ v) (DimensionR no_dimension ∷ DeclaredR (declared_of c.args.declared) ∷ ElementsR es ∷ v) (λ t q. refl)
    ∙ c.in_ok-dimension.ensures.leads (Want TypeG ∷ push (AttributesR (Attributes false no_at no_initial)) ∷ Want AttributesG ∷ Do make_element ∷ Do add_element ∷ s) (DeclaredR (declared_of c.args.declared) ∷ ElementsR es ∷ v)
    ∙ c.in_ok-form.ensures.leads (push (AttributesR (Attributes false no_at no_initial)) ∷ Want AttributesG ∷ Do make_element ∷ Do add_element ∷ s) (read_dimension c.in_ok-dimension.dimension (DeclaredR (declared_of c.args.declared) ∷ ElementsR es ∷ v))
    ∙ quiet c.in_ok-form.rest (push (AttributesR (Attributes false no_at no_initial)) ∷ Want AttributesG ∷ Do make_element ∷ Do add_element ∷ s) (Want AttributesG ∷ Do make_element ∷ Do add_element ∷ s) (read_type c.in_ok-form.form (read_dimension c.in_ok-dimension.dimension (DeclaredR (declared_of c.args.declared) ∷ ElementsR es ∷ v))) (attributes_read false no_at (read_type c.in_ok-form.form (read_dimension c.in_ok-dimension.dimension (DeclaredR (declared_of c.args.declared) ∷ ElementsR es ∷ v)))) (λ t q. refl)
    ∙ c.in_ok-attributes.ensures.leads (Do make_element ∷ Do add_element ∷ s) (read_type c.in_ok-form.form (read_dimension c.in_ok-dimension.dimension (DeclaredR (declared_of c.args.declared) ∷ ElementsR es ∷ v))) d
    ∙ quiet c.in_ok-attributes.rest (Do make_element ∷ Do add_element ∷ s) s (read_attributes c.in_ok-attributes.attributes (read_type c.in_ok-form.form (read_dimension c.in_ok-dimension.dimension (DeclaredR (declared_of c.args.declared) ∷ ElementsR es ∷ v)))) (ElementsR (elements es (VariableElement (declared_of c.args.declared) (dimension_of c.in_ok-dimension.dimension) (type_of c.in_ok-form.form) (attributes_of c.in_ok-attributes.attributes))) ∷ v) (λ t q. refl)
