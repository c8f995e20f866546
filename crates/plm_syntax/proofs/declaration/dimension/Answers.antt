use Rattle.std.proofs.Common.{◌∷◌, refl, ◌∙◌}
use Rattle.plm_token.specs.declared.token.Mark.TheVariants as mark
use Rattle.plm_syntax.specs.declared.tree.Dimension.TheVariants as dimension_tree
use Rattle.plm_syntax.specs.Tree.{no_dimension, dimension, implicit_dimension}
use Rattle.plm_syntax.specs.View.{number_of}
use Rattle.plm_syntax.specs.Inner.Symbol.{Want, Do, DimensionR, DimensionG, DimensionBodyG}
use Rattle.plm_syntax.specs.Inner.Machine.{set_dimension}
use Rattle.plm_syntax.specs.Inner.Parsed.{next_of}
use Rattle.plm_syntax.specs.Inner.Parts.{read_dimension}
use Rattle.plm_syntax.proofs.Along.{quiet, taken, refused, failed, refusal}
use Rattle.plm_syntax.proofs.Joined.{closes_at}
use Rattle.plm_syntax.proofs.NextDeclaration.{dimension_refused}
use Rattle.plm_syntax.proofs.declaration.dimension.Goals as goal

pub returns-in-Some-mark-clause-leads : goal.returns-in-Some-mark-clause-leads
returns-in-Some-mark-clause-leads c = λ s v. closes_at read_dimension mark.RightParenthesis s (Do (set_dimension implicit_dimension) ∷ s) v (DimensionR no_dimension ∷ v) dimension_tree.Implicit c.in-Some-mark.behind c.close.result c.close.ensures
    (taken (Want DimensionG ∷ s) (DimensionR no_dimension ∷ v) c.in-Some.ensures
    ∙ taken (Want DimensionBodyG ∷ s) (DimensionR no_dimension ∷ v) c.in-Some-mark.ensures)
    (λ b. quiet b (Do (set_dimension implicit_dimension) ∷ s) s (DimensionR no_dimension ∷ v) (DimensionR implicit_dimension ∷ v) (λ t q. refl))

pub returns-in_err-number-clause-leads : goal.returns-in_err-number-clause-leads
returns-in_err-number-clause-leads c = λ s v. failed read_dimension s v c.from_residual.result c.in_err-number.field-0.0 c.from_residual.ensures.1
    (taken (Want DimensionG ∷ s) (DimensionR no_dimension ∷ v) c.in-Some.ensures
    ∙ refused DimensionBodyG c.in-Some.inner s (DimensionR no_dimension ∷ v) (dimension_refused (next_of c.in-Some.inner) c.in_default-mark.ensures c.in_err-number.ensures.0))
    (refusal c.in_err-number.field-0.0 c.in-Some.inner c.in_err-number.ensures.1 refl)

pub returns-clause-leads : goal.returns-clause-leads
returns-clause-leads c = λ s v. closes_at read_dimension mark.RightParenthesis s (Do (set_dimension (dimension (number_of c.in_ok-number.number))) ∷ s) v (DimensionR no_dimension ∷ v) (dimension_tree.Numeral c.in_ok-number.number) c.in_ok-number.behind c.close-2.result c.close-2.ensures
    (taken (Want DimensionG ∷ s) (DimensionR no_dimension ∷ v) c.in-Some.ensures
    ∙ taken (Want DimensionBodyG ∷ s) (DimensionR no_dimension ∷ v) c.in_ok-number.ensures)
    (λ b. quiet b (Do (set_dimension (dimension (number_of c.in_ok-number.number))) ∷ s) s (DimensionR no_dimension ∷ v) (DimensionR (dimension (number_of c.in_ok-number.number)) ∷ v) (λ t q. refl))
