use Rattle.std.proofs.Common.{◌∷◌, Some, None, refl, ◌∙◌}
use Rattle.plm_token.specs.declared.token.Mark.TheVariants as mark
use Rattle.plm_syntax.specs.View.{number_of}
use Rattle.plm_syntax.specs.Inner.Symbol.{Want, Do, CountR, CountG, CountNumberG}
use Rattle.plm_syntax.specs.Inner.Machine.{set_count}
use Rattle.plm_syntax.specs.Inner.Parsed.{next_of}
use Rattle.plm_syntax.specs.Inner.Parts.{read_count}
use Rattle.plm_syntax.proofs.Along.{quiet, taken, refused, failed, refusal}
use Rattle.plm_syntax.proofs.Joined.{closes_at}
use Rattle.plm_syntax.proofs.NextDeclaration.{count_refused}
use Rattle.plm_syntax.proofs.declaration.count.Goals as goal

pub returns-in_err-number-clause-leads : goal.returns-in_err-number-clause-leads
returns-in_err-number-clause-leads c = λ s v. failed read_count s v c.from_residual.result c.in_err-number.field-0.0 c.from_residual.ensures.1
    (taken (Want CountG ∷ s) (CountR None ∷ v) c.in-Some.ensures
    ∙ refused CountNumberG c.in-Some.inner s (CountR None ∷ v) (count_refused (next_of c.in-Some.inner) c.in_err-number.ensures.0))
    (refusal c.in_err-number.field-0.0 c.in-Some.inner c.in_err-number.ensures.1 refl)

pub returns-clause-leads : goal.returns-clause-leads
returns-clause-leads c = λ s v. closes_at read_count mark.RightParenthesis s (Do (set_count (number_of c.in_ok-number.number)) ∷ s) v (CountR None ∷ v) (Some c.in_ok-number.number) c.in_ok-number.behind c.close.result c.close.ensures
    (taken (Want CountG ∷ s) (CountR None ∷ v) c.in-Some.ensures
    ∙ taken (Want CountNumberG ∷ s) (CountR None ∷ v) c.in_ok-number.ensures)
    (λ b. quiet b (Do (set_count (number_of c.in_ok-number.number)) ∷ s) s (CountR None ∷ v) (CountR (Some (number_of c.in_ok-number.number)) ∷ v) (λ t q. refl))
