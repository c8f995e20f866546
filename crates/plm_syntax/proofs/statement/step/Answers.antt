use Rattle.std.proofs.Common.{◌∷◌, Some, None, Ok, refl, ◌∙◌, arith}
use Rattle.plm_token.specs.declared.token.Mark.TheVariants as mark
use Rattle.plm_syntax.specs.View.{expression_of}
use Rattle.plm_syntax.specs.Inner.Symbol.{need, Want, Do, StepR, StepG}
use Rattle.plm_syntax.specs.Inner.Machine.{set_step, run}
use Rattle.plm_syntax.specs.Inner.Parsed.{ahead}
use Rattle.plm_syntax.specs.Inner.Blocks.{read_step}
use Rattle.plm_syntax.specs.Inner.Parts.{read_expression}
use Rattle.plm_syntax.proofs.Along.{quiet, taken, failed}
use Rattle.plm_syntax.proofs.Joined.{closes, closes_less}
use Rattle.plm_syntax.proofs.NextBlock.{no_step}
use Rattle.plm_syntax.proofs.statement.step.Goals as goal

pub returns-in_default-clause-leads : goal.returns-in_default-clause-leads
returns-in_default-clause-leads c = λ s v d. closes read_step mark.Semicolon s v (Ok (None, c.args.cursor)) c.close.result (run 64 (Want StepG ∷ need mark.Semicolon ∷ s) (StepR None ∷ v) (ahead c.args.cursor)) c.close.ensures
    (no_step c.args.cursor (need mark.Semicolon ∷ s) (StepR None ∷ v) c.in_default.ensures)

pub returns-in_default-clause-within : goal.returns-in_default-clause-within
returns-in_default-clause-within c = closes_less mark.Semicolon c.args.cursor (Ok (None, c.args.cursor)) c.close.result c.close.ensures (omega arith)

pub returns-in_err-value-clause-leads : goal.returns-in_err-value-clause-leads
returns-in_err-value-clause-leads c = λ s v d. failed read_step s v c.from_residual.result c.in_err-value.field-0.0 c.from_residual.ensures.1
    (taken (Want StepG ∷ need mark.Semicolon ∷ s) (StepR None ∷ v) c.in-Some.ensures)
    (c.in_err-value.ensures.leads (Do set_step ∷ need mark.Semicolon ∷ s) (StepR None ∷ v) d)

pub returns-clause-leads : goal.returns-clause-leads
returns-clause-leads c = λ s v d. closes read_step mark.Semicolon s v (Ok (Some c.in_ok-value.value, c.in_ok-value.behind)) c.close-2.result (run 64 (Want StepG ∷ need mark.Semicolon ∷ s) (StepR None ∷ v) (ahead c.args.cursor)) c.close-2.ensures
    (taken (Want StepG ∷ need mark.Semicolon ∷ s) (StepR None ∷ v) c.in-Some.ensures
    ∙ c.in_ok-value.ensures.leads (Do set_step ∷ need mark.Semicolon ∷ s) (StepR None ∷ v) d
    ∙ quiet c.in_ok-value.behind (Do set_step ∷ need mark.Semicolon ∷ s) (need mark.Semicolon ∷ s) (read_expression c.in_ok-value.value (StepR None ∷ v)) (StepR (Some (expression_of c.in_ok-value.value)) ∷ v) (λ t q. refl))

pub returns-clause-within : goal.returns-clause-within
returns-clause-within c = closes_less mark.Semicolon c.args.cursor (Ok (Some c.in_ok-value.value, c.in_ok-value.behind)) c.close-2.result c.close-2.ensures (omega (arith, c.in_ok-value.ensures.within, c.in-Some.ensures.shorter))
