use Rattle.std.proofs.Common.{◌∷◌, Some, None, refl, ◌∙◌}
use Rattle.plm_syntax.specs.Tree.{VariableOf}
use Rattle.plm_syntax.specs.View.{name_of}
use Rattle.plm_syntax.specs.Inner.Symbol.{Want, Do, VariableR, BasedG, BaseG}
use Rattle.plm_syntax.specs.Inner.Machine.{set_base}
use Rattle.plm_syntax.specs.Inner.Parsed.{next_of}
use Rattle.plm_syntax.specs.Inner.Parts.{read_variable}
use Rattle.plm_syntax.proofs.Along.{quiet, taken, refused, failed, refusal}
use Rattle.plm_syntax.proofs.NextDeclaration.{base_refused}
use Rattle.plm_syntax.proofs.declaration.based.Goals as goal

pub returns-in_err-base-clause-leads : goal.returns-in_err-base-clause-leads
returns-in_err-base-clause-leads c = λ s v. failed read_variable s v c.from_residual.result c.in_err-base.field-0.0 c.from_residual.ensures.1
    (taken (Want BasedG ∷ s) (VariableR (VariableOf (name_of c.args.name) None) ∷ v) c.in-Some.ensures
    ∙ refused BaseG c.in-Some.after s (VariableR (VariableOf (name_of c.args.name) None) ∷ v) (base_refused (next_of c.in-Some.after) c.in_err-base.ensures.0))
    (refusal c.in_err-base.field-0.0 c.in-Some.after c.in_err-base.ensures.1 refl)

pub returns-clause-leads : goal.returns-clause-leads
returns-clause-leads c = λ s v. taken (Want BasedG ∷ s) (VariableR (VariableOf (name_of c.args.name) None) ∷ v) c.in-Some.ensures
    ∙ taken (Want BaseG ∷ s) (VariableR (VariableOf (name_of c.args.name) None) ∷ v) c.in_ok-base.ensures
    ∙ quiet c.in_ok-base.rest (Do (set_base (name_of c.in_ok-base.base)) ∷ s) s (VariableR (VariableOf (name_of c.args.name) None) ∷ v) (VariableR (VariableOf (name_of c.args.name) (Some (name_of c.in_ok-base.base))) ∷ v) (λ t q. refl)
