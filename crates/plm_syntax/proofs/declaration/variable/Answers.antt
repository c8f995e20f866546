use Rattle.std.proofs.Common.{◌∷◌, None, refl, ◌∙◌}
use Rattle.plm_syntax.specs.Tree.{VariableOf}
use Rattle.plm_syntax.specs.View.{name_of}
use Rattle.plm_syntax.specs.Inner.Symbol.{push, Want, VariableR, VariableG, BasedG}
use Rattle.plm_syntax.specs.Inner.Parsed.{next_of}
use Rattle.plm_syntax.specs.Inner.Parts.{read_variable}
use Rattle.plm_syntax.proofs.Along.{quiet, taken, refused, failed, refusal, arrives_behind}
use Rattle.plm_syntax.proofs.NextDeclaration.{variable_refused}
use Rattle.plm_syntax.proofs.declaration.variable.Goals as goal

pub returns-in_err-name-clause-leads : goal.returns-in_err-name-clause-leads
returns-in_err-name-clause-leads c = λ s v. failed read_variable s v c.from_residual.result c.in_err-name.field-0.0 c.from_residual.ensures.1
    (refused VariableG c.args.cursor s v (variable_refused (next_of c.args.cursor) c.in_err-name.ensures.0))
    (refusal c.in_err-name.field-0.0 c.args.cursor c.in_err-name.ensures.1 refl)

pub returns-clause-leads : goal.returns-clause-leads
returns-clause-leads c = λ s v. arrives_behind read_variable s v c.based.result
    (taken (Want VariableG ∷ s) v c.in_ok-name.ensures
    ∙ quiet c.in_ok-name.rest (push (VariableR (VariableOf (name_of c.in_ok-name.name) None)) ∷ Want BasedG ∷ s) (Want BasedG ∷ s) v (VariableR (VariableOf (name_of c.in_ok-name.name) None) ∷ v) (λ t q. refl))
    (c.based.ensures.leads s v)
