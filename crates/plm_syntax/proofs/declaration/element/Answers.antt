use Rattle.std.proofs.Common.{◌∷◌, ◌++◌, None, refl, ◌∙◌}
use Rattle.plm_syntax.specs.Tree.{VariableOf, no_variables, OneVariable, VariableList, LiteralElement, elements}
use Rattle.plm_syntax.specs.View.{name_of, text_of, variable_of, variables_from}
use Rattle.plm_syntax.specs.Inner.Symbol.{push, Want, Do, VariableR, VariablesR, DeclaredR, ElementsR, ElementG, ElementLeadG, LiteralTextG, VariableG, MoreVariablesG}
use Rattle.plm_syntax.specs.Inner.Machine.{add_element, make_literal, add_variable, one_variable, variable_group, declared_tail}
use Rattle.plm_syntax.specs.Inner.Parsed.{next_of}
use Rattle.plm_syntax.specs.Inner.Parts.{read_element, read_variable, read_variables}
use Rattle.plm_syntax.proofs.Along.{quiet, taken, refused, failed, refusal, arrives_behind}
use Rattle.plm_syntax.proofs.NextDeclaration.{element_refused, literal_refused, lead_goes}
use Rattle.plm_syntax.proofs.declaration.element.Goals as goal

pub returns-in_err-list-clause-leads : goal.returns-in_err-list-clause-leads
returns-in_err-list-clause-leads c = λ es s v d. failed (read_element es) s v c.from_residual.result c.in_err-list.field-0.0 c.from_residual.ensures.1
    (taken (Want ElementG ∷ s) (ElementsR es ∷ v) c.in-Some.ensures
    ∙ quiet c.in-Some.inner (push (VariablesR no_variables) ∷ Want VariableG ∷ Do add_variable ∷ Want MoreVariablesG ∷ Do variable_group ∷ (declared_tail ++ (Do add_element ∷ s))) (Want VariableG ∷ Do add_variable ∷ Want MoreVariablesG ∷ Do variable_group ∷ (declared_tail ++ (Do add_element ∷ s))) (ElementsR es ∷ v) (VariablesR no_variables ∷ ElementsR es ∷ v) (λ t q. refl))
    (c.in_err-list.ensures.leads (Do variable_group ∷ (declared_tail ++ (Do add_element ∷ s))) (ElementsR es ∷ v))

pub returns-in-Some-clause-leads : goal.returns-in-Some-clause-leads
returns-in-Some-clause-leads c = λ es s v d. arrives_behind (read_element es) s v c.behind_names.result
    (taken (Want ElementG ∷ s) (ElementsR es ∷ v) c.in-Some.ensures
    ∙ quiet c.in-Some.inner (push (VariablesR no_variables) ∷ Want VariableG ∷ Do add_variable ∷ Want MoreVariablesG ∷ Do variable_group ∷ (declared_tail ++ (Do add_element ∷ s))) (Want VariableG ∷ Do add_variable ∷ Want MoreVariablesG ∷ Do variable_group ∷ (declared_tail ++ (Do add_element ∷ s))) (ElementsR es ∷ v) (VariablesR no_variables ∷ ElementsR es ∷ v) (λ t q. refl)
    ∙ c.in_ok-list.ensures.leads (Do variable_group ∷ (declared_tail ++ (Do add_element ∷ s))) (ElementsR es ∷ v)
    ∙ quiet c.in_ok-list.rest (Do variable_group ∷ (declared_tail ++ (Do add_element ∷ s))) (declared_tail ++ (Do add_element ∷ s)) (read_variables c.in_ok-list.list.items (ElementsR es ∷ v)) (DeclaredR (VariableList (variables_from c.in_ok-list.list.items no_variables)) ∷ ElementsR es ∷ v) (λ t q. refl))
    (c.behind_names.ensures.leads es s v d)

pub returns-in_err-name-clause-leads : goal.returns-in_err-name-clause-leads
returns-in_err-name-clause-leads c = λ es s v d. failed (read_element es) s v c.from_residual-in_err-name.result c.in_err-name.field-0.0 c.from_residual-in_err-name.ensures.1
    (refused ElementG c.args.cursor s (ElementsR es ∷ v) (element_refused (next_of c.args.cursor) c.in_default.ensures c.in_err-name.ensures.0))
    (refusal c.in_err-name.field-0.0 c.args.cursor c.in_err-name.ensures.1 refl)

pub returns-in-Some-text-clause-leads : goal.returns-in-Some-text-clause-leads
returns-in-Some-text-clause-leads c = λ es s v d. taken (Want ElementG ∷ s) (ElementsR es ∷ v) c.in_ok-name.ensures
    ∙ quiet c.in_ok-name.rest (push (VariableR (VariableOf (name_of c.in_ok-name.name) None)) ∷ Want ElementLeadG ∷ Do add_element ∷ s) (Want ElementLeadG ∷ Do add_element ∷ s) (ElementsR es ∷ v) (VariableR (VariableOf (name_of c.in_ok-name.name) None) ∷ ElementsR es ∷ v) (λ t q. refl)
    ∙ taken (Want ElementLeadG ∷ Do add_element ∷ s) (VariableR (VariableOf (name_of c.in_ok-name.name) None) ∷ ElementsR es ∷ v) c.in-Some-keyword.ensures
    ∙ taken (Want LiteralTextG ∷ Do add_element ∷ s) (VariableR (VariableOf (name_of c.in_ok-name.name) None) ∷ ElementsR es ∷ v) c.in-Some-text.ensures
    ∙ quiet c.in-Some-text.behind (Do (make_literal (text_of c.in-Some-text.text)) ∷ Do add_element ∷ s) s (VariableR (VariableOf (name_of c.in_ok-name.name) None) ∷ ElementsR es ∷ v) (ElementsR (elements es (LiteralElement (name_of c.in_ok-name.name) (text_of c.in-Some-text.text))) ∷ v) (λ t q. refl)

pub returns-in-None-clause-leads : goal.returns-in-None-clause-leads
returns-in-None-clause-leads c = λ es s v d. refusal c.refuse.result c.in-Some-keyword.after c.refuse.ensures
    (taken (Want ElementG ∷ s) (ElementsR es ∷ v) c.in_ok-name.ensures
    ∙ quiet c.in_ok-name.rest (push (VariableR (VariableOf (name_of c.in_ok-name.name) None)) ∷ Want ElementLeadG ∷ Do add_element ∷ s) (Want ElementLeadG ∷ Do add_element ∷ s) (ElementsR es ∷ v) (VariableR (VariableOf (name_of c.in_ok-name.name) None) ∷ ElementsR es ∷ v) (λ t q. refl)
    ∙ taken (Want ElementLeadG ∷ Do add_element ∷ s) (VariableR (VariableOf (name_of c.in_ok-name.name) None) ∷ ElementsR es ∷ v) c.in-Some-keyword.ensures
    ∙ refused LiteralTextG c.in-Some-keyword.after (Do add_element ∷ s) (VariableR (VariableOf (name_of c.in_ok-name.name) None) ∷ ElementsR es ∷ v) (literal_refused (next_of c.in-Some-keyword.after) c.in-None.ensures))

pub returns-in_err-variable-clause-leads : goal.returns-in_err-variable-clause-leads
returns-in_err-variable-clause-leads c = λ es s v d. failed (read_element es) s v c.from_residual-in_err-variable.result c.in_err-variable.field-0.0 c.from_residual-in_err-variable.ensures.1
    (taken (Want ElementG ∷ s) (ElementsR es ∷ v) c.in_ok-name.ensures
    ∙ quiet c.in_ok-name.rest (push (VariableR (VariableOf (name_of c.in_ok-name.name) None)) ∷ Want ElementLeadG ∷ Do add_element ∷ s) (Want ElementLeadG ∷ Do add_element ∷ s) (ElementsR es ∷ v) (VariableR (VariableOf (name_of c.in_ok-name.name) None) ∷ ElementsR es ∷ v) (λ t q. refl)
    ∙ lead_goes c.in_ok-name.rest (VariableOf (name_of c.in_ok-name.name) None) (Do add_element ∷ s) (ElementsR es ∷ v) c.in_default-keyword.ensures)
    (c.in_err-variable.ensures.leads (Do one_variable ∷ (declared_tail ++ (Do add_element ∷ s))) (ElementsR es ∷ v))

pub returns-clause-leads : goal.returns-clause-leads
returns-clause-leads c = λ es s v d. arrives_behind (read_element es) s v c.behind_names-2.result
    (taken (Want ElementG ∷ s) (ElementsR es ∷ v) c.in_ok-name.ensures
    ∙ quiet c.in_ok-name.rest (push (VariableR (VariableOf (name_of c.in_ok-name.name) None)) ∷ Want ElementLeadG ∷ Do add_element ∷ s) (Want ElementLeadG ∷ Do add_element ∷ s) (ElementsR es ∷ v) (VariableR (VariableOf (name_of c.in_ok-name.name) None) ∷ ElementsR es ∷ v) (λ t q. refl)
    ∙ lead_goes c.in_ok-name.rest (VariableOf (name_of c.in_ok-name.name) None) (Do add_element ∷ s) (ElementsR es ∷ v) c.in_default-keyword.ensures
    ∙ c.in_ok-variable.ensures.leads (Do one_variable ∷ (declared_tail ++ (Do add_element ∷ s))) (ElementsR es ∷ v)
    ∙ quiet c.in_ok-variable.behind (Do one_variable ∷ (declared_tail ++ (Do add_element ∷ s))) (declared_tail ++ (Do add_element ∷ s)) (read_variable c.in_ok-variable.variable (ElementsR es ∷ v)) (DeclaredR (OneVariable (variable_of c.in_ok-variable.variable)) ∷ ElementsR es ∷ v) (λ t q. refl))
    (c.behind_names-2.ensures.leads es s v d)
