use Rattle.std.proofs.Common.{◌∷◌, ◌++◌, [], List, refl, sym, ap, ◌∙◌, arith, Ok}
use Rattle.plm_syntax.specs.declared.tree.Variable.{Variable}
use Rattle.plm_syntax.specs.Tree.{VariablesT, variables, no_variables}
use Rattle.plm_syntax.specs.View.{variable_of, variables_from}
use Rattle.plm_syntax.specs.Inner.Symbol.{Want, Do, VariablesR, VariableG, MoreVariablesG}
use Rattle.plm_syntax.specs.Inner.Machine.{add_variable, run}
use Rattle.plm_syntax.specs.Inner.Parsed.{ahead, next_of}
use Rattle.plm_syntax.specs.Inner.Parts.{read_variable, read_variables}
use Rattle.plm_syntax.proofs.Rows.{variable_pushed}
use Rattle.plm_syntax.proofs.Along.{quiet, taken, refused, failed}
use Rattle.plm_syntax.proofs.Joined.{arrived, lost, stays_within, closes_by, closes_within}
use Rattle.plm_token.specs.declared.token.Mark.TheVariants as mark
use Rattle.plm_syntax.proofs.NextDeclaration.{more_variables_refused}
use Rattle.plm_syntax.proofs.declaration.variables.Goals as goal

pub loop-after-init : goal.loop-after-init
loop-after-init c = record {
  leads = λ s v. arrived read_variable (Do add_variable ∷ Want MoreVariablesG ∷ s) (VariablesR no_variables ∷ v) c.in_ok-rest.ensures.1.0 (c.variable.ensures.leads (Do add_variable ∷ Want MoreVariablesG ∷ s) (VariablesR no_variables ∷ v))
      ∙ quiet c.in_ok-rest.rest (Do add_variable ∷ Want MoreVariablesG ∷ s) (Want MoreVariablesG ∷ s) (read_variable c.in_ok-rest.ensures.0 (VariablesR no_variables ∷ v)) (VariablesR (variables no_variables (variable_of c.in_ok-rest.ensures.0)) ∷ v) (λ t q. refl)
      ∙ ap (λ (xs : List Variable). run 64 (Want MoreVariablesG ∷ s) (VariablesR (variables_from xs no_variables) ∷ v) (ahead c.in_ok-rest.rest)) (sym (c.in_ok-rest.ensures.1.1 ∙ ap (λ (xs : List Variable). xs ++ c.in_ok-rest.ensures.0 ∷ []) c.new-list.ensures.items));
  shorter = stays_within c.args.cursor c.in_ok-rest.ensures.1.0 c.variable.ensures.within;
}

pub loop-after-preserved : goal.loop-after-preserved
loop-after-preserved c = record {
  leads = λ s v. c.loop-after.invariant.leads s v
      ∙ taken (Want MoreVariablesG ∷ s) (VariablesR (variables_from c.loop-after.list.items no_variables) ∷ v) c.in-Some.ensures
      ∙ arrived read_variable (Do add_variable ∷ Want MoreVariablesG ∷ s) (VariablesR (variables_from c.loop-after.list.items no_variables) ∷ v) c.in_ok-rest-2.ensures.1.0 (c.variable-in-Some.ensures.leads (Do add_variable ∷ Want MoreVariablesG ∷ s) (VariablesR (variables_from c.loop-after.list.items no_variables) ∷ v))
      ∙ quiet c.in_ok-rest-2.rest (Do add_variable ∷ Want MoreVariablesG ∷ s) (Want MoreVariablesG ∷ s) (read_variable c.in_ok-rest-2.ensures.0 (VariablesR (variables_from c.loop-after.list.items no_variables) ∷ v)) (VariablesR (variables (variables_from c.loop-after.list.items no_variables) (variable_of c.in_ok-rest-2.ensures.0)) ∷ v) (λ t q. refl)
      ∙ ap (λ (xs : VariablesT). run 64 (Want MoreVariablesG ∷ s) (VariablesR xs ∷ v) (ahead c.in_ok-rest-2.rest)) (sym (variable_pushed c.loop-after.list.items c.in_ok-rest-2.ensures.0 no_variables))
      ∙ ap (λ (xs : List Variable). run 64 (Want MoreVariablesG ∷ s) (VariablesR (variables_from xs no_variables) ∷ v) (ahead c.in_ok-rest-2.rest)) (sym c.in_ok-rest-2.ensures.1.1);
  shorter = omega (arith, c.loop-after.invariant.shorter, c.in-Some.ensures.shorter, stays_within c.in-Some.after c.in_ok-rest-2.ensures.1.0 c.variable-in-Some.ensures.within);
}

pub returns-in_err-rest-clause-leads : goal.returns-in_err-rest-clause-leads
returns-in_err-rest-clause-leads c = λ s v. failed (λ vs. read_variables vs.items) s v c.from_residual.result c.in_err-rest.field-0.0 c.from_residual.ensures.1
    (refl)
    (lost read_variable (Do add_variable ∷ Want MoreVariablesG ∷ s) (VariablesR no_variables ∷ v) c.variable.result c.in_err-rest.field-0.0 (run 64 (Want VariableG ∷ Do add_variable ∷ Want MoreVariablesG ∷ s) (VariablesR no_variables ∷ v) (ahead c.args.cursor)) c.in_err-rest.ensures (c.variable.ensures.leads (Do add_variable ∷ Want MoreVariablesG ∷ s) (VariablesR no_variables ∷ v)))

pub returns-in_err-rest-2-clause-leads : goal.returns-in_err-rest-2-clause-leads
returns-in_err-rest-2-clause-leads c = λ s v. failed (λ vs. read_variables vs.items) s v c.from_residual-in_err-rest-2.result c.in_err-rest-2.field-0.0 c.from_residual-in_err-rest-2.ensures.1
    (c.loop-after.invariant.leads s v
    ∙ taken (Want MoreVariablesG ∷ s) (VariablesR (variables_from c.loop-after.list.items no_variables) ∷ v) c.in-Some.ensures)
    (lost read_variable (Do add_variable ∷ Want MoreVariablesG ∷ s) (VariablesR (variables_from c.loop-after.list.items no_variables) ∷ v) c.variable-in-Some.result c.in_err-rest-2.field-0.0 (run 64 (Want VariableG ∷ Do add_variable ∷ Want MoreVariablesG ∷ s) (VariablesR (variables_from c.loop-after.list.items no_variables) ∷ v) (ahead c.in-Some.after)) c.in_err-rest-2.ensures (c.variable-in-Some.ensures.leads (Do add_variable ∷ Want MoreVariablesG ∷ s) (VariablesR (variables_from c.loop-after.list.items no_variables) ∷ v)))

pub returns-clause-leads : goal.returns-clause-leads
returns-clause-leads c = λ s v. closes_by (λ vs. read_variables vs.items) mark.RightParenthesis s v c.loop-after.list c.loop-after.rest c.close.result c.close.ensures
    (λ q. c.loop-after.invariant.leads s v
    ∙ refused MoreVariablesG c.loop-after.rest s (VariablesR (variables_from c.loop-after.list.items no_variables) ∷ v) (more_variables_refused (next_of c.loop-after.rest) c.in_default.ensures q))
    (λ p b h. c.loop-after.invariant.leads s v
    ∙ taken (Want MoreVariablesG ∷ s) (VariablesR (variables_from c.loop-after.list.items no_variables) ∷ v) h)

pub returns-clause-within : goal.returns-clause-within
returns-clause-within c = closes_within mark.RightParenthesis c.args.cursor (Ok (c.loop-after.list, c.loop-after.rest)) c.close.result c.close.ensures c.loop-after.invariant.shorter
