use Rattle.std.proofs.Common.{◌∷◌, ◌++◌, [], List, refl, sym, ap, ◌∙◌, arith}
use Rattle.plm_token.specs.declared.token.Mark.TheVariants as mark
use Rattle.plm_syntax.specs.declared.tree.Reference.{Reference}
use Rattle.plm_syntax.specs.Tree.{ReferenceE, ReferencesT, references, no_references, Labelled, AssignS}
use Rattle.plm_syntax.specs.View.{name_of, expression_of, reference_of, references_from}
use Rattle.plm_syntax.specs.Inner.Symbol.{need, push, Want, Do, ExpressionR, NamesR, ReferencesR, StatementR, TargetG, MoreTargetsG, SubscriptsG, SelectorG}
use Rattle.plm_syntax.specs.Inner.Machine.{plain, an_expression, add_target, make_assign, run}
use Rattle.plm_syntax.specs.Inner.Parsed.{ahead, next_of}
use Rattle.plm_syntax.specs.Inner.Blocks.{read_basic}
use Rattle.plm_syntax.specs.Inner.Parts.{read_expression, read_reference, reference_read}
use Rattle.plm_syntax.proofs.Rows.{reference_pushed}
use Rattle.plm_syntax.proofs.Along.{out_of_memory, quiet, taken, refused, failed, refusal}
use Rattle.plm_syntax.proofs.Joined.{arrived, lost, stays_within}
use Rattle.plm_syntax.proofs.NextBlock.{more_targets_refused, target_refused}
use Rattle.plm_syntax.proofs.statement.assignment.Goals as goal

pub loop-after-init : goal.loop-after-init
loop-after-init c =
    let first = c.in_ok-rest.ensures.0 in (
      [],
      first,
      c.in_ok-rest.ensures.1.1 ∙ ap (λ (xs : List Reference). xs ++ first ∷ []) c.in_ok-targets.ensures.items,
      (λ ls s v d. arrived read_reference (Want MoreTargetsG ∷ s) (ReferencesR no_references ∷ NamesR ls ∷ v) c.in_ok-rest.ensures.1.0 (c.reference.ensures.leads (Want MoreTargetsG ∷ s) (ReferencesR no_references ∷ NamesR ls ∷ v) d)),
      stays_within c.args.cursor c.in_ok-rest.ensures.1.0 c.reference.ensures.within,
    )

pub loop-after-preserved : goal.loop-after-preserved
loop-after-preserved c =
    let next = c.in_ok-rest-2.ensures.0 in (
      c.loop-after.targets.items,
      next,
      c.in_ok-rest-2.ensures.1.1,
      (λ ls s v d. c.loop-after.invariant.3 ls s v d
          ∙ taken (Want MoreTargetsG ∷ s) (read_reference c.loop-after.invariant.1 (ReferencesR (references_from c.loop-after.invariant.0 no_references) ∷ NamesR ls ∷ v)) c.in-Some.ensures
          ∙ taken (Do add_target ∷ Want TargetG ∷ s) (read_reference c.loop-after.invariant.1 (ReferencesR (references_from c.loop-after.invariant.0 no_references) ∷ NamesR ls ∷ v)) c.in_ok-name.ensures
          ∙ quiet c.in_ok-name.begun (push (ExpressionR (ReferenceE (plain (name_of c.in_ok-name.name)))) ∷ Want SubscriptsG ∷ Want SelectorG ∷ Want MoreTargetsG ∷ s) (Want SubscriptsG ∷ Want SelectorG ∷ Want MoreTargetsG ∷ s) (ReferencesR (references (references_from c.loop-after.invariant.0 no_references) (reference_of c.loop-after.invariant.1)) ∷ NamesR ls ∷ v) (reference_read (name_of c.in_ok-name.name) (ReferencesR (references (references_from c.loop-after.invariant.0 no_references) (reference_of c.loop-after.invariant.1)) ∷ NamesR ls ∷ v)) (λ t q. refl)
          ∙ arrived read_reference (Want MoreTargetsG ∷ s) (ReferencesR (references (references_from c.loop-after.invariant.0 no_references) (reference_of c.loop-after.invariant.1)) ∷ NamesR ls ∷ v) c.in_ok-rest-2.ensures.1.0 (c.reference-in-Some.ensures.leads (Want MoreTargetsG ∷ s) (ReferencesR (references (references_from c.loop-after.invariant.0 no_references) (reference_of c.loop-after.invariant.1)) ∷ NamesR ls ∷ v) d)
          ∙ ap (λ (xs : ReferencesT). run 64 (Want MoreTargetsG ∷ s) (read_reference next (ReferencesR xs ∷ NamesR ls ∷ v)) (ahead c.in_ok-rest-2.rest)) (sym (reference_pushed c.loop-after.invariant.0 c.loop-after.invariant.1 no_references))
          ∙ ap (λ (xs : List Reference). run 64 (Want MoreTargetsG ∷ s) (read_reference next (ReferencesR (references_from xs no_references) ∷ NamesR ls ∷ v)) (ahead c.in_ok-rest-2.rest)) (sym c.loop-after.invariant.2)),
      omega (arith, c.loop-after.invariant.4, c.in-Some.ensures.shorter, c.in_ok-name.ensures.shorter, stays_within c.in_ok-name.begun c.in_ok-rest-2.ensures.1.0 c.reference-in-Some.ensures.within),
    )

pub returns-in_err-targets-clause-leads : goal.returns-in_err-targets-clause-leads
returns-in_err-targets-clause-leads c = λ ls s v d. out_of_memory (read_basic ls) s v c.from_residual.result (run 64 (Want SubscriptsG ∷ Want SelectorG ∷ Want MoreTargetsG ∷ s) (reference_read (name_of c.args.name) (ReferencesR no_references ∷ NamesR ls ∷ v)) (ahead c.args.cursor)) c.from_residual.ensures.1

pub returns-in_err-rest-clause-leads : goal.returns-in_err-rest-clause-leads
returns-in_err-rest-clause-leads c = λ ls s v d. failed (read_basic ls) s v c.from_residual-in_err-rest.result c.in_err-rest.field-0.0 c.from_residual-in_err-rest.ensures.1 refl
    (lost read_reference (Want MoreTargetsG ∷ s) (ReferencesR no_references ∷ NamesR ls ∷ v) c.reference.result c.in_err-rest.field-0.0 (run 64 (Want SubscriptsG ∷ Want SelectorG ∷ Want MoreTargetsG ∷ s) (reference_read (name_of c.args.name) (ReferencesR no_references ∷ NamesR ls ∷ v)) (ahead c.args.cursor)) c.in_err-rest.ensures (c.reference.ensures.leads (Want MoreTargetsG ∷ s) (ReferencesR no_references ∷ NamesR ls ∷ v) d))

pub returns-in_err-name-clause-leads : goal.returns-in_err-name-clause-leads
returns-in_err-name-clause-leads c = λ ls s v d. failed (read_basic ls) s v c.from_residual-in_err-name.result c.in_err-name.field-0.0 c.from_residual-in_err-name.ensures.1
    (c.loop-after.invariant.3 ls s v d
    ∙ taken (Want MoreTargetsG ∷ s) (read_reference c.loop-after.invariant.1 (ReferencesR (references_from c.loop-after.invariant.0 no_references) ∷ NamesR ls ∷ v)) c.in-Some.ensures
    ∙ quiet c.in-Some.after (Do add_target ∷ Want TargetG ∷ s) (Want TargetG ∷ s) (read_reference c.loop-after.invariant.1 (ReferencesR (references_from c.loop-after.invariant.0 no_references) ∷ NamesR ls ∷ v)) (ReferencesR (references (references_from c.loop-after.invariant.0 no_references) (reference_of c.loop-after.invariant.1)) ∷ NamesR ls ∷ v) (λ t q. refl)
    ∙ refused TargetG c.in-Some.after s (ReferencesR (references (references_from c.loop-after.invariant.0 no_references) (reference_of c.loop-after.invariant.1)) ∷ NamesR ls ∷ v) (target_refused (next_of c.in-Some.after) c.in_err-name.ensures.0))
    (refusal c.in_err-name.field-0.0 c.in-Some.after c.in_err-name.ensures.1 refl)

pub returns-in_err-rest-2-clause-leads : goal.returns-in_err-rest-2-clause-leads
returns-in_err-rest-2-clause-leads c = λ ls s v d. failed (read_basic ls) s v c.from_residual-in_err-rest-2.result c.in_err-rest-2.field-0.0 c.from_residual-in_err-rest-2.ensures.1
    (c.loop-after.invariant.3 ls s v d
    ∙ taken (Want MoreTargetsG ∷ s) (read_reference c.loop-after.invariant.1 (ReferencesR (references_from c.loop-after.invariant.0 no_references) ∷ NamesR ls ∷ v)) c.in-Some.ensures
    ∙ taken (Do add_target ∷ Want TargetG ∷ s) (read_reference c.loop-after.invariant.1 (ReferencesR (references_from c.loop-after.invariant.0 no_references) ∷ NamesR ls ∷ v)) c.in_ok-name.ensures
    ∙ quiet c.in_ok-name.begun (push (ExpressionR (ReferenceE (plain (name_of c.in_ok-name.name)))) ∷ Want SubscriptsG ∷ Want SelectorG ∷ Want MoreTargetsG ∷ s) (Want SubscriptsG ∷ Want SelectorG ∷ Want MoreTargetsG ∷ s) (ReferencesR (references (references_from c.loop-after.invariant.0 no_references) (reference_of c.loop-after.invariant.1)) ∷ NamesR ls ∷ v) (reference_read (name_of c.in_ok-name.name) (ReferencesR (references (references_from c.loop-after.invariant.0 no_references) (reference_of c.loop-after.invariant.1)) ∷ NamesR ls ∷ v)) (λ t q. refl))
    (lost read_reference (Want MoreTargetsG ∷ s) (ReferencesR (references (references_from c.loop-after.invariant.0 no_references) (reference_of c.loop-after.invariant.1)) ∷ NamesR ls ∷ v) c.reference-in-Some.result c.in_err-rest-2.field-0.0 (run 64 (Want SubscriptsG ∷ Want SelectorG ∷ Want MoreTargetsG ∷ s) (reference_read (name_of c.in_ok-name.name) (ReferencesR (references (references_from c.loop-after.invariant.0 no_references) (reference_of c.loop-after.invariant.1)) ∷ NamesR ls ∷ v)) (ahead c.in_ok-name.begun)) c.in_err-rest-2.ensures (c.reference-in-Some.ensures.leads (Want MoreTargetsG ∷ s) (ReferencesR (references (references_from c.loop-after.invariant.0 no_references) (reference_of c.loop-after.invariant.1)) ∷ NamesR ls ∷ v) d))

pub returns-in_err-after-clause-leads : goal.returns-in_err-after-clause-leads
returns-in_err-after-clause-leads c = λ ls s v d. failed (read_basic ls) s v c.from_residual-in_err-after.result c.in_err-after.field-0.0 c.from_residual-in_err-after.ensures.1
    (c.loop-after.invariant.3 ls s v d
    ∙ refused MoreTargetsG c.loop-after.rest s (read_reference c.loop-after.invariant.1 (ReferencesR (references_from c.loop-after.invariant.0 no_references) ∷ NamesR ls ∷ v)) (more_targets_refused (next_of c.loop-after.rest) c.in_default.ensures c.in_err-after.ensures.0))
    (refusal c.in_err-after.field-0.0 c.loop-after.rest c.in_err-after.ensures.1 refl)

pub returns-in_err-value-clause-leads : goal.returns-in_err-value-clause-leads
returns-in_err-value-clause-leads c = λ ls s v d. failed (read_basic ls) s v c.from_residual-in_err-value.result c.in_err-value.field-0.0 c.from_residual-in_err-value.ensures.1
    (c.loop-after.invariant.3 ls s v d
    ∙ taken (Want MoreTargetsG ∷ s) (read_reference c.loop-after.invariant.1 (ReferencesR (references_from c.loop-after.invariant.0 no_references) ∷ NamesR ls ∷ v)) c.in_ok-after.ensures.1
    ∙ quiet c.in_ok-after.after (Do add_target ∷ an_expression (need mark.Semicolon ∷ Do make_assign ∷ s)) (an_expression (need mark.Semicolon ∷ Do make_assign ∷ s)) (read_reference c.loop-after.invariant.1 (ReferencesR (references_from c.loop-after.invariant.0 no_references) ∷ NamesR ls ∷ v)) (ReferencesR (references (references_from c.loop-after.invariant.0 no_references) (reference_of c.loop-after.invariant.1)) ∷ NamesR ls ∷ v) (λ t q. refl))
    (c.in_err-value.ensures.leads (Do make_assign ∷ s) (ReferencesR (references (references_from c.loop-after.invariant.0 no_references) (reference_of c.loop-after.invariant.1)) ∷ NamesR ls ∷ v) d)

pub returns-clause-leads : goal.returns-clause-leads
returns-clause-leads c = λ ls s v d. c.loop-after.invariant.3 ls s v d
    ∙ taken (Want MoreTargetsG ∷ s) (read_reference c.loop-after.invariant.1 (ReferencesR (references_from c.loop-after.invariant.0 no_references) ∷ NamesR ls ∷ v)) c.in_ok-after.ensures.1
    ∙ quiet c.in_ok-after.after (Do add_target ∷ an_expression (need mark.Semicolon ∷ Do make_assign ∷ s)) (an_expression (need mark.Semicolon ∷ Do make_assign ∷ s)) (read_reference c.loop-after.invariant.1 (ReferencesR (references_from c.loop-after.invariant.0 no_references) ∷ NamesR ls ∷ v)) (ReferencesR (references (references_from c.loop-after.invariant.0 no_references) (reference_of c.loop-after.invariant.1)) ∷ NamesR ls ∷ v) (λ t q. refl)
    ∙ c.in_ok-value.ensures.leads (Do make_assign ∷ s) (ReferencesR (references (references_from c.loop-after.invariant.0 no_references) (reference_of c.loop-after.invariant.1)) ∷ NamesR ls ∷ v) d
    ∙ quiet c.in_ok-value.end (Do make_assign ∷ s) s (read_expression c.in_ok-value.value (ReferencesR (references (references_from c.loop-after.invariant.0 no_references) (reference_of c.loop-after.invariant.1)) ∷ NamesR ls ∷ v)) (StatementR (Labelled ls (AssignS (references (references_from c.loop-after.invariant.0 no_references) (reference_of c.loop-after.invariant.1)) (expression_of c.in_ok-value.value))) ∷ v) (λ t q. refl)
    ∙ ap (λ (xs : ReferencesT). run 64 s (StatementR (Labelled ls (AssignS xs (expression_of c.in_ok-value.value))) ∷ v) (ahead c.in_ok-value.end)) (sym (reference_pushed c.loop-after.invariant.0 c.loop-after.invariant.1 no_references))
    ∙ ap (λ (xs : List Reference). run 64 s (StatementR (Labelled ls (AssignS (references_from xs no_references) (expression_of c.in_ok-value.value))) ∷ v) (ahead c.in_ok-value.end)) (sym c.loop-after.invariant.2)

pub returns-clause-within : goal.returns-clause-within
returns-clause-within c = omega (arith, c.loop-after.invariant.4, c.in_ok-after.ensures.1.shorter, c.in_ok-value.ensures.within)
