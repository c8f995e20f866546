use Rattle.std.proofs.Common.{◌∷◌, Ok, Err, refl, ◌∙◌}
use Rattle.plm_token.specs.declared.token.Mark.TheVariants as mark
use Rattle.plm_syntax.specs.Tree.{ReferenceE, Labelled, CallS}
use Rattle.plm_syntax.specs.View.{name_of, reference_of}
use Rattle.plm_syntax.specs.Inner.Symbol.{need, push, Want, Do, ExpressionR, NamesR, StatementR, SubscriptsG, SelectorG, CalledG}
use Rattle.plm_syntax.specs.Inner.Machine.{plain, make_call, run}
use Rattle.plm_syntax.specs.Inner.Parsed.{ahead, next_of}
use Rattle.plm_syntax.specs.Inner.Blocks.{read_basic}
use Rattle.plm_syntax.specs.Inner.Parts.{read_reference, reference_read}
use Rattle.plm_syntax.proofs.Along.{quiet, taken, refused, failed, refusal}
use Rattle.plm_syntax.proofs.Joined.{closes}
use Rattle.plm_syntax.proofs.NextBlock.{called_refused}
use Rattle.plm_syntax.proofs.statement.call.Goals as goal

pub returns-in_err-name-clause-leads : goal.returns-in_err-name-clause-leads
returns-in_err-name-clause-leads c = λ ls s v d. failed (read_basic ls) s v c.from_residual.result c.in_err-name.field-0.0 c.from_residual.ensures.1
    (refused CalledG c.args.cursor (need mark.Semicolon ∷ Do (make_call c.args.place) ∷ s) (NamesR ls ∷ v) (called_refused (next_of c.args.cursor) c.in_err-name.ensures.0))
    (refusal c.in_err-name.field-0.0 c.args.cursor c.in_err-name.ensures.1 refl)

pub returns-in_err-called-clause-leads : goal.returns-in_err-called-clause-leads
returns-in_err-called-clause-leads c = λ ls s v d. failed (read_basic ls) s v c.from_residual-in_err-called.result c.in_err-called.field-0.0 c.from_residual-in_err-called.ensures.1
    (taken (Want CalledG ∷ need mark.Semicolon ∷ Do (make_call c.args.place) ∷ s) (NamesR ls ∷ v) c.in_ok-name.ensures
    ∙ quiet c.in_ok-name.begun (push (ExpressionR (ReferenceE (plain (name_of c.in_ok-name.name)))) ∷ Want SubscriptsG ∷ Want SelectorG ∷ need mark.Semicolon ∷ Do (make_call c.args.place) ∷ s) (Want SubscriptsG ∷ Want SelectorG ∷ need mark.Semicolon ∷ Do (make_call c.args.place) ∷ s) (NamesR ls ∷ v) (reference_read (name_of c.in_ok-name.name) (NamesR ls ∷ v)) (λ t q. refl))
    (closes read_reference mark.Semicolon (Do (make_call c.args.place) ∷ s) (NamesR ls ∷ v) c.reference.result (Err c.in_err-called.field-0.0) (run 64 (Want SubscriptsG ∷ Want SelectorG ∷ need mark.Semicolon ∷ Do (make_call c.args.place) ∷ s) (reference_read (name_of c.in_ok-name.name) (NamesR ls ∷ v)) (ahead c.in_ok-name.begun)) c.in_err-called.ensures (c.reference.ensures.leads (need mark.Semicolon ∷ Do (make_call c.args.place) ∷ s) (NamesR ls ∷ v) d))

pub returns-clause-leads : goal.returns-clause-leads
returns-clause-leads c = λ ls s v d. taken (Want CalledG ∷ need mark.Semicolon ∷ Do (make_call c.args.place) ∷ s) (NamesR ls ∷ v) c.in_ok-name.ensures
    ∙ quiet c.in_ok-name.begun (push (ExpressionR (ReferenceE (plain (name_of c.in_ok-name.name)))) ∷ Want SubscriptsG ∷ Want SelectorG ∷ need mark.Semicolon ∷ Do (make_call c.args.place) ∷ s) (Want SubscriptsG ∷ Want SelectorG ∷ need mark.Semicolon ∷ Do (make_call c.args.place) ∷ s) (NamesR ls ∷ v) (reference_read (name_of c.in_ok-name.name) (NamesR ls ∷ v)) (λ t q. refl)
    ∙ closes read_reference mark.Semicolon (Do (make_call c.args.place) ∷ s) (NamesR ls ∷ v) c.reference.result (Ok (c.in_ok-called.called, c.in_ok-called.rest)) (run 64 (Want SubscriptsG ∷ Want SelectorG ∷ need mark.Semicolon ∷ Do (make_call c.args.place) ∷ s) (reference_read (name_of c.in_ok-name.name) (NamesR ls ∷ v)) (ahead c.in_ok-name.begun)) c.in_ok-called.ensures (c.reference.ensures.leads (need mark.Semicolon ∷ Do (make_call c.args.place) ∷ s) (NamesR ls ∷ v) d)
    ∙ quiet c.in_ok-called.rest (Do (make_call c.args.place) ∷ s) s (read_reference c.in_ok-called.called (NamesR ls ∷ v)) (StatementR (Labelled ls (CallS c.args.place (reference_of c.in_ok-called.called))) ∷ v) (λ t q. refl)
