use Rattle.std.proofs.Common.{◌∷◌, refl, ◌∙◌}
use Rattle.plm_syntax.specs.Tree.{Labelled, ReturnS, ReturnValueS}
use Rattle.plm_syntax.specs.View.{expression_of}
use Rattle.plm_syntax.specs.Inner.Symbol.{Want, Do, NamesR, StatementR, ReturnedG}
use Rattle.plm_syntax.specs.Inner.Machine.{make_simple, make_return}
use Rattle.plm_syntax.specs.Inner.Blocks.{read_basic}
use Rattle.plm_syntax.specs.Inner.Parts.{read_expression}
use Rattle.plm_syntax.proofs.Along.{quiet, taken, failed}
use Rattle.plm_syntax.proofs.NextBlock.{returned_goes}
use Rattle.plm_syntax.proofs.statement.return_from.Goals as goal

pub returns-in-Some-clause-leads : goal.returns-in-Some-clause-leads
returns-in-Some-clause-leads c = λ ls s v d. taken (Want (ReturnedG c.args.place) ∷ s) (NamesR ls ∷ v) c.in-Some.ensures
    ∙ quiet c.in-Some.rest (Do (make_simple (ReturnS c.args.place)) ∷ s) s (NamesR ls ∷ v) (StatementR (Labelled ls (ReturnS c.args.place)) ∷ v) (λ t q. refl)

pub returns-in_err-value-clause-leads : goal.returns-in_err-value-clause-leads
returns-in_err-value-clause-leads c = λ ls s v d. failed (read_basic ls) s v c.from_residual.result c.in_err-value.field-0.0 c.from_residual.ensures.1
    (returned_goes c.args.place c.args.cursor s (NamesR ls ∷ v) c.in_default.ensures)
    (c.in_err-value.ensures.leads (Do (make_return c.args.place) ∷ s) (NamesR ls ∷ v) d)

pub returns-clause-leads : goal.returns-clause-leads
returns-clause-leads c = λ ls s v d. returned_goes c.args.place c.args.cursor s (NamesR ls ∷ v) c.in_default.ensures
    ∙ c.in_ok-value.ensures.leads (Do (make_return c.args.place) ∷ s) (NamesR ls ∷ v) d
    ∙ quiet c.in_ok-value.rest (Do (make_return c.args.place) ∷ s) s (read_expression c.in_ok-value.value (NamesR ls ∷ v)) (StatementR (Labelled ls (ReturnValueS c.args.place (expression_of c.in_ok-value.value))) ∷ v) (λ t q. refl)
