use Rattle.std.proofs.Common.{◌∷◌, refl, ◌∙◌}
use Rattle.plm_token.specs.declared.token.Mark.TheVariants as mark
use Rattle.plm_syntax.specs.Tree.{Labelled, EmptyS, EnableS, DisableS, HaltS}
use Rattle.plm_syntax.specs.Inner.Symbol.{Want, Do, NamesR, StatementR, StatementG}
use Rattle.plm_syntax.specs.Inner.Machine.{make_simple}
use Rattle.plm_syntax.specs.Inner.Parsed.{next_of}
use Rattle.plm_syntax.specs.Inner.Blocks.{read_basic}
use Rattle.plm_syntax.specs.declared.tree.Basic.TheVariants as basic
use Rattle.plm_syntax.proofs.Along.{quiet, taken, refused, refusal, arrives_behind}
use Rattle.plm_syntax.proofs.Joined.{closes_at}
use Rattle.plm_syntax.proofs.NextBlock.{statement_refused}
use Rattle.plm_syntax.proofs.statement.plain.Goals as goal

pub returns-in-Some-clause-leads : goal.returns-in-Some-clause-leads
returns-in-Some-clause-leads c = λ label ls s v d. taken (Want (StatementG label) ∷ s) (NamesR ls ∷ v) c.in-Some.ensures
    ∙ quiet c.in-Some.rest (Do (make_simple (EmptyS c.in-Some.place)) ∷ s) s (NamesR ls ∷ v) (StatementR (Labelled ls (EmptyS c.in-Some.place)) ∷ v) (λ t q. refl)

pub returns-in-Some-keyword-clause-leads : goal.returns-in-Some-keyword-clause-leads
returns-in-Some-keyword-clause-leads c = λ label ls s v d. arrives_behind (read_basic ls) s v c.call.result (taken (Want (StatementG label) ∷ s) (NamesR ls ∷ v) c.in-Some-keyword.ensures) (c.call.ensures.leads ls s v d)

pub returns-in-Some-keyword-2-clause-leads : goal.returns-in-Some-keyword-2-clause-leads
returns-in-Some-keyword-2-clause-leads c = λ label ls s v d. arrives_behind (read_basic ls) s v c.return_from.result (taken (Want (StatementG label) ∷ s) (NamesR ls ∷ v) c.in-Some-keyword-2.ensures) (c.return_from.ensures.leads ls s v d)

pub returns-in-Some-keyword-3-clause-leads : goal.returns-in-Some-keyword-3-clause-leads
returns-in-Some-keyword-3-clause-leads c = λ label ls s v d. closes_at (read_basic ls) mark.Semicolon s (Do (make_simple (EnableS c.in-Some-keyword-3.place)) ∷ s) v (NamesR ls ∷ v) (basic.Enable c.in-Some-keyword-3.place) c.in-Some-keyword-3.after c.close.result c.close.ensures
    (taken (Want (StatementG label) ∷ s) (NamesR ls ∷ v) c.in-Some-keyword-3.ensures)
    (λ b. quiet b (Do (make_simple (EnableS c.in-Some-keyword-3.place)) ∷ s) s (NamesR ls ∷ v) (StatementR (Labelled ls (EnableS c.in-Some-keyword-3.place)) ∷ v) (λ t q. refl))

pub returns-in-Some-keyword-4-clause-leads : goal.returns-in-Some-keyword-4-clause-leads
returns-in-Some-keyword-4-clause-leads c = λ label ls s v d. closes_at (read_basic ls) mark.Semicolon s (Do (make_simple (DisableS c.in-Some-keyword-4.place)) ∷ s) v (NamesR ls ∷ v) (basic.Disable c.in-Some-keyword-4.place) c.in-Some-keyword-4.after c.close-in-Some-keyword-4.result c.close-in-Some-keyword-4.ensures
    (taken (Want (StatementG label) ∷ s) (NamesR ls ∷ v) c.in-Some-keyword-4.ensures)
    (λ b. quiet b (Do (make_simple (DisableS c.in-Some-keyword-4.place)) ∷ s) s (NamesR ls ∷ v) (StatementR (Labelled ls (DisableS c.in-Some-keyword-4.place)) ∷ v) (λ t q. refl))

pub returns-in-Some-keyword-5-clause-leads : goal.returns-in-Some-keyword-5-clause-leads
returns-in-Some-keyword-5-clause-leads c = λ label ls s v d. closes_at (read_basic ls) mark.Semicolon s (Do (make_simple (HaltS c.in-Some-keyword-5.place)) ∷ s) v (NamesR ls ∷ v) (basic.Halt c.in-Some-keyword-5.place) c.in-Some-keyword-5.after c.close-in-Some-keyword-5.result c.close-in-Some-keyword-5.ensures
    (taken (Want (StatementG label) ∷ s) (NamesR ls ∷ v) c.in-Some-keyword-5.ensures)
    (λ b. quiet b (Do (make_simple (HaltS c.in-Some-keyword-5.place)) ∷ s) s (NamesR ls ∷ v) (StatementR (Labelled ls (HaltS c.in-Some-keyword-5.place)) ∷ v) (λ t q. refl))

pub returns-clause-leads : goal.returns-clause-leads
returns-clause-leads c = λ label ls s v d. refusal c.refuse.result c.args.cursor c.refuse.ensures (refused (StatementG label) c.args.cursor s (NamesR ls ∷ v) (statement_refused label (next_of c.args.cursor) c.requires.name c.requires.condition c.requires.group c.in_default.ensures c.in_default-keyword.ensures c.in_default-keyword-2.ensures c.in_default-keyword-3.ensures c.in_default-keyword-4.ensures c.in_default-keyword-5.ensures))
