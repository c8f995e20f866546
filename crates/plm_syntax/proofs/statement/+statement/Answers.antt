use Rattle.std.proofs.Common.{◌∷◌, ◌++◌, List, length, Option, Some, None, Result, Ok, refl, sym, ap, ◌∙◌, subst, arith}
use Rattle.plm_syntax.specs.declared.tree.Position.{Position}
use Rattle.plm_syntax.specs.declared.tree.Name.{Name as NameTree}
use Rattle.plm_syntax.specs.declared.tree.Statement.{Statement}
use Rattle.std.specs.Global.{Box}
use Rattle.plm_syntax.specs.declared.tree.Expression.{Expression}
use Rattle.plm_syntax.specs.declared.tree.Bounds.{Bounds}
use Rattle.plm_syntax.specs.declared.tree.Item.{Item}
use Rattle.plm_syntax.specs.declared.cursor.Cursor.{Cursor}
use Rattle.plm_syntax.specs.declared.failure.Failure.{Failure}
use Rattle.plm_syntax.specs.Tree.{BlockT, ProcedureI, NamesT, names, no_names, ReferenceE, no_references, StatementsT, statements, no_statements, ItemsT, items, no_items, no_elements, DeclareI, Labelled, IfS, IfElseS, DoS, WhileS, CaseS, IterateS, BlockOf}
use Rattle.plm_syntax.specs.View.{block_of, name_of, base_of, names_of, expression_of, elements_of, statement_of, statements_of, items_of, step_of, counted, linkage_of}
use Rattle.plm_syntax.specs.Inner.Symbol.{Symbol, depth, push, Want, Do, Leave, ExpressionR, NameR, NamesR, ReferencesR, StatementR, StatementsR, ItemsR, ElementsR, StatementG, LeadG, ArmG, OtherwiseG, DoG, StatementsG, ItemsG, ElementG, MoreElementsG}
use Rattle.plm_syntax.specs.Inner.Machine.{plain, add_label, join_arms, make_if, make_do, make_while, make_case, make_iterate, no_statement_yet, and_more, make_declare, make_procedure, procedure_symbols, run}
use Rattle.plm_syntax.specs.Inner.Parsed.{ahead, next_of}
use Rattle.plm_syntax.specs.Faults.{terminal_of}
use Rattle.plm_syntax.specs.Inner.Blocks.{LeadsItem, WithinItem, items_part, statements_part, read_statement, read_basic, read_block, read_body, read_governed, read_procedure, read_header, read_range, read_arm, iterate_goals, procedure_goals, no_parameters_read}
use Rattle.plm_syntax.specs.Inner.Parts.{read_expression, reference_read, read_elements}
use Rattle.plm_syntax.proofs.Rows.{name_pushed, statement_pushed, item_pushed, statement_row}
use Rattle.plm_syntax.proofs.Along.{out_of_memory, quiet, taken, refused, entered, too_deep, deeper, failed, refusal, depth_failure, arrives_behind, arrives_left, fails_behind, ahead_length}
use Rattle.plm_syntax.proofs.Joined.{arrived, ended, lost, stays_less, boxes, besides}
use Rattle.plm_syntax.proofs.NextBlock.{no_colon, do_refused, no_else, target_goes, statements_go, arm_goes, arm_too_deep, arm_refused, statements_begin, block_parts, failed_item, deep_at_length}
use Rattle.plm_syntax.proofs.Gathered.{one_there, none_there, one_lost}
use Rattle.plm_syntax.proofs.Built.{block_there, procedure_there}
use Rattle.plm_syntax.proofs.statement.+statement.Goals as goal

pub basic-returns-in-Some-clause-leads : goal.basic-returns-in-Some-clause-leads
basic-returns-in-Some-clause-leads t c = λ ls s v d. arrives_behind (read_basic ls) s v c.assignment.result
    (taken (Want (StatementG (base_of c.args.label)) ∷ s) (NamesR ls ∷ v) c.in-Some.ensures
    ∙ quiet c.in-Some.after (push (ReferencesR no_references) ∷ push (ExpressionR (ReferenceE (plain (name_of c.in-Some.name)))) ∷ Want (LeadG (name_of c.in-Some.name)) ∷ s) (Want (LeadG (name_of c.in-Some.name)) ∷ s) (NamesR ls ∷ v) (reference_read (name_of c.in-Some.name) (ReferencesR no_references ∷ NamesR ls ∷ v)) (λ t q. refl)
    ∙ target_goes (name_of c.in-Some.name) c.in-Some.after s (reference_read (name_of c.in-Some.name) (ReferencesR no_references ∷ NamesR ls ∷ v)) (no_colon c.args.cursor c.in-Some.after (name_of c.in-Some.name) c.in-Some.name.place c.in-Some.ensures c.requires))
    (c.assignment.ensures.leads ls s v d)

pub basic-returns-in-Some-keyword-clause-leads : goal.basic-returns-in-Some-keyword-clause-leads
basic-returns-in-Some-keyword-clause-leads t c = λ ls s v d. arrives_behind (read_basic ls) s v c.condition.result (taken (Want (StatementG (base_of c.args.label)) ∷ s) (NamesR ls ∷ v) c.in-Some-keyword.ensures) (c.condition.ensures.leads ls s v d)

pub basic-returns-in_err-inside-clause-leads : goal.basic-returns-in_err-inside-clause-leads
basic-returns-in_err-inside-clause-leads t c = λ ls s v d. failed (read_basic ls) s v c.from_residual.result c.in_err-inside.field-0.0 c.from_residual.ensures.1
    (taken (Want (StatementG (base_of c.args.label)) ∷ s) (NamesR ls ∷ v) c.in-Some-keyword-2.ensures
    ∙ too_deep (depth s) c.args.room c.in-Some-keyword-2.after (run 64 (Want (DoG c.in-Some-keyword-2.place (base_of c.args.label)) ∷ Leave ∷ s) (NamesR ls ∷ v) (ahead c.in-Some-keyword-2.after)) d c.in_err-inside.ensures.0)
    (depth_failure c.in_err-inside.field-0.0 c.in-Some-keyword-2.after c.in_err-inside.ensures.1 refl)

pub basic-returns-in-Some-keyword-2-clause-leads : goal.basic-returns-in-Some-keyword-2-clause-leads
basic-returns-in-Some-keyword-2-clause-leads t c = λ ls s v d. arrives_left (read_basic ls) s v c.group.result
    (taken (Want (StatementG (base_of c.args.label)) ∷ s) (NamesR ls ∷ v) c.in-Some-keyword-2.ensures
    ∙ entered (depth s) c.args.room c.in_ok-inside.inside (length (ahead c.in-Some-keyword-2.after)) (run 64 (Want (DoG c.in-Some-keyword-2.place (base_of c.args.label)) ∷ Leave ∷ s) (NamesR ls ∷ v) (ahead c.in-Some-keyword-2.after)) d c.in_ok-inside.ensures)
    (c.group.ensures.leads ls (Leave ∷ s) v (deeper (depth s) c.args.room c.in_ok-inside.inside d c.in_ok-inside.ensures))

pub arm-returns-in_default-clause-leads : goal.arm-returns-in_default-clause-leads
arm-returns-in_default-clause-leads t c = λ s v d. refusal c.refuse.result c.args.cursor c.refuse.ensures (refused ArmG c.args.cursor s v (arm_refused (next_of c.args.cursor) c.in_default.ensures))

pub arm-returns-in_err-inside-clause-leads : goal.arm-returns-in_err-inside-clause-leads
arm-returns-in_err-inside-clause-leads t c = λ s v d. failed read_arm s v c.from_residual.result c.in_err-inside.field-0.0 c.from_residual.ensures.1
    (taken (Want ArmG ∷ s) v c.in-Some.ensures.0
    ∙ arm_too_deep (terminal_of c.in-Some.field-0-0.kind c.in-Some.field-0-0.text.now c.in-Some.field-0-1) c.in-Some.field-0-1 s v (ahead c.in-Some.behind) c.in-Some.ensures.1 (omega (arith, d, c.in_err-inside.ensures.0))
    ∙ ap deep_at_length (ahead_length c.in-Some.behind.number c.in-Some.behind.tokens.now))
    (depth_failure c.in_err-inside.field-0.0 c.in-Some.behind c.in_err-inside.ensures.1 refl)

pub arm-returns-clause-leads : goal.arm-returns-clause-leads
arm-returns-clause-leads t c = λ s v d. arrives_left read_arm s v c.boxed.result
    (arm_goes c.args.cursor s v c.args.room c.in_ok-inside.inside d c.in_ok-inside.ensures)
    (boxes read_statement (Leave ∷ s) v c.statement.result c.boxed.result (run 64 (Want (StatementG None) ∷ Leave ∷ s) (NamesR no_names ∷ v) (ahead c.args.cursor)) c.boxed.ensures (c.statement.ensures.leads (Leave ∷ s) v (deeper (depth s) c.args.room c.in_ok-inside.inside d c.in_ok-inside.ensures)))

-- what is awaited after the word THEN, and after its arm
abbrev to_arms : Position → List Symbol → List Symbol
to_arms p s = Want ArmG ∷ Want OtherwiseG ∷ Do (make_if p) ∷ s

pub condition-returns-in_err-choice-clause-leads : goal.condition-returns-in_err-choice-clause-leads
condition-returns-in_err-choice-clause-leads t c = λ ls s v d. failed (read_basic ls) s v c.from_residual-in_err-choice.result c.in_err-choice.field-0.0 c.from_residual-in_err-choice.ensures.1
    (c.in_ok-asked.ensures.leads (to_arms c.args.place s) (NamesR ls ∷ v) d)
    (ended read_arm (Want OtherwiseG ∷ Do (make_if c.args.place) ∷ s) (read_expression c.in_ok-asked.asked (NamesR ls ∷ v)) (run 64 (to_arms c.args.place s) (read_expression c.in_ok-asked.asked (NamesR ls ∷ v)) (ahead c.in_ok-asked.start)) c.in_err-choice.ensures (c.arm.ensures.leads (Want OtherwiseG ∷ Do (make_if c.args.place) ∷ s) (read_expression c.in_ok-asked.asked (NamesR ls ∷ v)) d))

pub condition-returns-in_default-clause-leads : goal.condition-returns-in_default-clause-leads
condition-returns-in_default-clause-leads t c = λ ls s v d. c.in_ok-asked.ensures.leads (to_arms c.args.place s) (NamesR ls ∷ v) d
    ∙ arrived read_arm (Want OtherwiseG ∷ Do (make_if c.args.place) ∷ s) (read_expression c.in_ok-asked.asked (NamesR ls ∷ v)) c.in_ok-choice.ensures.1 (c.arm.ensures.leads (Want OtherwiseG ∷ Do (make_if c.args.place) ∷ s) (read_expression c.in_ok-asked.asked (NamesR ls ∷ v)) d)
    ∙ no_else c.in_ok-choice.behind (Do (make_if c.args.place) ∷ s) (read_arm c.in_ok-choice.choice.1 (read_expression c.in_ok-asked.asked (NamesR ls ∷ v))) c.in_default.ensures
    ∙ quiet c.in_ok-choice.behind (Do (make_if c.args.place) ∷ s) s (read_arm c.in_ok-choice.choice.1 (read_expression c.in_ok-asked.asked (NamesR ls ∷ v))) (StatementR (Labelled ls (IfS c.args.place (expression_of c.in_ok-asked.asked) (statement_of c.in_ok-choice.choice.1.value))) ∷ v) (λ t q. refl)
    ∙ ap (λ (x : Expression). run 64 s (StatementR (Labelled ls (IfS c.args.place (expression_of x) (statement_of c.in_ok-choice.choice.1.value))) ∷ v) (ahead c.in_ok-choice.behind)) (sym c.in_ok-choice.ensures.0)

pub condition-returns-in_err-test-clause-leads : goal.condition-returns-in_err-test-clause-leads
condition-returns-in_err-test-clause-leads t c = λ ls s v d. failed (read_basic ls) s v c.from_residual-in_err-test.result c.in_err-test.field-0.0 c.from_residual-in_err-test.ensures.1
    (c.in_ok-asked.ensures.leads (to_arms c.args.place s) (NamesR ls ∷ v) d
    ∙ arrived read_arm (Want OtherwiseG ∷ Do (make_if c.args.place) ∷ s) (read_expression c.in_ok-asked.asked (NamesR ls ∷ v)) c.in_ok-choice.ensures.1 (c.arm.ensures.leads (Want OtherwiseG ∷ Do (make_if c.args.place) ∷ s) (read_expression c.in_ok-asked.asked (NamesR ls ∷ v)) d)
    ∙ taken (Want OtherwiseG ∷ Do (make_if c.args.place) ∷ s) (read_arm c.in_ok-choice.choice.1 (read_expression c.in_ok-asked.asked (NamesR ls ∷ v))) c.in-Some.ensures)
    (ended read_arm (Do join_arms ∷ Do (make_if c.args.place) ∷ s) (read_arm c.in_ok-choice.choice.1 (read_expression c.in_ok-asked.asked (NamesR ls ∷ v))) (run 64 (Want ArmG ∷ Do join_arms ∷ Do (make_if c.args.place) ∷ s) (read_arm c.in_ok-choice.choice.1 (read_expression c.in_ok-asked.asked (NamesR ls ∷ v))) (ahead c.in-Some.after)) c.in_err-test.ensures (c.arm-2.ensures.leads (Do join_arms ∷ Do (make_if c.args.place) ∷ s) (read_arm c.in_ok-choice.choice.1 (read_expression c.in_ok-asked.asked (NamesR ls ∷ v))) d))

pub condition-returns-clause-leads : goal.condition-returns-clause-leads
condition-returns-clause-leads t c = λ ls s v d. c.in_ok-asked.ensures.leads (to_arms c.args.place s) (NamesR ls ∷ v) d
    ∙ arrived read_arm (Want OtherwiseG ∷ Do (make_if c.args.place) ∷ s) (read_expression c.in_ok-asked.asked (NamesR ls ∷ v)) c.in_ok-choice.ensures.1 (c.arm.ensures.leads (Want OtherwiseG ∷ Do (make_if c.args.place) ∷ s) (read_expression c.in_ok-asked.asked (NamesR ls ∷ v)) d)
    ∙ taken (Want OtherwiseG ∷ Do (make_if c.args.place) ∷ s) (read_arm c.in_ok-choice.choice.1 (read_expression c.in_ok-asked.asked (NamesR ls ∷ v))) c.in-Some.ensures
    ∙ arrived read_arm (Do join_arms ∷ Do (make_if c.args.place) ∷ s) (read_arm c.in_ok-choice.choice.1 (read_expression c.in_ok-asked.asked (NamesR ls ∷ v))) c.in_ok-test.ensures.1 (c.arm-2.ensures.leads (Do join_arms ∷ Do (make_if c.args.place) ∷ s) (read_arm c.in_ok-choice.choice.1 (read_expression c.in_ok-asked.asked (NamesR ls ∷ v))) d)
    ∙ quiet c.in_ok-test.rest (Do join_arms ∷ Do (make_if c.args.place) ∷ s) s (read_arm c.in_ok-test.other (read_arm c.in_ok-choice.choice.1 (read_expression c.in_ok-asked.asked (NamesR ls ∷ v)))) (StatementR (Labelled ls (IfElseS c.args.place (expression_of c.in_ok-asked.asked) (statement_of c.in_ok-choice.choice.1.value) (statement_of c.in_ok-test.other.value))) ∷ v) (λ t q. refl)
    ∙ ap (λ (x : Expression). run 64 s (StatementR (Labelled ls (IfElseS c.args.place (expression_of x) (statement_of c.in_ok-choice.choice.1.value) (statement_of c.in_ok-test.other.value))) ∷ v) (ahead c.in_ok-test.rest)) (sym c.in_ok-choice.ensures.0)
    ∙ ap (λ (x : Expression × Box Statement). run 64 s (StatementR (Labelled ls (IfElseS c.args.place (expression_of x.0) (statement_of x.1.value) (statement_of c.in_ok-test.other.value))) ∷ v) (ahead c.in_ok-test.rest)) (sym c.in_ok-test.ensures.0)

pub group-returns-in-Some-clause-leads : goal.group-returns-in-Some-clause-leads
group-returns-in-Some-clause-leads t c = λ ls s v d. arrives_behind (read_basic ls) s v c.iterate.result
    (taken (Want (DoG c.args.place (base_of c.args.label)) ∷ s) (NamesR ls ∷ v) c.in-Some.ensures
    ∙ quiet c.in-Some.after (push (NameR (name_of c.in-Some.index)) ∷ iterate_goals c.args.place (base_of c.args.label) s) (iterate_goals c.args.place (base_of c.args.label) s) (NamesR ls ∷ v) (NameR (name_of c.in-Some.index) ∷ NamesR ls ∷ v) (λ t q. refl))
    (c.iterate.ensures.leads ls s v d)

pub group-returns-in_err-block-clause-leads : goal.group-returns-in_err-block-clause-leads
group-returns-in_err-block-clause-leads t c = λ ls s v d. failed (read_basic ls) s v c.from_residual.result c.in_err-block.field-0.0 c.from_residual.ensures.1
    (taken (Want (DoG c.args.place (base_of c.args.label)) ∷ s) (NamesR ls ∷ v) c.in-Some-mark.ensures
    ∙ quiet c.in-Some-mark.inner (push (ItemsR no_items) ∷ Want (ItemsG (base_of c.args.label)) ∷ Do (make_do c.args.place) ∷ s) (Want (ItemsG (base_of c.args.label)) ∷ Do (make_do c.args.place) ∷ s) (NamesR ls ∷ v) (ItemsR no_items ∷ NamesR ls ∷ v) (λ t q. refl))
    (c.in_err-block.ensures.leads (Do (make_do c.args.place) ∷ s) (NamesR ls ∷ v) d)

pub group-returns-in-Some-mark-clause-leads : goal.group-returns-in-Some-mark-clause-leads
group-returns-in-Some-mark-clause-leads t c = λ ls s v d. taken (Want (DoG c.args.place (base_of c.args.label)) ∷ s) (NamesR ls ∷ v) c.in-Some-mark.ensures
    ∙ quiet c.in-Some-mark.inner (push (ItemsR no_items) ∷ Want (ItemsG (base_of c.args.label)) ∷ Do (make_do c.args.place) ∷ s) (Want (ItemsG (base_of c.args.label)) ∷ Do (make_do c.args.place) ∷ s) (NamesR ls ∷ v) (ItemsR no_items ∷ NamesR ls ∷ v) (λ t q. refl)
    ∙ c.in_ok-block.ensures.leads (Do (make_do c.args.place) ∷ s) (NamesR ls ∷ v) d
    ∙ quiet c.in_ok-block.rest (Do (make_do c.args.place) ∷ s) s (read_block (c.in_ok-block.block, c.in_ok-block.end) (NamesR ls ∷ v)) (StatementR (Labelled ls (DoS c.args.place (BlockOf (items_part (block_of c.in_ok-block.block)) (statements_part (block_of c.in_ok-block.block))) (base_of c.in_ok-block.end))) ∷ v) (λ t q. refl)
    ∙ ap (λ (b : BlockT). run 64 s (StatementR (Labelled ls (DoS c.args.place b (base_of c.in_ok-block.end))) ∷ v) (ahead c.in_ok-block.rest)) (block_parts (block_of c.in_ok-block.block))

pub group-returns-in_err-test-clause-leads : goal.group-returns-in_err-test-clause-leads
group-returns-in_err-test-clause-leads t c = λ ls s v d. failed (read_basic ls) s v c.from_residual-in_err-test.result c.in_err-test.field-0.0 c.from_residual-in_err-test.ensures.1
    (taken (Want (DoG c.args.place (base_of c.args.label)) ∷ s) (NamesR ls ∷ v) c.in-Some-keyword.ensures)
    (c.in_err-test.ensures.leads (Do (make_while c.args.place) ∷ s) (NamesR ls ∷ v) d)

pub group-returns-in-Some-keyword-clause-leads : goal.group-returns-in-Some-keyword-clause-leads
group-returns-in-Some-keyword-clause-leads t c = λ ls s v d. taken (Want (DoG c.args.place (base_of c.args.label)) ∷ s) (NamesR ls ∷ v) c.in-Some-keyword.ensures
    ∙ c.in_ok-test.ensures.leads (Do (make_while c.args.place) ∷ s) (NamesR ls ∷ v) d
    ∙ quiet c.in_ok-test.rest (Do (make_while c.args.place) ∷ s) s (read_governed (c.in_ok-test.test, (c.in_ok-test.body, c.in_ok-test.end)) (NamesR ls ∷ v)) (StatementR (Labelled ls (WhileS c.args.place (expression_of c.in_ok-test.test) (statements_of c.in_ok-test.body.items) (base_of c.in_ok-test.end))) ∷ v) (λ t q. refl)
    ∙ ap (λ (x : StatementsT). run 64 s (StatementR (Labelled ls (WhileS c.args.place (expression_of c.in_ok-test.test) x (base_of c.in_ok-test.end))) ∷ v) (ahead c.in_ok-test.rest)) (sym (statement_row c.in_ok-test.body))

pub group-returns-in_err-selected-clause-leads : goal.group-returns-in_err-selected-clause-leads
group-returns-in_err-selected-clause-leads t c = λ ls s v d. failed (read_basic ls) s v c.from_residual-in_err-selected.result c.in_err-selected.field-0.0 c.from_residual-in_err-selected.ensures.1
    (taken (Want (DoG c.args.place (base_of c.args.label)) ∷ s) (NamesR ls ∷ v) c.in-Some-keyword-2.ensures)
    (c.in_err-selected.ensures.leads (Do (make_case c.args.place) ∷ s) (NamesR ls ∷ v) d)

pub group-returns-in-Some-keyword-2-clause-leads : goal.group-returns-in-Some-keyword-2-clause-leads
group-returns-in-Some-keyword-2-clause-leads t c = λ ls s v d. taken (Want (DoG c.args.place (base_of c.args.label)) ∷ s) (NamesR ls ∷ v) c.in-Some-keyword-2.ensures
    ∙ c.in_ok-selected.ensures.leads (Do (make_case c.args.place) ∷ s) (NamesR ls ∷ v) d
    ∙ quiet c.in_ok-selected.rest (Do (make_case c.args.place) ∷ s) s (read_governed (c.in_ok-selected.selected, (c.in_ok-selected.cases, c.in_ok-selected.end)) (NamesR ls ∷ v)) (StatementR (Labelled ls (CaseS c.args.place (expression_of c.in_ok-selected.selected) (statements_of c.in_ok-selected.cases.items) (base_of c.in_ok-selected.end))) ∷ v) (λ t q. refl)
    ∙ ap (λ (x : StatementsT). run 64 s (StatementR (Labelled ls (CaseS c.args.place (expression_of c.in_ok-selected.selected) x (base_of c.in_ok-selected.end))) ∷ v) (ahead c.in_ok-selected.rest)) (sym (statement_row c.in_ok-selected.cases))

pub group-returns-clause-leads : goal.group-returns-clause-leads
group-returns-clause-leads t c = λ ls s v d. refusal c.refuse.result c.args.cursor c.refuse.ensures (refused (DoG c.args.place (base_of c.args.label)) c.args.cursor s (NamesR ls ∷ v) (do_refused c.args.place (base_of c.args.label) (next_of c.args.cursor) c.in_default.ensures c.in_default-mark.ensures c.in_default-keyword.ensures c.in_default-keyword-2.ensures))

pub governed-returns-clause-leads : goal.governed-returns-clause-leads
governed-returns-clause-leads t c = λ s v d. arrives_behind read_governed s v c.beside.result
    (c.in_ok-value.ensures.leads (no_statement_yet ∷ Want (StatementsG (base_of c.args.label)) ∷ s) v d
    ∙ quiet c.in_ok-value.start (no_statement_yet ∷ Want (StatementsG (base_of c.args.label)) ∷ s) (Want (StatementsG (base_of c.args.label)) ∷ s) (read_expression c.in_ok-value.value v) (StatementsR no_statements ∷ read_expression c.in_ok-value.value v) (λ t q. refl))
    (besides read_body read_governed c.in_ok-value.value s (read_expression c.in_ok-value.value v) v c.statements.result c.beside.result (run 64 (Want (StatementsG (base_of c.args.label)) ∷ s) (StatementsR no_statements ∷ read_expression c.in_ok-value.value v) (ahead c.in_ok-value.start)) c.beside.ensures (λ b. refl)
    (c.statements.ensures.leads s (read_expression c.in_ok-value.value v) d))

pub iterate-returns-in_err-header-clause-leads : goal.iterate-returns-in_err-header-clause-leads
iterate-returns-in_err-header-clause-leads t c = λ ls s v d. failed (read_basic ls) s v c.from_residual.result c.in_err-header.field-0.0 c.from_residual.ensures.1 refl
    (c.in_err-header.ensures.leads (name_of c.args.index) (no_statement_yet ∷ Want (StatementsG (base_of c.args.label)) ∷ Do (make_iterate c.args.place) ∷ s) (NamesR ls ∷ v) d)

pub iterate-returns-in_err-bounds-clause-leads : goal.iterate-returns-in_err-bounds-clause-leads
iterate-returns-in_err-bounds-clause-leads t c = λ ls s v d. failed (read_basic ls) s v c.from_residual-in_err-bounds.result c.in_err-bounds.field-0.0 c.from_residual-in_err-bounds.ensures.1
    (c.in_ok-header.ensures.leads (name_of c.args.index) (no_statement_yet ∷ Want (StatementsG (base_of c.args.label)) ∷ Do (make_iterate c.args.place) ∷ s) (NamesR ls ∷ v) d
    ∙ quiet c.in_ok-header.start (no_statement_yet ∷ Want (StatementsG (base_of c.args.label)) ∷ Do (make_iterate c.args.place) ∷ s) (Want (StatementsG (base_of c.args.label)) ∷ Do (make_iterate c.args.place) ∷ s) (read_range (name_of c.args.index) c.in_ok-header.header (NamesR ls ∷ v)) (StatementsR no_statements ∷ read_range (name_of c.args.index) c.in_ok-header.header (NamesR ls ∷ v)) (λ t q. refl))
    (ended read_body (Do (make_iterate c.args.place) ∷ s) (read_range (name_of c.args.index) c.in_ok-header.header (NamesR ls ∷ v)) (run 64 (Want (StatementsG (base_of c.args.label)) ∷ Do (make_iterate c.args.place) ∷ s) (StatementsR no_statements ∷ read_range (name_of c.args.index) c.in_ok-header.header (NamesR ls ∷ v)) (ahead c.in_ok-header.start)) c.in_err-bounds.ensures (c.statements.ensures.leads (Do (make_iterate c.args.place) ∷ s) (read_range (name_of c.args.index) c.in_ok-header.header (NamesR ls ∷ v)) d))

pub iterate-returns-clause-leads : goal.iterate-returns-clause-leads
iterate-returns-clause-leads t c = λ ls s v d. c.in_ok-header.ensures.leads (name_of c.args.index) (no_statement_yet ∷ Want (StatementsG (base_of c.args.label)) ∷ Do (make_iterate c.args.place) ∷ s) (NamesR ls ∷ v) d
    ∙ quiet c.in_ok-header.start (no_statement_yet ∷ Want (StatementsG (base_of c.args.label)) ∷ Do (make_iterate c.args.place) ∷ s) (Want (StatementsG (base_of c.args.label)) ∷ Do (make_iterate c.args.place) ∷ s) (read_range (name_of c.args.index) c.in_ok-header.header (NamesR ls ∷ v)) (StatementsR no_statements ∷ read_range (name_of c.args.index) c.in_ok-header.header (NamesR ls ∷ v)) (λ t q. refl)
    ∙ arrived read_body (Do (make_iterate c.args.place) ∷ s) (read_range (name_of c.args.index) c.in_ok-header.header (NamesR ls ∷ v)) c.in_ok-bounds.ensures.1 (c.statements.ensures.leads (Do (make_iterate c.args.place) ∷ s) (read_range (name_of c.args.index) c.in_ok-header.header (NamesR ls ∷ v)) d)
    ∙ ap (λ (x : Box Bounds). run 64 (Do (make_iterate c.args.place) ∷ s) (read_body (c.in_ok-bounds.body, c.in_ok-bounds.end) (read_range (name_of c.args.index) x (NamesR ls ∷ v))) (ahead c.in_ok-bounds.rest)) (sym c.in_ok-bounds.ensures.0)
    ∙ quiet c.in_ok-bounds.rest (Do (make_iterate c.args.place) ∷ s) s (read_body (c.in_ok-bounds.body, c.in_ok-bounds.end) (read_range (name_of c.args.index) c.in_ok-bounds.bounds (NamesR ls ∷ v))) (StatementR (Labelled ls (IterateS c.args.place (name_of c.args.index) (expression_of c.in_ok-bounds.bounds.value.first) (expression_of c.in_ok-bounds.bounds.value.last) (step_of c.in_ok-bounds.bounds.value.step) (statements_of c.in_ok-bounds.body.items) (base_of c.in_ok-bounds.end))) ∷ v) (λ t q. refl)
    ∙ ap (λ (x : StatementsT). run 64 s (StatementR (Labelled ls (IterateS c.args.place (name_of c.args.index) (expression_of c.in_ok-bounds.bounds.value.first) (expression_of c.in_ok-bounds.bounds.value.last) (step_of c.in_ok-bounds.bounds.value.step) x (base_of c.in_ok-bounds.end))) ∷ v) (ahead c.in_ok-bounds.rest)) (sym (statement_row c.in_ok-bounds.body))

pub statements-returns-in_err-list-clause-leads : goal.statements-returns-in_err-list-clause-leads
statements-returns-in_err-list-clause-leads t c = λ s v d. out_of_memory read_body s v c.from_residual.result (run 64 (Want (StatementsG (base_of c.args.label)) ∷ s) (StatementsR no_statements ∷ v) (ahead c.args.cursor)) c.from_residual.ensures.1

pub statements-returns-in_err-end-clause-leads : goal.statements-returns-in_err-end-clause-leads
statements-returns-in_err-end-clause-leads t c = λ s v d. failed read_body s v c.from_residual-in_err-end.result c.in_err-end.field-0.0 c.from_residual-in_err-end.ensures.1
    (c.loop-after.invariant.leads s v d
    ∙ taken (Want (StatementsG (base_of c.args.label)) ∷ s) (StatementsR (statements_of c.loop-after.list.items) ∷ v) c.in-Some.ensures)
    (c.in_err-end.ensures.leads s (StatementsR (statements_of c.loop-after.list.items) ∷ v))

pub statements-returns-in-Some-clause-leads : goal.statements-returns-in-Some-clause-leads
statements-returns-in-Some-clause-leads t c = λ s v d. c.loop-after.invariant.leads s v d
    ∙ taken (Want (StatementsG (base_of c.args.label)) ∷ s) (StatementsR (statements_of c.loop-after.list.items) ∷ v) c.in-Some.ensures
    ∙ c.in_ok-end.ensures.leads s (StatementsR (statements_of c.loop-after.list.items) ∷ v)

pub statements-returns-in_err-rest-clause-leads : goal.statements-returns-in_err-rest-clause-leads
statements-returns-in_err-rest-clause-leads t c = λ s v d. failed read_body s v c.from_residual-in_err-rest.result c.in_err-rest.field-0.0 c.from_residual-in_err-rest.ensures.1
    (c.loop-after.invariant.leads s v d
    ∙ statements_go (base_of c.args.label) c.loop-after.rest s (StatementsR (statements_of c.loop-after.list.items) ∷ v) c.in_default.ensures)
    (lost read_statement (and_more (base_of c.args.label) ++ s) (StatementsR (statements_of c.loop-after.list.items) ∷ v) c.statement.result c.in_err-rest.field-0.0 (run 64 (Want (StatementG None) ∷ and_more (base_of c.args.label) ++ s) (NamesR no_names ∷ StatementsR (statements_of c.loop-after.list.items) ∷ v) (ahead c.loop-after.rest)) c.in_err-rest.ensures (c.statement.ensures.leads (and_more (base_of c.args.label) ++ s) (StatementsR (statements_of c.loop-after.list.items) ∷ v) d))

pub statements-loop-after-init : goal.statements-loop-after-init
statements-loop-after-init t c = record { leads = λ s v d. ap (λ (xs : List Statement). run 64 (Want (StatementsG (base_of c.args.label)) ∷ s) (StatementsR (statements_of xs) ∷ v) (ahead c.args.cursor)) (sym c.in_ok-list.ensures.items); shorter = omega arith }

pub statements-loop-after-preserved : goal.statements-loop-after-preserved
statements-loop-after-preserved t c = record {
  leads = λ s v d. c.loop-after.invariant.leads s v d
      ∙ statements_go (base_of c.args.label) c.loop-after.rest s (StatementsR (statements_of c.loop-after.list.items) ∷ v) c.in_default.ensures
      ∙ arrived read_statement (and_more (base_of c.args.label) ++ s) (StatementsR (statements_of c.loop-after.list.items) ∷ v) c.in_ok-rest.ensures.1.0 (c.statement.ensures.leads (and_more (base_of c.args.label) ++ s) (StatementsR (statements_of c.loop-after.list.items) ∷ v) d)
      ∙ quiet c.in_ok-rest.rest (and_more (base_of c.args.label) ++ s) (Want (StatementsG (base_of c.args.label)) ∷ s) (read_statement c.in_ok-rest.ensures.0 (StatementsR (statements_of c.loop-after.list.items) ∷ v)) (StatementsR (statements (statements_of c.loop-after.list.items) (statement_of c.in_ok-rest.ensures.0)) ∷ v) (λ t q. refl)
      ∙ ap (λ (xs : StatementsT). run 64 (Want (StatementsG (base_of c.args.label)) ∷ s) (StatementsR xs ∷ v) (ahead c.in_ok-rest.rest)) (sym (statement_pushed c.loop-after.list.items c.in_ok-rest.ensures.0 no_statements))
      ∙ ap (λ (xs : List Statement). run 64 (Want (StatementsG (base_of c.args.label)) ∷ s) (StatementsR (statements_of xs) ∷ v) (ahead c.in_ok-rest.rest)) (sym c.in_ok-rest.ensures.1.1);
  shorter = omega (arith, c.loop-after.invariant.shorter, stays_less c.loop-after.rest c.in_ok-rest.ensures.1.0 c.statement.ensures.within);
}

pub statement-loop-label-preserved : goal.statement-loop-label-preserved
statement-loop-label-preserved t c = record {
  leads = λ s v. c.loop-label.invariant.leads s v
      ∙ ap (run 64 (Want (StatementG (base_of c.loop-label.last)) ∷ s) (NamesR (names_of c.loop-label.labels.items) ∷ v)) c.in-Some.ensures.is
      ∙ quiet c.in-Some.behind (Do (add_label (name_of c.in-Some.label)) ∷ Want (StatementG (Some (name_of c.in-Some.label))) ∷ s) (Want (StatementG (Some (name_of c.in-Some.label))) ∷ s) (ExpressionR (ReferenceE (plain (name_of c.in-Some.label))) ∷ ReferencesR no_references ∷ NamesR (names_of c.loop-label.labels.items) ∷ v) (NamesR (names (names_of c.loop-label.labels.items) (name_of c.in-Some.label)) ∷ v) (λ t q. refl)
      ∙ ap (λ (xs : NamesT). run 64 (Want (StatementG (Some (name_of c.in-Some.label))) ∷ s) (NamesR xs ∷ v) (ahead c.in-Some.behind)) (sym (name_pushed c.loop-label.labels.items c.in-Some.label no_names))
      ∙ ap (λ (xs : List NameTree). run 64 (Want (StatementG (Some (name_of c.in-Some.label))) ∷ s) (NamesR (names_of xs) ∷ v) (ahead c.in-Some.behind)) (sym c.in_ok-push.ensures.items);
  shorter = omega (arith, c.loop-label.invariant.shorter, c.in-Some.ensures.shorter);
}

pub statement-loop-label-init : goal.statement-loop-label-init
statement-loop-label-init t c = record { leads = λ s v. ap (λ (xs : List NameTree). run 64 (Want (StatementG None) ∷ s) (NamesR (names_of xs) ∷ v) (ahead c.args.cursor)) (sym c.new-labels.ensures.items); shorter = omega arith }

pub statement-returns-in_err-basic-clause-leads : goal.statement-returns-in_err-basic-clause-leads
statement-returns-in_err-basic-clause-leads t c = λ s v d. failed read_statement s v c.from_residual-in_err-basic.result c.in_err-basic.field-0.0 c.from_residual-in_err-basic.ensures.1
    (c.loop-label.invariant.leads s v)
    (c.in_err-basic.ensures.leads (names_of c.loop-label.labels.items) s v d)

pub statement-returns-clause-leads : goal.statement-returns-clause-leads
statement-returns-clause-leads t c = λ s v d. c.loop-label.invariant.leads s v
    ∙ c.in_ok-basic.ensures.leads (names_of c.loop-label.labels.items) s v d

pub procedure-returns-in_err-signature-clause-leads : goal.procedure-returns-in_err-signature-clause-leads
procedure-returns-in_err-signature-clause-leads t c = λ is s v d. failed (read_procedure is) s v c.from_residual.result c.in_err-signature.field-0.0 c.from_residual.ensures.1 refl
    (c.in_err-signature.ensures.leads (name_of c.args.name) (push (ItemsR no_items) ∷ Want (ItemsG (Some (name_of c.args.name))) ∷ Leave ∷ Do make_procedure ∷ s) (ItemsR is ∷ v))

pub procedure-returns-in_err-block-clause-leads : goal.procedure-returns-in_err-block-clause-leads
procedure-returns-in_err-block-clause-leads t c = λ is s v d. failed (read_procedure is) s v c.from_residual-in_err-block.result c.in_err-block.field-0.0 c.from_residual-in_err-block.ensures.1
    (c.in_ok-signature.ensures.leads (name_of c.args.name) (push (ItemsR no_items) ∷ Want (ItemsG (Some (name_of c.args.name))) ∷ Leave ∷ Do make_procedure ∷ s) (ItemsR is ∷ v)
    ∙ quiet c.in_ok-signature.inner (push (ItemsR no_items) ∷ Want (ItemsG (Some (name_of c.args.name))) ∷ Leave ∷ Do make_procedure ∷ s) (Want (ItemsG (Some (name_of c.args.name))) ∷ Leave ∷ Do make_procedure ∷ s) (read_header (name_of c.args.name) c.in_ok-signature.signature (ItemsR is ∷ v)) (ItemsR no_items ∷ read_header (name_of c.args.name) c.in_ok-signature.signature (ItemsR is ∷ v)) (λ t q. refl))
    (c.in_err-block.ensures.leads (Leave ∷ Do make_procedure ∷ s) (read_header (name_of c.args.name) c.in_ok-signature.signature (ItemsR is ∷ v)) d)

pub procedure-returns-clause-leads : goal.procedure-returns-clause-leads
procedure-returns-clause-leads t c = λ is s v d. procedure_there c.args.name c.in_ok-signature.signature.parameters c.in_ok-signature.signature.returned c.in_ok-signature.signature.interrupt c.in_ok-signature.signature.linkage c.in_ok-block.block c.in_ok-block.end is s v c.in_ok-block.rest
    (c.in_ok-signature.ensures.leads (name_of c.args.name) (push (ItemsR no_items) ∷ Want (ItemsG (Some (name_of c.args.name))) ∷ Leave ∷ Do make_procedure ∷ s) (ItemsR is ∷ v)
    ∙ quiet c.in_ok-signature.inner (push (ItemsR no_items) ∷ Want (ItemsG (Some (name_of c.args.name))) ∷ Leave ∷ Do make_procedure ∷ s) (Want (ItemsG (Some (name_of c.args.name))) ∷ Leave ∷ Do make_procedure ∷ s) (read_header (name_of c.args.name) c.in_ok-signature.signature (ItemsR is ∷ v)) (ItemsR no_items ∷ read_header (name_of c.args.name) c.in_ok-signature.signature (ItemsR is ∷ v)) (λ t q. refl)
    ∙ c.in_ok-block.ensures.leads (Leave ∷ Do make_procedure ∷ s) (read_header (name_of c.args.name) c.in_ok-signature.signature (ItemsR is ∷ v)) d
    ∙ quiet c.in_ok-block.rest (Leave ∷ Do make_procedure ∷ s) s (read_block (c.in_ok-block.block, c.in_ok-block.end) (read_header (name_of c.args.name) c.in_ok-signature.signature (ItemsR is ∷ v))) (ItemsR (items is (ProcedureI (name_of c.args.name) (names_of c.in_ok-signature.signature.parameters.items) c.in_ok-signature.signature.returned (counted c.in_ok-signature.signature.interrupt) (linkage_of c.in_ok-signature.signature.linkage) (BlockOf (items_part (block_of c.in_ok-block.block)) (statements_part (block_of c.in_ok-block.block))) (base_of c.in_ok-block.end))) ∷ v) (λ t q. refl)
    ∙ ap (λ (k : BlockT). run 64 s (ItemsR (items is (ProcedureI (name_of c.args.name) (names_of c.in_ok-signature.signature.parameters.items) c.in_ok-signature.signature.returned (counted c.in_ok-signature.signature.interrupt) (linkage_of c.in_ok-signature.signature.linkage) k (base_of c.in_ok-block.end))) ∷ v) (ahead c.in_ok-block.rest)) (block_parts (block_of c.in_ok-block.block)))

pub item-returns-in_err-list-clause-leads : goal.item-returns-in_err-list-clause-leads
item-returns-in_err-list-clause-leads t c = failed_item c.from_residual.result c.in_err-list.field-0.0 c.from_residual.ensures.1 c.args.cursor c.args.room (λ l is s v d. fails_behind c.in_err-list.field-0.0
    (taken (Want (ItemsG l) ∷ s) (ItemsR is ∷ v) c.in-Some.ensures
    ∙ quiet c.in-Some.after (push (ElementsR no_elements) ∷ Want ElementG ∷ Want MoreElementsG ∷ Do (make_declare c.in-Some.place) ∷ Want (ItemsG l) ∷ s) (Want ElementG ∷ Want MoreElementsG ∷ Do (make_declare c.in-Some.place) ∷ Want (ItemsG l) ∷ s) (ItemsR is ∷ v) (ElementsR no_elements ∷ ItemsR is ∷ v) (λ t q. refl))
    (c.in_err-list.ensures.leads (Do (make_declare c.in-Some.place) ∷ Want (ItemsG l) ∷ s) (ItemsR is ∷ v) d))

pub item-returns-in-Some-clause-leads : goal.item-returns-in-Some-clause-leads
item-returns-in-Some-clause-leads t c = λ l is s v d. taken (Want (ItemsG l) ∷ s) (ItemsR is ∷ v) c.in-Some.ensures
    ∙ quiet c.in-Some.after (push (ElementsR no_elements) ∷ Want ElementG ∷ Want MoreElementsG ∷ Do (make_declare c.in-Some.place) ∷ Want (ItemsG l) ∷ s) (Want ElementG ∷ Want MoreElementsG ∷ Do (make_declare c.in-Some.place) ∷ Want (ItemsG l) ∷ s) (ItemsR is ∷ v) (ElementsR no_elements ∷ ItemsR is ∷ v) (λ t q. refl)
    ∙ c.in_ok-list.ensures.leads (Do (make_declare c.in-Some.place) ∷ Want (ItemsG l) ∷ s) (ItemsR is ∷ v) d
    ∙ quiet c.in_ok-list.rest (Do (make_declare c.in-Some.place) ∷ Want (ItemsG l) ∷ s) (Want (ItemsG l) ∷ s) (read_elements c.in_ok-list.list.items (ItemsR is ∷ v)) (ItemsR (items is (DeclareI c.in-Some.place (elements_of c.in_ok-list.list.items))) ∷ v) (λ t q. refl)

pub item-returns-in_default-heading_at-clause-leads : goal.item-returns-in_default-heading_at-clause-leads
item-returns-in_default-heading_at-clause-leads t c = λ l s v. statements_begin l c.args.cursor s v c.in_default.ensures c.in_default-heading_at.ensures

pub item-returns-in_err-inside-clause-leads : goal.item-returns-in_err-inside-clause-leads
item-returns-in_err-inside-clause-leads t c = failed_item c.from_residual-in_err-inside.result c.in_err-inside.field-0.0 c.from_residual-in_err-inside.ensures.1 c.args.cursor c.args.room (λ l is s v d. fails_behind c.in_err-inside.field-0.0
    (ap (run 64 (Want (ItemsG l) ∷ s) (ItemsR is ∷ v)) c.in-Some-heading_at.ensures.is
    ∙ too_deep (depth s) c.args.room c.in-Some-heading_at.after (run 64 (procedure_symbols (name_of c.in-Some-heading_at.name) (Want (ItemsG l) ∷ s)) (ItemsR is ∷ v) (ahead c.in-Some-heading_at.after)) d c.in_err-inside.ensures.0)
    (depth_failure c.in_err-inside.field-0.0 c.in-Some-heading_at.after c.in_err-inside.ensures.1 refl))

pub item-returns-in_err-procedure-clause-leads : goal.item-returns-in_err-procedure-clause-leads
item-returns-in_err-procedure-clause-leads t c = failed_item c.from_residual-in_err-procedure.result c.in_err-procedure.field-0.0 c.from_residual-in_err-procedure.ensures.1 c.args.cursor c.args.room (λ l is s v d. fails_behind c.in_err-procedure.field-0.0
    (ap (run 64 (Want (ItemsG l) ∷ s) (ItemsR is ∷ v)) c.in-Some-heading_at.ensures.is
    ∙ entered (depth s) c.args.room c.in_ok-inside.inside (length (ahead c.in-Some-heading_at.after)) (run 64 (procedure_symbols (name_of c.in-Some-heading_at.name) (Want (ItemsG l) ∷ s)) (ItemsR is ∷ v) (ahead c.in-Some-heading_at.after)) d c.in_ok-inside.ensures
    ∙ quiet c.in-Some-heading_at.after (procedure_symbols (name_of c.in-Some-heading_at.name) (Want (ItemsG l) ∷ s)) (procedure_goals (name_of c.in-Some-heading_at.name) (Want (ItemsG l) ∷ s)) (ItemsR is ∷ v) (no_parameters_read (name_of c.in-Some-heading_at.name) is v) (λ t q. refl))
    (c.in_err-procedure.ensures.leads is (Want (ItemsG l) ∷ s) v (deeper (depth s) c.args.room c.in_ok-inside.inside d c.in_ok-inside.ensures)))

pub item-returns-clause-leads : goal.item-returns-clause-leads
item-returns-clause-leads t c = λ l is s v d. ap (run 64 (Want (ItemsG l) ∷ s) (ItemsR is ∷ v)) c.in-Some-heading_at.ensures.is
    ∙ entered (depth s) c.args.room c.in_ok-inside.inside (length (ahead c.in-Some-heading_at.after)) (run 64 (procedure_symbols (name_of c.in-Some-heading_at.name) (Want (ItemsG l) ∷ s)) (ItemsR is ∷ v) (ahead c.in-Some-heading_at.after)) d c.in_ok-inside.ensures
    ∙ quiet c.in-Some-heading_at.after (procedure_symbols (name_of c.in-Some-heading_at.name) (Want (ItemsG l) ∷ s)) (procedure_goals (name_of c.in-Some-heading_at.name) (Want (ItemsG l) ∷ s)) (ItemsR is ∷ v) (no_parameters_read (name_of c.in-Some-heading_at.name) is v) (λ t q. refl)
    ∙ c.in_ok-procedure.ensures.leads is (Want (ItemsG l) ∷ s) v (deeper (depth s) c.args.room c.in_ok-inside.inside d c.in_ok-inside.ensures)

pub block-loop-items-init : goal.block-loop-items-init
block-loop-items-init t c = record { leads = λ s v d. ap (λ (xs : List Item). run 64 (Want (ItemsG (base_of c.args.label)) ∷ s) (ItemsR (items_of xs) ∷ v) (ahead c.args.cursor)) (sym c.new-items.ensures.items); shorter = omega arith }

pub block-loop-items-preserved : goal.block-loop-items-preserved
block-loop-items-preserved t c =
    let is = one_there c.item.result c.loop-items.items.items _ c.gathered.result c.in-Some.behind c.gathered.ensures.none c.gathered.ensures.some c.gathered.ensures.err (c.in_ok-behind.was ∙ ap (λ (o : Option Cursor). Ok o) c.in-Some.is) in record {
      leads = λ s v d. c.loop-items.invariant.leads s v d
          ∙ (subst (λ (x : Result (Option (Item × Cursor)) Failure). LeadsItem x c.loop-items.rest c.args.room) is.1 c.item.ensures.leads) (base_of c.args.label) (items_of c.loop-items.items.items) s v d
          ∙ ap (λ (xs : ItemsT). run 64 (Want (ItemsG (base_of c.args.label)) ∷ s) (ItemsR xs ∷ v) (ahead c.in-Some.behind)) (sym (item_pushed c.loop-items.items.items is.0 no_items))
          ∙ ap (λ (xs : List Item). run 64 (Want (ItemsG (base_of c.args.label)) ∷ s) (ItemsR (items_of xs) ∷ v) (ahead c.in-Some.behind)) (sym is.2);
      shorter = omega (arith, c.loop-items.invariant.shorter, subst (λ (x : Result (Option (Item × Cursor)) Failure). WithinItem x c.loop-items.rest) is.1 c.item.ensures.within);
    }

pub block-loop-items-smaller : goal.block-loop-items-smaller
block-loop-items-smaller t c =
    let is = one_there c.item.result c.loop-items.items.items _ c.gathered.result c.in-Some.behind c.gathered.ensures.none c.gathered.ensures.some c.gathered.ensures.err (c.in_ok-behind.was ∙ ap (λ (o : Option Cursor). Ok o) c.in-Some.is) in
    omega (arith, subst (λ (x : Result (Option (Item × Cursor)) Failure). WithinItem x c.loop-items.rest) is.1 c.item.ensures.within)

pub block-returns-in_err-behind-clause-leads : goal.block-returns-in_err-behind-clause-leads
block-returns-in_err-behind-clause-leads t c = λ s v d. failed read_block s v c.from_residual.result c.in_err-behind.field-0.0 c.from_residual.ensures.1
    (c.loop-items.invariant.leads s v d)
    (one_lost c.item.result c.gathered.result c.in_err-behind.field-0.0 c.loop-items.rest c.args.room c.gathered.ensures.memory c.gathered.ensures.err c.in_err-behind.was c.item.ensures.leads (base_of c.args.label) (items_of c.loop-items.items.items) s v d)

pub block-returns-in_err-statements-clause-leads : goal.block-returns-in_err-statements-clause-leads
block-returns-in_err-statements-clause-leads t c = λ s v d.
    let no = none_there c.item.result c.loop-items.items.items _ c.gathered.result c.gathered.ensures.none c.gathered.ensures.some c.gathered.ensures.err (c.in_ok-behind.was ∙ ap (λ (o : Option Cursor). Ok o) c.in_default.is) in
    failed read_block s v c.from_residual-in_err-statements.result c.in_err-statements.field-0.0 c.from_residual-in_err-statements.ensures.1
    (c.loop-items.invariant.leads s v d
    ∙ (subst (λ (x : Result (Option (Item × Cursor)) Failure). LeadsItem x c.loop-items.rest c.args.room) no.0 c.item.ensures.leads) (base_of c.args.label) s (ItemsR (items_of c.loop-items.items.items) ∷ v))
    (c.in_err-statements.ensures.leads s (ItemsR (items_of c.loop-items.items.items) ∷ v) d)

pub block-returns-clause-leads : goal.block-returns-clause-leads
block-returns-clause-leads t c = λ s v d.
    let no = none_there c.item.result c.loop-items.items.items _ c.gathered.result c.gathered.ensures.none c.gathered.ensures.some c.gathered.ensures.err (c.in_ok-behind.was ∙ ap (λ (o : Option Cursor). Ok o) c.in_default.is) in
    block_there c.gathered.new.list c.in_ok-statements.statements c.in_ok-statements.end s v c.in_ok-statements.behind
    (c.loop-items.invariant.leads s v d
    ∙ (subst (λ (x : Result (Option (Item × Cursor)) Failure). LeadsItem x c.loop-items.rest c.args.room) no.0 c.item.ensures.leads) (base_of c.args.label) s (ItemsR (items_of c.loop-items.items.items) ∷ v)
    ∙ ap (λ (xs : List Item). run 64 (Want (StatementsG (base_of c.args.label)) ∷ s) (StatementsR no_statements ∷ ItemsR (items_of xs) ∷ v) (ahead c.loop-items.rest)) (sym no.1)
    ∙ c.in_ok-statements.ensures.leads s (ItemsR (items_of c.gathered.new.list.items) ∷ v) d)
