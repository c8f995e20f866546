use Rattle.std.proofs.Common.{◌+◌, ◌++◌, List, drop, append_assoc, sym, ap, ◌∙◌}
use Rattle.std.proofs.lemmas.List.{append-nil, drop_all}
use Rattle.std.specs.Global.{Box, Vec}
use Rattle.plm_decl.specs.declared.found.Found.{Found}
use Rattle.plm_decl.specs.declared.resolved.Bounds.{Bounds}
use Rattle.plm_decl.specs.declared.resolved.Statement as declared_resolved
use Rattle.plm_decl.specs.Resolved.{StatementR, IfR, IfElseR, DoR, WhileR, CaseR, IterateR, StatementsR}
use Rattle.plm_decl.specs.ResolvedView as resolved
use Rattle.plm_type.specs.declared.program.Statement.{Statement}
use Rattle.plm_type.specs.declared.statements.Range.{Range}
use Rattle.plm_type.specs.Rest as rest
use Rattle.plm_type.specs.Inner.Typer.{one, variables, noted, noted_after, number_by, bound_by, index_by, step_by, range_by, statement_by, statements_by}
use Rattle.plm_type.specs.Typer.{Noted}
use Rattle.plm_type.specs.Typing.{variable_type}
use Rattle.plm_type.specs.Statements as spec
use Rattle.plm_type.specs.View as view
use Rattle.plm_type.proofs.Rows.{statement_row, iterate_tree}
use Rattle.plm_type.proofs.Said.{noted_moved, noted_at, boxed_at}
use Rattle.plm_type.proofs.Lists.{statements_at, statements_before, statements_pushed, statements_all, noted_before}
use Rattle.plm_type.proofs.typer.Typer.+statement.Goals as goal

-- with what stands after ELSE
abbrev with_other : rest.Statement → rest.Statements → rest.Statement
with_other (rest.If e ss ts) others = rest.If e ss others
with_other s others = s

-- with its statements
abbrev with_body : rest.Statement → rest.Statements → rest.Statement
with_body (rest.Iterate a (rest.Count o x b s ss)) body = rest.Iterate a (rest.Count o x b s body)
with_body s body = s

-- ---- what each kind of statement is handed to

pub statement-returns-in_ok-condition-in-If : goal.statement-returns-in_ok-condition-in-If
statement-returns-in_ok-condition-in-If t c =
    let at = c.in-If in
    let did = c.in_ok-condition-in-If.ensures in
    let of = IfR at.place (resolved.expression_of at.test) in
    let is = (λ j. of (resolved.statement_of (c.deref-in-If.ensures j))) ∙ sym (ap resolved.statement_of at.is) in
    let made = c.in_ok-condition-in-If.condition in
    let tree = c.with_else.ensures ∙ (λ j. rest.If (view.expression_of made.test) (view.statements_of made.then.items) (view.statements_of (c.new.ensures.items j))) ∙ (λ j. (did j).tree) in
    (λ j. noted (tree j) (did j).faults) ∙ ap (λ (s : StatementR). noted_after c.args.faults.now.items (statement_by c.args.self.now c.args.around s)) is

pub statement-returns-in_ok-condition-in-IfElse : goal.statement-returns-in_ok-condition-in-IfElse
statement-returns-in_ok-condition-in-IfElse t c =
    let self = c.args.self.now in
    let around = c.args.around in
    let old = c.args.faults.now.items in
    let at = c.in-IfElse in
    let did = c.in_ok-condition-in-IfElse.ensures in
    let of = IfElseR at.place (resolved.expression_of at.test) in
    let is = (λ j. of (resolved.statement_of (c.deref-in-IfElse.ensures j)) (resolved.statement_of (c.deref-in-IfElse-2.ensures j))) ∙ sym (ap resolved.statement_of at.is) in
    let test = number_by self at.place (resolved.expression_of at.test) in
    let then = statement_by self around (resolved.statement_of c.deref-in-IfElse.result.now) in
    let other = statement_by self around (resolved.statement_of c.deref-in-IfElse-2.result.now) in
    let path = ap (λ (x : Noted rest.Statement). noted (with_other x.tree (one other).tree) (x.faults ++ other.faults)) did
    ∙ ap (noted (spec.alternative test then other).tree) (append_assoc old (test.faults ++ then.faults) other.faults ∙ ap (λ (l : List Found). old ++ l) (append_assoc test.faults then.faults other.faults))
    ∙ ap (λ (s : StatementR). noted_after old (statement_by self around s)) is in
    noted_moved view.statement_of c.choice.result c.choice.new.faults.items path c.choice.ensures

pub statement-returns-in-Do : goal.statement-returns-in-Do
statement-returns-in-Do t c =
    let at = c.in-Do in
    let of = DoR at.field-0 in
    let is = ap (λ (l : List declared_resolved.Statement). of (resolved.statements_of l)) c.deref-in-Do.ensures.value ∙ sym (ap resolved.statement_of at.is ∙ c.resolved_trees_have_their_lists.ensures.block at.field-0 at.body) in
    let path = ap (λ (s : StatementR). noted_after c.args.faults.now.items (statement_by c.args.self.now c.args.around s)) is in
    noted_moved view.statement_of c.block.result c.block.new.faults.items path c.block.ensures

pub statement-returns-in-While : goal.statement-returns-in-While
statement-returns-in-While t c =
    let at = c.in-While in
    let of = WhileR at.place (resolved.expression_of at.test) in
    let is = ap (λ (l : List declared_resolved.Statement). of (resolved.statements_of l)) c.deref-in-While.ensures.value ∙ sym (ap resolved.statement_of at.is ∙ c.resolved_trees_have_their_lists.ensures.while_true at.place at.test at.body) in
    let path = ap (λ (s : StatementR). noted_after c.args.faults.now.items (statement_by c.args.self.now c.args.around s)) is in
    noted_moved view.statement_of c.while_loop.result c.while_loop.new.faults.items path c.while_loop.ensures

pub statement-returns-in-Case : goal.statement-returns-in-Case
statement-returns-in-Case t c =
    let at = c.in-Case in
    let of = CaseR at.place (resolved.expression_of at.value) in
    let is = ap (λ (l : List declared_resolved.Statement). of (resolved.statements_of l)) c.deref-in-Case.ensures.value ∙ sym (ap resolved.statement_of at.is ∙ c.resolved_trees_have_their_lists.ensures.case_of at.place at.value at.cases) in
    let path = ap (λ (s : StatementR). noted_after c.args.faults.now.items (statement_by c.args.self.now c.args.around s)) is in
    noted_moved view.statement_of c.case.result c.case.new.faults.items path c.case.ensures

pub statement-returns-in_ok-range-in-Iterate : goal.statement-returns-in_ok-range-in-Iterate
statement-returns-in_ok-range-in-Iterate t c =
    let self = c.args.self.now in
    let around = c.args.around in
    let old = c.args.faults.now.items in
    let at = c.in-Iterate in
    let bounds = at.bounds.value in
    let of = IterateR at.place at.name bounds.binding (resolved.expression_of bounds.from) (resolved.expression_of bounds.to) (resolved.step_of bounds.step) in
    let is = ap (λ (l : List declared_resolved.Statement). of (resolved.statements_of l)) c.deref-in-Iterate-2.ensures.value ∙ sym (ap resolved.statement_of at.is ∙ c.resolved_trees_have_their_lists.ensures.iterate at.place at.name at.bounds at.body) in
    let range = c.in_ok-range-in-Iterate.ensures ∙ ap (λ (x : Bounds). noted_after old (range_by self at.place at.name x)) c.deref-in-Iterate.ensures in
    let i = index_by self at.place at.name bounds.binding in
    let scalar = variable_type (spec.variable_meant (variables self) bounds.binding) in
    let a = bound_by self scalar at.place (resolved.expression_of bounds.from) in
    let b = bound_by self scalar at.place (resolved.expression_of bounds.to) in
    let s = step_by self scalar at.place (resolved.step_of bounds.step) in
    let all = statements_by self around (resolved.statements_of c.deref-in-Iterate-2.result.now) in
    let faults = ap (λ (l : List Found). (old ++ (i.faults ++ (a.faults ++ (b.faults ++ l)))) ++ all.faults) (append-nil s.faults)
    ∙ append_assoc old (i.faults ++ (a.faults ++ (b.faults ++ s.faults))) all.faults
    ∙ ap (λ (l : List Found). old ++ l) (append_assoc i.faults (a.faults ++ (b.faults ++ s.faults)) all.faults)
    ∙ ap (λ (l : List Found). old ++ (i.faults ++ l)) (append_assoc a.faults (b.faults ++ s.faults) all.faults ∙ ap (λ (l : List Found). a.faults ++ l) (append_assoc b.faults s.faults all.faults)) in
    let path = ap (λ (x : Noted rest.Statement). noted (with_body x.tree all.tree) (x.faults ++ all.faults)) range
    ∙ ap (noted (rest.Iterate a.tree (rest.Count s.counting i.tree b.tree s.tree all.tree))) faults
    ∙ ap (λ (x : StatementR). noted_after old (statement_by self around x)) is in
    noted_moved view.statement_of c.iterate.result c.iterate.new.faults.items path c.iterate.ensures

-- ---- the kinds that hold statements

pub condition-returns : goal.condition-returns
condition-returns t c =
    let test = c.in_ok-asked.ensures in
    let both = c.in_ok-test.ensures in
    let arm = noted_at (λ (b : Vec (Box Statement)). view.statements_of b.items) c.arm.new.faults.items both.1 c.arm.ensures in
    let only = statement_by c.args.self.now c.args.around (resolved.statement_of c.args.then.now) in
    let faults = (λ j. (arm j).faults) ∙ (λ j. (test j).faults ++ only.faults) ∙ append_assoc c.args.faults.now.items _ only.faults in
    (λ j. noted (rest.If (view.expression_of (both.0 j)) (view.statements_of c.in_ok-test.then.items) rest.End) c.arm.new.faults.items)
    ∙ (λ j. noted (rest.If (test j).tree (arm j).tree rest.End) (faults j))

pub choice-returns : goal.choice-returns
choice-returns t c =
    let both = c.in_ok-condition.ensures in
    let arm = noted_at (λ (b : Vec (Box Statement)). view.statements_of b.items) c.arm.new.faults.items both.1 c.arm.ensures in
    (λ j. noted (c.with_else.ensures j) c.arm.new.faults.items)
    ∙ (λ j. noted (rest.If (view.expression_of (both.0 j).test) (view.statements_of (both.0 j).then.items) (view.statements_of c.in_ok-condition.other.items)) c.arm.new.faults.items)
    ∙ (λ j. noted (rest.If (view.expression_of c.args.condition.test) (view.statements_of c.args.condition.then.items) (arm j).tree) (arm j).faults)

pub block-returns : goal.block-returns
block-returns t c =
    let did = c.in_ok-body.ensures in
    let tree = statement_row c.in_ok-body.body ∙ (λ j. (did j).tree) in
    λ j. noted (rest.Block (tree j)) (did j).faults

pub while_loop-returns : goal.while_loop-returns
while_loop-returns t c =
    let asked = c.in_ok-asked.ensures in
    let both = c.in_ok-test.ensures in
    let body = noted_at (λ (b : Vec (Box Statement)). view.statements_of b.items) c.statements.new.faults.items both.1 c.statements.ensures in
    let all = statements_by c.args.self.now c.args.around (resolved.statements_of c.args.body.now) in
    let test = ap view.expression_of both.0 ∙ (λ j. (asked j).tree) in
    let tree = statement_row c.in_ok-test.body ∙ (λ j. (body j).tree) in
    let faults = (λ j. (body j).faults) ∙ (λ j. (asked j).faults ++ all.faults) ∙ append_assoc c.args.faults.now.items _ all.faults in
    λ j. noted (rest.While (test j) (test j) (tree j)) (faults j)

pub case-returns : goal.case-returns
case-returns t c =
    let counted = c.in_ok-counted.ensures in
    let both = c.in_ok-value.ensures in
    let cases = noted_at (λ (b : Vec (Box Statement)). view.statements_of b.items) c.statements.new.faults.items both.1 c.statements.ensures in
    let all = statements_by c.args.self.now c.args.around (resolved.statements_of c.args.cases.now) in
    let value = ap view.expression_of both.0 ∙ (λ j. (counted j).tree) in
    let tree = statement_row c.in_ok-value.cases ∙ (λ j. (cases j).tree) in
    let faults = (λ j. (cases j).faults) ∙ (λ j. (counted j).faults ++ all.faults) ∙ append_assoc c.args.faults.now.items _ all.faults in
    λ j. noted (rest.Case (value j) (tree j)) (faults j)

pub iterate-returns : goal.iterate-returns
iterate-returns t c =
    let r = c.args.range in
    let both = c.in_ok-range.ensures in
    let did = noted_at (λ (b : Vec (Box Statement)). view.statements_of b.items) c.statements.new.faults.items both.1 c.statements.ensures in
    let made = c.in_ok-from in
    let rounds = boxed_at made.ensures.1 c.new.ensures.ok in
    let whole : Range → rest.Statements → rest.Statement = λ x ss.
    rest.Iterate (view.expression_of x.from) (rest.Count x.step.counting (view.scalar_of x.index) (view.expression_of x.bound) (view.expression_of x.step.tree) ss) in
    let tree = iterate_tree made.from made.rounds
    ∙ (λ j. rest.Iterate (view.expression_of (made.ensures.0 j)) (view.loop_of (rounds j)))
    ∙ (λ j. whole (both.0 j) (did j).tree) in
    λ j. noted (tree j) (did j).faults

-- ---- lists

pub statements-loop-statement-preserved : goal.statements-loop-statement-preserved
statements-loop-statement-preserved t c =
    let here = c.loop-statement in
    let self = c.args.self.now in
    let around = c.args.around in
    let ss = c.args.statements.now in
    let x = c.statement-item.result in
    let did = c.in_ok-tree.ensures in
    let left = statements_by self around (resolved.statements_of (drop (here.statement-index + 1) ss)) in
    let at = sym (statements_at ss here.statement-index x c.loop-statement-test.true c.statement-item.is) in
    let tree = ap (λ (l : List (Box Statement)). statements_before l left.tree) c.in_ok-push.ensures.items
    ∙ statements_pushed here.typed.items c.in_ok-new.field-0 left.tree
    ∙ ap (λ (s : Statement). statements_before here.typed.items (rest.Then (view.statement_of s) left.tree)) c.in_ok-new.ensures.ok
    ∙ (λ j. statements_before here.typed.items (rest.Then (did j).tree left.tree)) in
    let faults = (λ j. (did j).faults ++ left.faults) ∙ append_assoc here.faults.items (statement_by self around (resolved.statement_of x)).faults left.faults in
    (λ j. noted (tree j) (faults j))
    ∙ ap (λ (l : StatementsR). noted_before here.typed.items here.faults.items (statements_by self around l)) at
    ∙ here.invariant

pub statements-returns : goal.statements-returns
statements-returns t c =
    let here = c.loop-statement in
    let none = sym (drop_all here.statement-index c.args.statements.now c.loop-statement-test.false) in
    (λ j. noted (sym (statements_all here.typed.items) j) (sym (append-nil here.faults.items) j))
    ∙ ap (λ (l : List declared_resolved.Statement). noted_before here.typed.items here.faults.items (statements_by c.args.self.now c.args.around (resolved.statements_of l))) none
    ∙ here.invariant
