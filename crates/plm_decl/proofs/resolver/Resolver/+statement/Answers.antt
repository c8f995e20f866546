use Rattle.std.proofs.Common.{◌≡◌, ℕ, length, List, ◌∷◌, ◌||◌, None, map, refl, sym, subst, ap, ◌∙◌}
use Rattle.std.specs.Prelude.{IfOk, IsOkAnd, Result, Ok}
use Rattle.std.proofs.lemmas.List.{take_all}
use Rattle.std.proofs.lemmas.Result.{IfOk-at_ok, IfOk-equal, IfOk-weaker, on_ok_weaker}
use Rattle.std.specs.Global.{Vec}
use Rattle.plm_syntax.specs.declared.tree.Basic.{Basic}
use Rattle.plm_syntax.specs.declared.tree.Bounds.{Bounds}
use Rattle.plm_syntax.specs.declared.tree.Item.{Item}
use Rattle.plm_syntax.specs.declared.tree.Name.{Name}
use Rattle.plm_syntax.specs.declared.tree.Procedure.{Procedure}
use Rattle.plm_syntax.specs.declared.tree.Reference.{Reference}
use Rattle.plm_syntax.specs.declared.tree.Statement.{Statement}
use Rattle.plm_syntax.specs.declared.tree.Basic.TheViews.{out-Block, out-Procedure}
use Rattle.plm_syntax.specs.Tree.{no_references, AssignS, IfS, WhileS, CaseS, BlockT, ItemT, ItemsT, StatementsT}
use Rattle.plm_syntax.specs.View as tree
use Rattle.plm_decl.proofs.Made.{made_so}
use Rattle.plm_decl.proofs.SyntaxRows.{statement_row}
use Rattle.plm_decl.specs.Scope.{Frame, frame, path_in, is_external}
use Rattle.plm_decl.specs.Inner.Scope.{frames_of}
use Rattle.plm_decl.specs.Spelling.{name_after}
use Rattle.plm_decl.specs.Names.{is_external_linkage}
use Rattle.plm_decl.specs.Inner.Procedures.{name_for, header_for, finished}
use Rattle.plm_decl.specs.Inner.Statements.{bounds_of, bounds_for, iterated, with_alternative}
use Rattle.plm_token.specs.Names.{normal}
use Rattle.plm_decl.specs.Resolver.{Known}
use Rattle.plm_decl.specs.Inner.Resolver.{known_of}
use Rattle.plm_decl.specs.Resolved.{ExpressionR, StatementR, StatementsR, IfR, DoR, WhileR, CaseR, and_statement}
use Rattle.plm_decl.specs.declared.resolved.Statement as made_tree
use Rattle.plm_decl.specs.ResolvedView as view
use Rattle.plm_decl.specs.Expressions.{expression}
use Rattle.plm_decl.specs.Statements.{basic, block, statement, statements, with_item, with_items}
use Rattle.plm_syntax.specs.Spelling.{last_name}
use Rattle.plm_decl.specs.Procedures.{declared_procedure}
use Rattle.plm_decl.proofs.ResolvedRows as rows
use Rattle.plm_decl.proofs.SyntaxLists.{item_next, statement_next}
use Rattle.plm_decl.proofs.TreeViews.{block_parts, name_for_parts, header_laid, header_for_parts, procedure_parts}
use Rattle.plm_decl.proofs.ReadProcedures.{procedure_read_is}
use Rattle.plm_decl.proofs.resolver.Resolver.+statement.Goals as goal

-- `IfOk-weaker`, where what is known stands before what follows
ok_then : {T E : Type 0} (P Q : T → Type 0) (r : Result T E) → IfOk r P → ((x : T) → P x → Q x) → IfOk r Q
ok_then P Q r h f = IfOk-weaker r P Q f h

-- what is so of a value is so of the result that has it
is_made : {T E : Type 0} (P : T → Type 0) (x : Result T E) (y : T) → x ≡ Ok y → P y → IsOkAnd x P
is_made {T} {E} P x y e p = subst (λ (z : Result T E). IsOkAnd z P) (sym e) p

pub basic-returns-in-Assign : goal.basic-returns-in-Assign
basic-returns-in-Assign t c =
    let frames = frames_of c.args.scope.now in
    let k = known_of c.args.resolver.now in
    let label = last_name (tree.names_of c.args.labels.now) in
    let at = c.in-Assign in
    let all =
    ap (λ (xs : List Reference). basic frames None (AssignS (tree.references_from xs no_references) (tree.expression_of at.value)) k) c.deref.ensures.value
    ∙ ap (λ (b : Basic). basic frames label (tree.basic_of b) k) (sym at.is) in
    subst (λ (x : StatementR × Known). IfOk c.assignment.result (λ s. (view.statement_of s, known_of c.assignment.new.self) ≡ x)) all c.assignment.ensures

pub basic-returns-in-If : goal.basic-returns-in-If
basic-returns-in-If t c =
    let frames = frames_of c.args.scope.now in
    let k = known_of c.args.resolver.now in
    let label = last_name (tree.names_of c.args.labels.now) in
    let at = c.in-If in
    let all =
    ap (λ (s : Statement). basic frames None (IfS at.place (tree.expression_of at.test) (tree.statement_of s)) k) c.deref-in-If.ensures
    ∙ ap (λ (b : Basic). basic frames label (tree.basic_of b) k) (sym at.is) in
    subst (λ (x : StatementR × Known). IfOk c.conditional.result (λ s. (view.statement_of s, known_of c.conditional.new.self) ≡ x)) all c.conditional.ensures

pub basic-returns-in-Do : goal.basic-returns-in-Do
basic-returns-in-Do t c =
    let frames = frames_of c.args.scope.now in
    let k = known_of c.args.resolver.now in
    let label = last_name (tree.names_of c.args.labels.now) in
    let at = c.in-Do in
    let all = ap (λ (b : Basic). basic frames label (tree.basic_of b) k) (sym at.is) in
    subst (λ (x : StatementR × Known). IfOk c.do_block.result (λ s. (view.statement_of s, known_of c.do_block.new.self) ≡ x)) all c.do_block.ensures

pub basic-returns-in-While : goal.basic-returns-in-While
basic-returns-in-While t c =
    let frames = frames_of c.args.scope.now in
    let k = known_of c.args.resolver.now in
    let label = last_name (tree.names_of c.args.labels.now) in
    let at = c.in-While in
    let all =
    ap (λ (ss : List Statement). basic frames None (WhileS at.place (tree.expression_of at.test) (tree.statements_of ss) None) k) c.deref-in-While.ensures.value
    ∙ ap (λ (ss : StatementsT). basic frames None (WhileS at.place (tree.expression_of at.test) ss None) k) (sym (statement_row at.body))
    ∙ ap (λ (b : Basic). basic frames label (tree.basic_of b) k) (sym at.is) in
    subst (λ (x : StatementR × Known). IfOk c.while_loop.result (λ s. (view.statement_of s, known_of c.while_loop.new.self) ≡ x)) all c.while_loop.ensures

pub basic-returns-in-Case : goal.basic-returns-in-Case
basic-returns-in-Case t c =
    let frames = frames_of c.args.scope.now in
    let k = known_of c.args.resolver.now in
    let label = last_name (tree.names_of c.args.labels.now) in
    let at = c.in-Case in
    let all =
    ap (λ (ss : List Statement). basic frames None (CaseS at.place (tree.expression_of at.selector) (tree.statements_of ss) None) k) c.deref-in-Case.ensures.value
    ∙ ap (λ (ss : StatementsT). basic frames None (CaseS at.place (tree.expression_of at.selector) ss None) k) (sym (statement_row at.cases))
    ∙ ap (λ (b : Basic). basic frames label (tree.basic_of b) k) (sym at.is) in
    subst (λ (x : StatementR × Known). IfOk c.case.result (λ s. (view.statement_of s, known_of c.case.new.self) ≡ x)) all c.case.ensures

pub basic-returns-in-Call : goal.basic-returns-in-Call
basic-returns-in-Call t c =
    let frames = frames_of c.args.scope.now in
    let k = known_of c.args.resolver.now in
    let label = last_name (tree.names_of c.args.labels.now) in
    let at = c.in-Call in
    let all = ap (λ (b : Basic). basic frames label (tree.basic_of b) k) (sym at.is) in
    subst (λ (x : StatementR × Known). IfOk c.call.result (λ s. (view.statement_of s, known_of c.call.new.self) ≡ x)) all c.call.ensures

pub basic-returns-in-ReturnValue : goal.basic-returns-in-ReturnValue
basic-returns-in-ReturnValue t c =
    let frames = frames_of c.args.scope.now in
    let k = known_of c.args.resolver.now in
    let label = last_name (tree.names_of c.args.labels.now) in
    let at = c.in-ReturnValue in
    let all = ap (λ (b : Basic). basic frames label (tree.basic_of b) k) (sym at.is) in
    subst (λ (x : StatementR × Known). IfOk c.return_value.result (λ s. (view.statement_of s, known_of c.return_value.new.self) ≡ x)) all c.return_value.ensures

pub basic-returns-in-Iterate : goal.basic-returns-in-Iterate
basic-returns-in-Iterate t c =
    let frames = frames_of c.args.scope.now in
    let k = known_of c.args.resolver.now in
    let label = last_name (tree.names_of c.args.labels.now) in
    let at = c.in-Iterate in
    let bounds = λ (b : Bounds). bounds_for frames (tree.name_of at.index) (tree.expression_of b.first) (tree.expression_of b.last) (tree.step_of b.step) k in
    let read = bounds at.values.value in
    let all =
    ap (λ (ss : StatementsT). iterated at.place at.index.place read.0 (statements frames ss read.1)) (sym (statement_row at.body))
    ∙ ap (λ (b : Basic). basic frames label (tree.basic_of b) k) (sym at.is) in
    let q = known_of c.iterate_from.new.self in
    let target = basic frames label (tree.basic_of c.args.basic.now) k in
    ok_then _ (λ s. (view.statement_of s, q) ≡ target) c.iterate_from.result c.iterate_from.ensures
    (λ s is. made_so {R = (view.statement_of s, q) ≡ target} _ _ c.bounds-bounds.result is c.bounds-bounds.ensures (λ b so made.
    let did = made ∙ ap bounds c.deref-in-Iterate.ensures in
    so ∙ (λ j. iterated at.place at.index.place (did j).0 (statements frames (tree.statements_of (c.deref-in-Iterate-2.ensures.value j)) (did j).1)) ∙ all))

pub basic-returns-in-IfElse : goal.basic-returns-in-IfElse
basic-returns-in-IfElse t c =
    let frames = frames_of c.args.scope.now in
    let k = known_of c.args.resolver.now in
    let label = last_name (tree.names_of c.args.labels.now) in
    let at = c.in-IfElse in
    let test = expression frames (tree.expression_of at.test) k in
    let all = ap (λ (b : Basic). basic frames label (tree.basic_of b) k) (sym at.is) in
    let q = known_of c.alternative_to.new.self in
    let target = basic frames label (tree.basic_of c.args.basic.now) k in
    ok_then _ (λ s. (view.statement_of s, q) ≡ target) c.alternative_to.result c.alternative_to.ensures
    (λ s is. made_so {R = (view.statement_of s, q) ≡ target} _ _ c.tested-tested.result is c.tested-tested.ensures (λ b so made.
    let did = made ∙ (λ j. let then = statement frames (tree.statement_of (c.deref-in-IfElse.ensures j)) test.1 in let both : ExpressionR × StatementR × Known = (test.0, then.0, then.1) in both) in
    so ∙ (λ j. with_alternative at.place (did j).0 (did j).1 (statement frames (tree.statement_of (c.deref-in-IfElse-2.ensures j)) (did j).2)) ∙ all))

pub boxed_statement-returns : goal.boxed_statement-returns
boxed_statement-returns t c =
    let all = statement (frames_of c.args.scope.now) (tree.statement_of c.args.statement.now) (known_of c.args.self.now) in
    ok_then _ (λ b. (view.statement_of b.value, known_of c.statement.new.self) ≡ all) c.boxed.result c.boxed.ensures
    (λ b made. IfOk-at_ok (λ (s : made_tree.Statement). (view.statement_of s, known_of c.statement.new.self) ≡ all) made c.statement.ensures)

pub tested-returns-in-Ok : goal.tested-returns-in-Ok
tested-returns-in-Ok t c =
    let did = c.in_ok-test.ensures in
    let body = c.in-Ok.ensures ∙ (λ j. statement (frames_of c.args.scope.now) (tree.statement_of c.args.body.now) (did j).1) in
    (λ j. ((did j).0, (body j).0, (body j).1))

pub conditional-returns : goal.conditional-returns
conditional-returns t c =
    let did = c.in_ok-tested.ensures in
    (λ j. (IfR c.args.place (did j).0 (did j).1, (did j).2))

pub alternative_to-returns : goal.alternative_to-returns
alternative_to-returns t c =
    IfOk-weaker c.alternative.result _ _ (λ s did. is_made _ c.args.tested c.in_ok-tested.tested c.in_ok-tested.was did) c.alternative.ensures

pub iterate_from-returns : goal.iterate_from-returns
iterate_from-returns t c =
    IfOk-weaker c.iterate.result _ _ (λ s did. is_made _ c.args.bounds c.in_ok-bounds.bounds c.in_ok-bounds.was did) c.iterate.ensures

pub alternative-returns-in-Ok : goal.alternative-returns-in-Ok
alternative-returns-in-Ok t c =
    ap (with_alternative c.args.place (view.expression_of c.args.test) (view.statement_of c.args.body.value)) c.in-Ok.ensures

pub do_block-returns : goal.do_block-returns
do_block-returns t c =
    let frames = frames_of c.args.scope.now in
    let did = c.in_ok-path.ensures in
    let ss = c.in_ok-statements.statements in
    let behind = frames_of c.block-statements.new.scope in
    let q = known_of c.block-statements.new.resolver in
    let inside = c.inside-inside.ensures ∙ (λ j. frame (did j).0 (c.is_external.ensures j) ∷ frames) in
    let begun = block (frames_of c.inside-inside.result) (tree.block_of c.args.block.now) (known_of c.do_path.new.self) in
    let body = IfOk-at_ok (λ (r : Vec made_tree.Statement). (view.statements_of r.items, behind, q) ≡ begun) c.in_ok-statements.was c.block-statements.ensures in
    (λ j. (DoR c.args.place (rows.statement_row ss j), q))
    ∙ (λ j. (DoR c.args.place (body j).0, (body j).2))
    ∙ (λ j. let r = block (inside j) (tree.block_of c.args.block.now) (did j).1 in (DoR c.args.place r.0, r.2))

pub while_loop-returns-in-Ok : goal.while_loop-returns-in-Ok
while_loop-returns-in-Ok t c =
    let frames = frames_of c.args.scope.now in
    let did = c.in_ok-test.ensures in
    let body = c.in-Ok in
    let first = expression frames (tree.expression_of c.args.test.now) (known_of c.args.self.now) in
    (λ j. (WhileR c.args.place (did j).0 (rows.statement_row body.body j), known_of c.statements.new.self))
    ∙ (λ j. (WhileR c.args.place first.0 (body.ensures j).0, (body.ensures j).1))
    ∙ (λ j. let r = statements frames (tree.statements_of c.args.body.now) (did j).1 in (WhileR c.args.place first.0 r.0, r.1))

pub case-returns-in-Ok : goal.case-returns-in-Ok
case-returns-in-Ok t c =
    let frames = frames_of c.args.scope.now in
    let did = c.in_ok-selector.ensures in
    let body = c.in-Ok in
    let first = expression frames (tree.expression_of c.args.selector.now) (known_of c.args.self.now) in
    (λ j. (CaseR c.args.place (did j).0 (rows.statement_row body.cases j), known_of c.statements.new.self))
    ∙ (λ j. (CaseR c.args.place first.0 (body.ensures j).0, (body.ensures j).1))
    ∙ (λ j. let r = statements frames (tree.statements_of c.args.cases.now) (did j).1 in (CaseR c.args.place first.0 r.0, r.1))

pub iterate-returns : goal.iterate-returns
iterate-returns t c =
    let body = c.in_ok-body in
    let made = iterated c.args.place c.args.index (bounds_of c.args.bounds.value) in
    (λ j. made (rows.statement_row body.body j, known_of c.statements.new.self)) ∙ ap made body.ensures

pub statements-loop-statement-preserved : goal.statements-loop-statement-preserved
statements-loop-statement-preserved t c =
    let here = c.loop-statement in
    let frames = frames_of c.args.scope.now in
    let k = known_of c.args.self.now in
    let all = c.args.statements.now in
    let x = tree.statement_of c.statement-item.result in
    let next = sym (statement_next all here.statement-index c.statement-item.result c.loop-statement-test.true c.statement-item.is) in
    made_so _ _ c.statement.result c.in_ok-pushed.ensures c.statement.ensures
    (λ s kept did.
    let pushed = ap view.statements_of kept ∙ rows.statement_pushed here.resolved.items s in
    (λ j. (pushed j, known_of c.statement.new.self))
    ∙ (λ j. (and_statement (view.statements_of here.resolved.items) (did j).0, (did j).1))
    ∙ (λ j. let done = here.invariant j in let r = statement frames x done.1 in (and_statement done.0 r.0, r.1))
    ∙ ap (λ (ss : StatementsT). statements frames ss k) next)

pub items-loop-item-preserved : goal.items-loop-item-preserved
items-loop-item-preserved t c =
    let here = c.loop-item in
    let frames = frames_of c.args.scope.now in
    let k = known_of c.args.self.now in
    let all = c.args.items.now in
    let next = sym (item_next all here.item-index c.item-item.result c.loop-item-test.true c.item-item.is) in
    c.in_ok-item.ensures
    ∙ (λ j. with_item (here.invariant j).0 (tree.item_of c.item-item.result) (here.invariant j).1)
    ∙ ap (λ (is : ItemsT). with_items frames is k) next

pub items-returns : goal.items-returns
items-returns t c =
    let here = c.loop-item in
    let all = take_all here.item-index c.args.items.now c.loop-item-test.false in
    here.invariant ∙ ap (λ (is : List Item). with_items (frames_of c.args.scope.now) (tree.items_of is) (known_of c.args.self.now)) all

pub block-returns : goal.block-returns
block-returns t c =
    let o = out-Block c.args.block.now in
    let frames = frames_of c.args.scope.now in
    let k = known_of c.args.resolver.now in
    let entered = c.in_ok-items.ensures ∙ ap (λ (is : List Item). with_items frames (tree.items_of is) k) c.deref.ensures.value in
    let read = c.deref-2.ensures.value in
    let behind = frames_of c.items.new.scope in
    let q = known_of c.statements.new.self in
    let target = block frames (tree.block_of c.args.block.now) k in
    ok_then _ (λ ss. (view.statements_of ss.items, behind, q) ≡ target) c.statements.result c.statements.ensures
    (λ ss did.
    (λ j. ((did j).0, behind, (did j).1))
    ∙ (λ j. let l = entered j in let r = statements l.0 (tree.statements_of (read j)) l.1 in (r.0, l.0, r.1))
    ∙ ap (λ (b : BlockT). block frames b k) (sym (block_parts c.args.block.now)))

-- the steps of a procedure, one after another
in_order : {Names Known Body : Type 0} (into : Names → Names) (read : Names → Known → Body × Names × Known) (finish : ℕ → Names → Body → Known → Known)
    → (number n : ℕ) (begun at : Names × Known) (inside : Names) (done : Body × Names × Known)
    → number ≡ n → begun ≡ at → inside ≡ into begun.0 → done ≡ read inside begun.1
    → finish number done.1 done.0 done.2 ≡ (let b = read (into at.0) at.1 in finish n b.1 b.0 b.2)
in_order into read finish number n begun at inside done e0 e1 e2 e3 =
    let behind = e3 ∙ (λ j. read (e2 j) begun.1) ∙ (λ j. read (into (e1 j).0) (e1 j).1) in
    (λ j. finish (e0 j) (behind j).1 (behind j).0 (behind j).2)

-- a procedure's name and header, by its parts
declared_is : (frames : List Frame) (p : Procedure) (k : Known)
    → declared_procedure frames (name_for p) (header_for (name_after (path_in frames) (normal (name_for p).text)) p k) k
    ≡ declared_procedure frames (tree.name_of (out-Procedure p).name) (header_laid (name_after (path_in frames) (normal (tree.name_of (out-Procedure p).name).text)) p k) k
declared_is frames p k =
    let n = tree.name_of (out-Procedure p).name in
    (λ j. declared_procedure frames (name_for_parts p j) (header_for (name_after (path_in frames) (normal (name_for_parts p j).text)) p k) k)
    ∙ (λ j. declared_procedure frames n (header_for_parts (name_after (path_in frames) (normal n.text)) p k j) k)

pub body-returns : goal.body-returns
body-returns t c =
    let did = c.in_ok-statements.ensures in
    IfOk-equal c.finish.result _ _ _ c.finish.ensures (λ j. finished c.args.number (did j).1 (map tree.name_of c.args.parameters.now) (did j).0 (did j).2)

pub procedure-returns : goal.procedure-returns
procedure-returns t c =
    let p = c.args.procedure.now in
    let o = out-Procedure p in
    let frames = frames_of c.args.scope.now in
    let k = known_of c.args.self.now in
    let n = tree.name_of o.name in
    let ns = map tree.name_of o.parameters.items in
    let path = name_after (path_in frames) (normal n.text) in
    let header = c.in_ok-number.ensures in
    let begun = (λ j. ((header j).1, (header j).2)) ∙ declared_is frames p k in
    let external = is_external_linkage o.linkage || is_external frames in
    let outer = frames_of c.header.new.scope in
    let done = block (frames_of c.inside-inside.result) (tree.block_of o.block) (known_of c.header.new.self) in
    let finish =
    ap (λ (l : List Name). finished c.in_ok-number.number done.1 (map tree.name_of l) done.0 done.2) c.deref.ensures.value
    ∙ in_order (λ (l : List Frame). frame path external ∷ l) (λ (l : List Frame) (x : Known). block l (tree.block_of o.block) x)
    (λ (i : ℕ) (l : List Frame) (ss : StatementsR) (x : Known). finished i l ns ss x)
    c.in_ok-number.number (length k.procedures) (outer, known_of c.header.new.self) (declared_procedure frames n (header_laid path p k) k)
    (frames_of c.inside-inside.result) done
    (λ j. (header j).0) begun
    (c.inside-inside.ensures ∙ (λ j. frame (c.in_ok-path.ensures j) (c.takes_no_room-is_external.ensures j) ∷ outer))
    refl
    ∙ procedure_read_is frames p k in
    on_ok_weaker c.body-read.result
    (λ (did : known_of c.body-read.new.resolver ≡ finished c.in_ok-number.number done.1 (map tree.name_of c.deref.result.now) done.0 done.2). (λ j. (outer, did j)) ∙ (λ j. ((begun j).0, finish j)) ∙ ap (λ (i : ItemT). ((with_item frames i k).0, (with_item frames (tree.procedure_of p) k).1)) (sym (procedure_parts p)))
    c.body-read.ensures
