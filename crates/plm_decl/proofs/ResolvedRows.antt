-- The lists of resolved trees: joined from their rows, and grown by a push.
use Rattle.std.proofs.Common.{◌≡◌, List, [], ◌∷◌, ◌++◌, refl, ap, ◌∙◌}
use Rattle.std.specs.Global.{Vec}
use Rattle.plm_decl.specs.declared.resolved.Expression.{Expression, Row_of-Expression, end_of-Expression, more_of-Expression, items-the_row-Expression, items_hidden-the_row-Expression-0, Row_of-Operation, end_of-Operation, more_of-Operation, items-the_row-Operation, items_hidden-the_row-Operation-1}
use Rattle.plm_decl.specs.declared.resolved.Expression.TheBlock.{hidden-the_row-Expression-0, hidden-the_row-Operation-1}
use Rattle.plm_decl.specs.declared.resolved.Expression.TheVariants as expression
use Rattle.plm_decl.specs.declared.resolved.Operation.{Operation}
use Rattle.plm_decl.specs.declared.resolved.Reference.{Reference}
use Rattle.plm_decl.specs.declared.resolved.Statement.{Statement, Row_of-Statement, end_of-Statement, more_of-Statement, items-the_row-Statement, items_hidden-the_row-Statement-0}
use Rattle.plm_decl.specs.declared.resolved.Statement.TheBlock.{hidden-the_row-Statement-0}
use Rattle.plm_decl.specs.Resolved.{ExpressionR, ExpressionsR, ReferenceR, EmbeddedR, BinaryR, Use, LocationOf, DoR, WhileR, CaseR, IterateR, expressions, references, statements, and_expression, and_reference, and_statement}
use Rattle.plm_decl.specs.ResolvedLists.{ResolvedTreesHaveTheirLists}
use Rattle.plm_decl.specs.ResolvedView.{expression_of, selector_of, step_of, leaned_in, leaned, expressions_in, expressions_of, reference_of, references_of, statement_of, statements_in, statements_of}

expression_rows : {m : _} (row : Row_of-Expression m) → expressions_in row ≡ expressions_of (items-the_row-Expression m row)
expression_rows end_of-Expression = refl
expression_rows (more_of-Expression e es) = ap (expressions (expression_of e)) (expression_rows es)

pub expression_row : (v : Vec Expression) → expressions_in (hidden-the_row-Expression-0 v) ≡ expressions_of v.items
expression_row v = expression_rows (hidden-the_row-Expression-0 v) ∙ ap expressions_of (items_hidden-the_row-Expression-0 v)

operation_rows : {m : _} (left : ExpressionR) (row : Row_of-Operation m) → leaned_in left row ≡ leaned left (items-the_row-Operation m row)
operation_rows left end_of-Operation = refl
operation_rows left (more_of-Operation p o e os) = operation_rows (BinaryR p o left (expression_of e)) os

pub operation_row : (left : ExpressionR) (v : Vec Operation) → leaned_in left (hidden-the_row-Operation-1 v) ≡ leaned left v.items
operation_row left v = operation_rows left (hidden-the_row-Operation-1 v) ∙ ap (leaned left) (items_hidden-the_row-Operation-1 v)

pub operation_pushed : (left : ExpressionR) (os : List Operation) (x : Operation) → leaned left (os ++ x ∷ []) ≡ BinaryR x.place x.operator (leaned left os) (expression_of x.operand)
operation_pushed left [] x = refl
operation_pushed left (o ∷ os) x = operation_pushed (BinaryR o.place o.operator left (expression_of o.operand)) os x

pub expression_pushed : (es : List Expression) (e : Expression) → expressions_of (es ++ e ∷ []) ≡ and_expression (expressions_of es) (expression_of e)
expression_pushed [] e = refl
expression_pushed (d ∷ es) e = ap (expressions (expression_of d)) (expression_pushed es e)

pub reference_pushed : (xs : List Reference) (x : Reference) → references_of (xs ++ x ∷ []) ≡ and_reference (references_of xs) (reference_of x)
reference_pushed [] x = refl
reference_pushed (y ∷ xs) x = ap (references (reference_of y)) (reference_pushed xs x)

statement_rows : {m : _} (row : Row_of-Statement m) → statements_in row ≡ statements_of (items-the_row-Statement m row)
statement_rows end_of-Statement = refl
statement_rows (more_of-Statement s ss) = ap (statements (statement_of s)) (statement_rows ss)

pub statement_row : (v : Vec Statement) → statements_in (hidden-the_row-Statement-0 v) ≡ statements_of v.items
statement_row v = statement_rows (hidden-the_row-Statement-0 v) ∙ ap statements_of (items_hidden-the_row-Statement-0 v)

pub statement_pushed : (ss : List Statement) (s : Statement) → statements_of (ss ++ s ∷ []) ≡ and_statement (statements_of ss) (statement_of s)
statement_pushed [] s = refl
statement_pushed (t ∷ ss) s = ap (statements (statement_of t)) (statement_pushed ss s)

reference_placed : (x : Reference) → expression_of (expression.Reference x) ≡ ReferenceR (reference_of x)
reference_placed x = ap (λ (es : ExpressionsR). ReferenceR (Use x.place x.binding es (selector_of x.selector))) (expression_row x.subscripts)

pub lists_are_theirs : ResolvedTreesHaveTheirLists
lists_are_theirs = record {
  reference = reference_placed;
  embedded = λ p x e. ap (λ (es : ExpressionsR). EmbeddedR p (Use x.place x.binding es (selector_of x.selector)) (expression_of e.value)) (expression_row x.subscripts);
  chain = λ e os. operation_row (expression_of e.value) os;
  location = λ p f x. ap (λ (es : ExpressionsR). LocationOf p f (Use x.place x.binding es (selector_of x.selector))) (expression_row x.subscripts);
  block = λ p ss. ap (DoR p) (statement_row ss);
  while_true = λ p e ss. ap (WhileR p (expression_of e)) (statement_row ss);
  case_of = λ p e ss. ap (CaseR p (expression_of e)) (statement_row ss);
  iterate = λ p q b ss. ap (IterateR p q b.value.binding (expression_of b.value.from) (expression_of b.value.to) (step_of b.value.step)) (statement_row ss);
}
