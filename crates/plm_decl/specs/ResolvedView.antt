-- The Rust trees of resolved statements as plain ones.
use Rattle.std.specs.Prelude.{List, [], ◌∷◌, Option, Some, None}
use Rattle.plm_decl.specs.declared.resolved.Expression.{Expression, Row_of-Expression, end_of-Expression, more_of-Expression, Row_of-Operation, end_of-Operation, more_of-Operation}
use Rattle.plm_decl.specs.declared.resolved.Expression.TheVariants as expression
use Rattle.plm_decl.specs.declared.resolved.Operation.{Operation}
use Rattle.plm_decl.specs.declared.resolved.Reference.{Reference}
use Rattle.plm_decl.specs.declared.resolved.Selector.{Selector}
use Rattle.plm_decl.specs.declared.resolved.Selector.TheVariants as selector
use Rattle.plm_decl.specs.declared.resolved.Location.{Location}
use Rattle.plm_decl.specs.declared.resolved.Location.TheVariants as location
use Rattle.plm_decl.specs.declared.resolved.Statement.{Statement, Row_of-Statement, end_of-Statement, more_of-Statement}
use Rattle.plm_decl.specs.declared.resolved.Statement.TheVariants as statement
use Rattle.plm_decl.specs.Resolved.{ExpressionR, NumberR, TextR, ReferenceR, LocationR, ParenthesisedR, EmbeddedR, UnaryR, BinaryR, ReferenceR', Use, ExpressionsR, no_expressions, expressions, SelectorR, no_member, member, member_at, LocationR', LocationOf, ConstantsOf, ReferencesR, no_references, references, StatementR, EmptyR, AssignR, CallR, ReturnR, ReturnValueR, EnableR, DisableR, HaltR, IfR, IfElseR, DoR, WhileR, CaseR, IterateR, StatementsR, no_statements, statements}

abbrev mutual
  pub expression_of : Expression → ExpressionR
  expression_of (expression.Number n) = NumberR (record { value = n.value; place = n.place })
  expression_of (expression.Text p s) = TextR p s.items
  expression_of (expression.Reference' p m shape es s) = ReferenceR (Use p m (expressions_in es) (selector_of s))
  expression_of (expression.Location l) = LocationR (location_of l)
  expression_of (expression.Parenthesised' p q e) = ParenthesisedR p (expression_of e)
  expression_of (expression.Embedded' p r m shape es s q e) = EmbeddedR p (Use r m (expressions_in es) (selector_of s)) (expression_of e)
  expression_of (expression.Unary' p o q e) = UnaryR p o (expression_of e)
  expression_of (expression.Chain' q e shape os) = leaned_in (expression_of e) os

  pub selector_of : Selector → SelectorR
  selector_of selector.None = no_member
  selector_of (selector.Member p m) = member p m
  selector_of (selector.Element' p m q e) = member_at p m (expression_of e)

  pub location_of : Location → LocationR'
  location_of (location.Reference' p f r m shape es s) = LocationOf p f (Use r m (expressions_in es) (selector_of s))
  location_of (location.Constants p f k) = ConstantsOf p f k

  pub expressions_in : {m : _} → Row_of-Expression m → ExpressionsR
  expressions_in end_of-Expression = no_expressions
  expressions_in (more_of-Expression e es) = expressions (expression_of e) (expressions_in es)

  pub leaned_in : {m : _} → ExpressionR → Row_of-Operation m → ExpressionR
  leaned_in left end_of-Operation = left
  leaned_in left (more_of-Operation p o e os) = leaned_in (BinaryR p o left (expression_of e)) os

-- operators from left to right, after what stands to their left
abbrev pub leaned : ExpressionR → List Operation → ExpressionR
leaned left [] = left
leaned left (x ∷ xs) = leaned (BinaryR x.place x.operator left (expression_of x.operand)) xs

abbrev pub expressions_of : List Expression → ExpressionsR
expressions_of [] = no_expressions
expressions_of (e ∷ es) = expressions (expression_of e) (expressions_of es)

abbrev pub reference_of : Reference → ReferenceR'
reference_of r = Use r.place r.binding (expressions_of r.subscripts.items) (selector_of r.selector)

abbrev pub references_of : List Reference → ReferencesR
references_of [] = no_references
references_of (x ∷ xs) = references (reference_of x) (references_of xs)

abbrev pub step_of : Option Expression → Option ExpressionR
step_of None = None
step_of (Some e) = Some (expression_of e)

abbrev mutual
  pub statement_of : Statement → StatementR
  statement_of (statement.Empty p) = EmptyR p
  statement_of (statement.Assign xs e) = AssignR (references_of xs.items) (expression_of e)
  statement_of (statement.Call p x) = CallR p (reference_of x)
  statement_of (statement.Return p) = ReturnR p
  statement_of (statement.ReturnValue p e) = ReturnValueR p (expression_of e)
  statement_of (statement.Enable p) = EnableR p
  statement_of (statement.Disable p) = DisableR p
  statement_of (statement.Halt p) = HaltR p
  statement_of (statement.If' p e q s) = IfR p (expression_of e) (statement_of s)
  statement_of (statement.IfElse' p e q s r t) = IfElseR p (expression_of e) (statement_of s) (statement_of t)
  statement_of (statement.Do' p shape ss) = DoR p (statements_in ss)
  statement_of (statement.While' p e shape ss) = WhileR p (expression_of e) (statements_in ss)
  statement_of (statement.Case' p e shape ss) = CaseR p (expression_of e) (statements_in ss)
  statement_of (statement.Iterate' p q b shape ss) = IterateR p q b.value.binding (expression_of b.value.from) (expression_of b.value.to) (step_of b.value.step) (statements_in ss)

  pub statements_in : {m : _} → Row_of-Statement m → StatementsR
  statements_in end_of-Statement = no_statements
  statements_in (more_of-Statement s ss) = statements (statement_of s) (statements_in ss)

abbrev pub statements_of : List Statement → StatementsR
statements_of [] = no_statements
statements_of (s ∷ ss) = statements (statement_of s) (statements_of ss)
