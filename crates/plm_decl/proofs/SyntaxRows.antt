-- The trees of a `Vec` in a syntax tree: joined from its row, and grown by a push.
use Rattle.std.proofs.Common.{◌≡◌, List, [], ◌∷◌, ◌++◌, refl, ap, ◌∙◌}
use Rattle.std.specs.Global.{Vec}
use Rattle.plm_syntax.specs.declared.tree.Expression.{Expression, Row_of-Expression, end_of-Expression, more_of-Expression, items-the_row-Expression, items_hidden-the_row-Expression-0, Row_of-Operation, end_of-Operation, more_of-Operation, items-the_row-Operation, items_hidden-the_row-Operation-1}
use Rattle.plm_syntax.specs.declared.tree.Expression.TheBlock.{hidden-the_row-Expression-0, hidden-the_row-Operation-1, hidden-the_row-Value-2}
use Rattle.plm_syntax.specs.declared.tree.Operation.{Operation}
use Rattle.plm_syntax.specs.declared.tree.Value.{Value}
use Rattle.plm_syntax.specs.declared.tree.Location.{Row_of-Value, end_of-Value, more_of-Value, items-the_row-Value, items_hidden-the_row-Value-2}
use Rattle.plm_syntax.specs.declared.tree.Statement.{Statement}
use Rattle.plm_syntax.specs.declared.tree.Item.{Item}
use Rattle.plm_syntax.specs.declared.tree.Block.{Row_of-Item, end_of-Item, more_of-Item, items-the_row-Item, items_hidden-the_row-Item-1}
use Rattle.plm_syntax.specs.declared.tree.Basic.{Row_of-Statement, end_of-Statement, more_of-Statement, items-the_row-Statement, items_hidden-the_row-Statement-0}
use Rattle.plm_syntax.specs.declared.tree.Basic.TheBlock.{hidden-the_row-Item-1, hidden-the_row-Statement-0}
use Rattle.plm_syntax.specs.Tree.{ExpressionT, BinaryE, StatementsT, no_statements, statements, ItemsT, no_items, items, ExpressionsT, no_expressions, expressions, ValuesT, no_values, values}
use Rattle.plm_syntax.specs.View.{expression_of, leaned_in, leaned, expressions_in, expressions_from, expressions_of, value_of, values_in, values_from, values_of, statement_of, statements_in, statements_from, statements_of, item_of, items_in, items_from, items_of}

expression_rows : {m : _} (row : Row_of-Expression m) (before : ExpressionsT) → expressions_in row before ≡ expressions_from (items-the_row-Expression m row) before
expression_rows end_of-Expression before = refl
expression_rows (more_of-Expression e es) before = expression_rows es (expressions before (expression_of e))

pub expression_row : (v : Vec Expression) → expressions_in (hidden-the_row-Expression-0 v) no_expressions ≡ expressions_of v.items
expression_row v = expression_rows (hidden-the_row-Expression-0 v) no_expressions ∙ ap (λ (es : List Expression). expressions_from es no_expressions) (items_hidden-the_row-Expression-0 v)

operation_rows : {m : _} (left : ExpressionT) (row : Row_of-Operation m) → leaned_in left row ≡ leaned left (items-the_row-Operation m row)
operation_rows left end_of-Operation = refl
operation_rows left (more_of-Operation p o e os) = operation_rows (BinaryE p o left (expression_of e)) os

pub operation_row : (left : ExpressionT) (v : Vec Operation) → leaned_in left (hidden-the_row-Operation-1 v) ≡ leaned left v.items
operation_row left v = operation_rows left (hidden-the_row-Operation-1 v) ∙ ap (leaned left) (items_hidden-the_row-Operation-1 v)

value_rows : {m : _} (row : Row_of-Value m) (before : ValuesT) → values_in row before ≡ values_from (items-the_row-Value m row) before
value_rows end_of-Value before = refl
value_rows (more_of-Value v vs) before = value_rows vs (values before (value_of v))

pub value_row : (v : Vec Value) → values_in (hidden-the_row-Value-2 v) no_values ≡ values_of v.items
value_row v = value_rows (hidden-the_row-Value-2 v) no_values ∙ ap (λ (vs : List Value). values_from vs no_values) (items_hidden-the_row-Value-2 v)

statement_rows : {m : _} (row : Row_of-Statement m) (before : StatementsT) → statements_in row before ≡ statements_from (items-the_row-Statement m row) before
statement_rows end_of-Statement before = refl
statement_rows (more_of-Statement ns b ss) before = statement_rows ss _

pub statement_row : (v : Vec Statement) → statements_in (hidden-the_row-Statement-0 v) no_statements ≡ statements_of v.items
statement_row v = statement_rows (hidden-the_row-Statement-0 v) no_statements ∙ ap (λ (ss : List Statement). statements_from ss no_statements) (items_hidden-the_row-Statement-0 v)

item_rows : {m : _} (row : Row_of-Item m) (before : ItemsT) → items_in row before ≡ items_from (items-the_row-Item m row) before
item_rows end_of-Item before = refl
item_rows (more_of-Item i is) before = item_rows is (items before (item_of i))

pub item_row : (v : Vec Item) → items_in (hidden-the_row-Item-1 v) no_items ≡ items_of v.items
item_row v = item_rows (hidden-the_row-Item-1 v) no_items ∙ ap (λ (is : List Item). items_from is no_items) (items_hidden-the_row-Item-1 v)

pub expression_pushed : (es : List Expression) (e : Expression) (before : ExpressionsT) → expressions_from (es ++ e ∷ []) before ≡ expressions (expressions_from es before) (expression_of e)
expression_pushed [] e before = refl
expression_pushed (d ∷ es) e before = expression_pushed es e (expressions before (expression_of d))

pub statement_pushed : (ss : List Statement) (s : Statement) (before : StatementsT) → statements_from (ss ++ s ∷ []) before ≡ statements (statements_from ss before) (statement_of s)
statement_pushed [] s before = refl
statement_pushed (t ∷ ss) s before = statement_pushed ss s (statements before (statement_of t))

pub item_pushed : (is : List Item) (i : Item) (before : ItemsT) → items_from (is ++ i ∷ []) before ≡ items (items_from is before) (item_of i)
item_pushed [] i before = refl
item_pushed (j ∷ is) i before = item_pushed is i (items before (item_of j))
