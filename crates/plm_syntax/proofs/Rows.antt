-- The trees of a `Vec`: joined from its row, and grown by a push.
use Rattle.std.proofs.Common.{◌≡◌, ℕ, ◌+◌, ◌<◌, List, [], ◌∷◌, ◌++◌, length, get_or, take, refl, ap, ◌∙◌}
use Rattle.std.proofs.Math.Numerals.{add-one}
use Rattle.std.proofs.Math.Seq.{take-suc}
use Rattle.std.specs.Global.{Vec}
use Rattle.plm_syntax.specs.declared.tree.Name.{Name}
use Rattle.plm_syntax.specs.declared.tree.Expression.{Expression, Row_of-Expression, end_of-Expression, more_of-Expression, items-the_row-Expression, items_hidden-the_row-Expression-0, Row_of-Operation, end_of-Operation, more_of-Operation, items-the_row-Operation, items_hidden-the_row-Operation-1}
use Rattle.plm_syntax.specs.declared.tree.Expression.TheBlock.{hidden-the_row-Expression-0, hidden-the_row-Operation-1, hidden-the_row-Value-2}
use Rattle.plm_syntax.specs.declared.tree.Operation.{Operation}
use Rattle.plm_syntax.specs.declared.tree.Value.{Value}
use Rattle.plm_syntax.specs.declared.tree.Location.{Row_of-Value, end_of-Value, more_of-Value, items-the_row-Value, items_hidden-the_row-Value-2}
use Rattle.plm_syntax.specs.declared.tree.Reference.{Reference}
use Rattle.plm_syntax.specs.declared.tree.Variable.{Variable}
use Rattle.plm_syntax.specs.declared.tree.Member.{Member}
use Rattle.plm_syntax.specs.declared.tree.Element.{Element}
use Rattle.plm_syntax.specs.declared.tree.Statement.{Statement}
use Rattle.plm_syntax.specs.declared.tree.Item.{Item}
use Rattle.plm_syntax.specs.declared.tree.Block.{Row_of-Item, end_of-Item, more_of-Item, items-the_row-Item, items_hidden-the_row-Item-1}
use Rattle.plm_syntax.specs.declared.tree.Basic.{Row_of-Statement, end_of-Statement, more_of-Statement, items-the_row-Statement, items_hidden-the_row-Statement-0}
use Rattle.plm_syntax.specs.declared.tree.Basic.TheBlock.{hidden-the_row-Item-1, hidden-the_row-Statement-0}
use Rattle.plm_syntax.specs.Tree.{ExpressionT, BinaryE, VariablesT, variables, MembersT, members, ElementsT, elements, StatementsT, no_statements, statements, ItemsT, no_items, items, ExpressionsT, no_expressions, expressions, ValuesT, no_values, values, NamesT, names, ReferencesT, references}
use Rattle.plm_syntax.specs.View.{name_of, expression_of, leaned_in, leaned, expressions_in, expressions_from, expressions_of, value_of, values_in, values_from, values_of, names_from, reference_of, references_from, variable_of, variables_from, member_of, members_from, element_of, elements_from, statement_of, statements_in, statements_from, statements_of, item_of, items_in, items_from, items_of}

pub expression_rows : {m : _} (row : Row_of-Expression m) (before : ExpressionsT) → expressions_in row before ≡ expressions_from (items-the_row-Expression m row) before
expression_rows end_of-Expression before = refl
expression_rows (more_of-Expression e es) before = expression_rows es (expressions before (expression_of e))

pub expression_row : (v : Vec Expression) → expressions_in (hidden-the_row-Expression-0 v) no_expressions ≡ expressions_of v.items
expression_row v = expression_rows (hidden-the_row-Expression-0 v) no_expressions ∙ ap (λ (es : List Expression). expressions_from es no_expressions) (items_hidden-the_row-Expression-0 v)

pub operation_rows : {m : _} (left : ExpressionT) (row : Row_of-Operation m) → leaned_in left row ≡ leaned left (items-the_row-Operation m row)
operation_rows left end_of-Operation = refl
operation_rows left (more_of-Operation p o e os) = operation_rows (BinaryE p o left (expression_of e)) os

pub operation_row : (left : ExpressionT) (v : Vec Operation) → leaned_in left (hidden-the_row-Operation-1 v) ≡ leaned left v.items
operation_row left v = operation_rows left (hidden-the_row-Operation-1 v) ∙ ap (leaned left) (items_hidden-the_row-Operation-1 v)

pub value_rows : {m : _} (row : Row_of-Value m) (before : ValuesT) → values_in row before ≡ values_from (items-the_row-Value m row) before
value_rows end_of-Value before = refl
value_rows (more_of-Value v vs) before = value_rows vs (values before (value_of v))

pub value_row : (v : Vec Value) → values_in (hidden-the_row-Value-2 v) no_values ≡ values_of v.items
value_row v = value_rows (hidden-the_row-Value-2 v) no_values ∙ ap (λ (vs : List Value). values_from vs no_values) (items_hidden-the_row-Value-2 v)

pub expression_pushed : (es : List Expression) (e : Expression) (before : ExpressionsT) → expressions_from (es ++ e ∷ []) before ≡ expressions (expressions_from es before) (expression_of e)
expression_pushed [] e before = refl
expression_pushed (d ∷ es) e before = expression_pushed es e (expressions before (expression_of d))

pub operation_pushed : (left : ExpressionT) (os : List Operation) (x : Operation) → leaned left (os ++ x ∷ []) ≡ BinaryE x.place x.operator (leaned left os) (expression_of x.operand)
operation_pushed left [] x = refl
operation_pushed left (o ∷ os) x = operation_pushed (BinaryE o.place o.operator left (expression_of o.operand)) os x

-- one operation more: an invariant of a loop over a chain's operations
pub leaned_more : (left : ExpressionT) (os : List Operation) (k : ℕ) (d : Operation) → k < length os
    → leaned left (take (k + 1) os) ≡ BinaryE (get_or os k d).place (get_or os k d).operator (leaned left (take k os)) (expression_of (get_or os k d).operand)
leaned_more left os k d h = rw add-one (ap (leaned left) (take-suc os k d h) ∙ operation_pushed left (take k os) (get_or os k d))

pub value_pushed : (vs : List Value) (v : Value) (before : ValuesT) → values_from (vs ++ v ∷ []) before ≡ values (values_from vs before) (value_of v)
value_pushed [] v before = refl
value_pushed (w ∷ vs) v before = value_pushed vs v (values before (value_of w))

pub name_pushed : (ns : List Name) (n : Name) (before : NamesT) → names_from (ns ++ n ∷ []) before ≡ names (names_from ns before) (name_of n)
name_pushed [] n before = refl
name_pushed (m ∷ ns) n before = name_pushed ns n (names before (name_of m))

pub reference_pushed : (xs : List Reference) (x : Reference) (before : ReferencesT) → references_from (xs ++ x ∷ []) before ≡ references (references_from xs before) (reference_of x)
reference_pushed [] x before = refl
reference_pushed (y ∷ xs) x before = reference_pushed xs x (references before (reference_of y))

pub variable_pushed : (xs : List Variable) (x : Variable) (before : VariablesT) → variables_from (xs ++ x ∷ []) before ≡ variables (variables_from xs before) (variable_of x)
variable_pushed [] x before = refl
variable_pushed (y ∷ xs) x before = variable_pushed xs x (variables before (variable_of y))

pub member_pushed : (ms : List Member) (m : Member) (before : MembersT) → members_from (ms ++ m ∷ []) before ≡ members (members_from ms before) (member_of m)
member_pushed [] m before = refl
member_pushed (k ∷ ms) m before = member_pushed ms m (members before (member_of k))

pub element_pushed : (es : List Element) (e : Element) (before : ElementsT) → elements_from (es ++ e ∷ []) before ≡ elements (elements_from es before) (element_of e)
element_pushed [] e before = refl
element_pushed (d ∷ es) e before = element_pushed es e (elements before (element_of d))

pub statement_rows : {m : _} (row : Row_of-Statement m) (before : StatementsT) → statements_in row before ≡ statements_from (items-the_row-Statement m row) before
statement_rows end_of-Statement before = refl
statement_rows (more_of-Statement ns b ss) before = statement_rows ss _

pub statement_row : (v : Vec Statement) → statements_in (hidden-the_row-Statement-0 v) no_statements ≡ statements_of v.items
statement_row v = statement_rows (hidden-the_row-Statement-0 v) no_statements ∙ ap (λ (ss : List Statement). statements_from ss no_statements) (items_hidden-the_row-Statement-0 v)

pub item_rows : {m : _} (row : Row_of-Item m) (before : ItemsT) → items_in row before ≡ items_from (items-the_row-Item m row) before
item_rows end_of-Item before = refl
item_rows (more_of-Item i is) before = item_rows is (items before (item_of i))

pub item_row : (v : Vec Item) → items_in (hidden-the_row-Item-1 v) no_items ≡ items_of v.items
item_row v = item_rows (hidden-the_row-Item-1 v) no_items ∙ ap (λ (is : List Item). items_from is no_items) (items_hidden-the_row-Item-1 v)

pub statement_pushed : (ss : List Statement) (s : Statement) (before : StatementsT) → statements_from (ss ++ s ∷ []) before ≡ statements (statements_from ss before) (statement_of s)
statement_pushed [] s before = refl
statement_pushed (t ∷ ss) s before = statement_pushed ss s (statements before (statement_of t))

pub item_pushed : (is : List Item) (i : Item) (before : ItemsT) → items_from (is ++ i ∷ []) before ≡ items (items_from is before) (item_of i)
item_pushed [] i before = refl
item_pushed (j ∷ is) i before = item_pushed is i (items before (item_of j))
