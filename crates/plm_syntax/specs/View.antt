-- The Rust trees as plain ones.
use Rattle.std.specs.Prelude.{List, [], ◌∷◌, Option, Some, None}
use Rattle.plm_syntax.specs.declared.tree.Name.{Name}
use Rattle.plm_syntax.specs.declared.tree.Numeral.{Numeral}
use Rattle.plm_syntax.specs.declared.tree.Text.{Text}
use Rattle.plm_syntax.specs.declared.tree.Expression.{Expression, Row_of-Expression, end_of-Expression, more_of-Expression, Row_of-Operation, end_of-Operation, more_of-Operation}
use Rattle.plm_syntax.specs.declared.tree.Expression.TheVariants as expression
use Rattle.plm_syntax.specs.declared.tree.Operation.{Operation}
use Rattle.plm_syntax.specs.declared.tree.Reference.{Reference}
use Rattle.plm_syntax.specs.declared.tree.Selector.{Selector}
use Rattle.plm_syntax.specs.declared.tree.Selector.TheVariants as selector
use Rattle.plm_syntax.specs.declared.tree.Location.{Location, Row_of-Value, end_of-Value, more_of-Value}
use Rattle.plm_syntax.specs.declared.tree.Location.TheVariants as location
use Rattle.plm_syntax.specs.declared.tree.Value.{Value}
use Rattle.plm_syntax.specs.declared.tree.Value.TheVariants as value
use Rattle.plm_syntax.specs.declared.tree.Scalar.{Scalar}
use Rattle.plm_syntax.specs.declared.tree.Variable.{Variable}
use Rattle.plm_syntax.specs.declared.tree.Declared.{Declared}
use Rattle.plm_syntax.specs.declared.tree.Declared.TheVariants as declared
use Rattle.plm_syntax.specs.declared.tree.Dimension.{Dimension}
use Rattle.plm_syntax.specs.declared.tree.Dimension.TheVariants as bounds
use Rattle.plm_syntax.specs.declared.tree.MemberNames.{MemberNames}
use Rattle.plm_syntax.specs.declared.tree.MemberNames.TheVariants as member_names
use Rattle.plm_syntax.specs.declared.tree.Member.{Member}
use Rattle.plm_syntax.specs.declared.tree.VariableType.{VariableType}
use Rattle.plm_syntax.specs.declared.tree.VariableType.TheVariants as type
use Rattle.plm_syntax.specs.declared.tree.At.{At}
use Rattle.plm_syntax.specs.declared.tree.At.TheVariants as at
use Rattle.plm_syntax.specs.declared.tree.Initial.{Initial}
use Rattle.plm_syntax.specs.declared.tree.Initial.TheVariants as fill
use Rattle.plm_syntax.specs.declared.tree.Attributes.{Attributes as Extras}
use Rattle.plm_syntax.specs.declared.tree.Attributes.TheVariants as attributes
use Rattle.plm_syntax.specs.declared.tree.Element.{Element}
use Rattle.plm_syntax.specs.declared.tree.Element.TheVariants as element
use Rattle.plm_syntax.specs.declared.tree.Linkage.{Linkage}
use Rattle.plm_syntax.specs.declared.tree.Linkage.TheVariants as linkage
use Rattle.plm_syntax.specs.declared.tree.Statement.{Statement}
use Rattle.plm_syntax.specs.declared.tree.Basic.{Basic, Row_of-Statement, end_of-Statement, more_of-Statement}
use Rattle.plm_syntax.specs.declared.tree.Basic.TheVariants as basic
use Rattle.plm_syntax.specs.declared.tree.Block.{Block, Block', Row_of-Item, end_of-Item, more_of-Item}
use Rattle.plm_syntax.specs.declared.tree.Item.{Item}
use Rattle.plm_syntax.specs.declared.tree.Item.TheVariants as item
use Rattle.plm_syntax.specs.declared.tree.Procedure.{Procedure, Procedure'}
use Rattle.plm_syntax.specs.declared.tree.Module.{Module}
use Rattle.plm_syntax.specs.Terminal.{NameT, NumeralT, TextT}
use Rattle.plm_syntax.specs.Tree.{ExpressionT, NumeralE, TextE, ReferenceE, LocationE, ParenthesisedE, EmbeddedE, UnaryE, BinaryE, ReferenceT, ReferenceOf, ExpressionsT, no_expressions, expressions, SelectorT, no_member, member, member_at, LocationT, LocationOf, ConstantsOf, ValueT, NumeralV, NegativeV, TextV, LocationV, ValuesT, no_values, values, NamesT, no_names, names, VariableT, VariableOf, VariablesT, no_variables, variables, DeclaredT, OneVariable, VariableList, DimensionT, no_dimension, dimension, implicit_dimension, MemberT, OneMember, MemberList, MembersT, no_members, members, TypeT, ScalarType, StructureType, AtT, no_at, at_number, at_location, InitialT, no_initial, initial, constant_data, AttributesT, External, Attributes, ElementT, LiteralElement, VariableElement, ElementsT, no_elements, elements, LinkageT, no_linkage, public_linkage, external_linkage, ReferencesT, no_references, references, StatementT, Labelled, BasicT, EmptyS, AssignS, CallS, ReturnS, ReturnValueS, EnableS, DisableS, HaltS, IfS, IfElseS, DoS, WhileS, CaseS, IterateS, StatementsT, no_statements, statements, BlockT, BlockOf, ItemsT, no_items, items, ItemT, DeclareI, ProcedureI, ModuleT, ModuleOf}

abbrev pub name_of : Name → NameT
name_of n = record { text = n.text.now; place = n.place }

abbrev pub number_of : Numeral → NumeralT
number_of n = record { value = n.value; place = n.place }

abbrev pub text_of : Text → TextT
text_of n = record { text = n.text.now; place = n.place }

abbrev mutual
  pub expression_of : Expression → ExpressionT
  expression_of (expression.Numeral n) = NumeralE (number_of n)
  expression_of (expression.Text s) = TextE (text_of s)
  expression_of (expression.Reference' n shape es m) = ReferenceE (ReferenceOf (name_of n) (expressions_in es no_expressions) (selector_of m))
  expression_of (expression.Location l) = LocationE (location_of l)
  expression_of (expression.Parenthesised' p q e) = ParenthesisedE p (expression_of e)
  expression_of (expression.Embedded' p n shape es m q e) = EmbeddedE p (ReferenceOf (name_of n) (expressions_in es no_expressions) (selector_of m)) (expression_of e)
  expression_of (expression.Unary' p o q e) = UnaryE p o (expression_of e)
  expression_of (expression.Chain' q e shape os) = leaned_in (expression_of e) os

  pub selector_of : Selector → SelectorT
  selector_of selector.None = no_member
  selector_of (selector.Member n) = member (name_of n)
  selector_of (selector.Element' n q e) = member_at (name_of n) (expression_of e)

  pub location_of : Location → LocationT
  location_of (location.Reference' p f n shape es m) = LocationOf p f (ReferenceOf (name_of n) (expressions_in es no_expressions) (selector_of m))
  location_of (location.Constants' p f shape vs) = ConstantsOf p f (values_in vs no_values)

  pub value_of : Value → ValueT
  value_of (value.Numeral n) = NumeralV (number_of n)
  value_of (value.Negative n) = NegativeV (number_of n)
  value_of (value.Text s) = TextV (text_of s)
  value_of (value.Location l) = LocationV (location_of l)

  pub expressions_in : {m : _} → Row_of-Expression m → ExpressionsT → ExpressionsT
  expressions_in end_of-Expression before = before
  expressions_in (more_of-Expression e es) before = expressions_in es (expressions before (expression_of e))

  pub leaned_in : {m : _} → ExpressionT → Row_of-Operation m → ExpressionT
  leaned_in left end_of-Operation = left
  leaned_in left (more_of-Operation p o e os) = leaned_in (BinaryE p o left (expression_of e)) os

  pub values_in : {m : _} → Row_of-Value m → ValuesT → ValuesT
  values_in end_of-Value before = before
  values_in (more_of-Value v vs) before = values_in vs (values before (value_of v))

abbrev pub expressions_from : List Expression → ExpressionsT → ExpressionsT
expressions_from [] before = before
expressions_from (e ∷ es) before = expressions_from es (expressions before (expression_of e))

abbrev pub expressions_of : List Expression → ExpressionsT
expressions_of es = expressions_from es no_expressions

-- operators from left to right, after what stands to their left
abbrev pub leaned : ExpressionT → List Operation → ExpressionT
leaned left [] = left
leaned left (x ∷ xs) = leaned (BinaryE x.place x.operator left (expression_of x.operand)) xs

abbrev pub values_from : List Value → ValuesT → ValuesT
values_from [] before = before
values_from (v ∷ vs) before = values_from vs (values before (value_of v))

abbrev pub values_of : List Value → ValuesT
values_of vs = values_from vs no_values

abbrev pub reference_of : Reference → ReferenceT
reference_of r = ReferenceOf (name_of r.name) (expressions_of r.subscripts.items) (selector_of r.selector)

abbrev pub base_of : Option Name → Option NameT
base_of None = None
base_of (Some n) = Some (name_of n)

abbrev pub counted : Option Numeral → Option NumeralT
counted None = None
counted (Some n) = Some (number_of n)

abbrev pub names_from : List Name → NamesT → NamesT
names_from [] before = before
names_from (n ∷ ns) before = names_from ns (names before (name_of n))

abbrev pub names_of : List Name → NamesT
names_of ns = names_from ns no_names

-- ---- declarations

abbrev pub variable_of : Variable → VariableT
variable_of v = VariableOf (name_of v.name) (base_of v.base)

abbrev pub variables_from : List Variable → VariablesT → VariablesT
variables_from [] before = before
variables_from (v ∷ vs) before = variables_from vs (variables before (variable_of v))

abbrev pub declared_of : Declared → DeclaredT
declared_of (declared.One v) = OneVariable (variable_of v)
declared_of (declared.List vs) = VariableList (variables_from vs.items no_variables)

abbrev pub dimension_of : Dimension → DimensionT
dimension_of bounds.None = no_dimension
dimension_of (bounds.Numeral n) = dimension (number_of n)
dimension_of bounds.Implicit = implicit_dimension

abbrev pub member_with : MemberNames → Option NumeralT → Scalar → MemberT
member_with (member_names.One n) c s = OneMember (name_of n) c s
member_with (member_names.List ns) c s = MemberList (names_of ns.items) c s

abbrev pub member_of : Member → MemberT
member_of m = member_with m.names (counted m.count) m.scalar

abbrev pub members_from : List Member → MembersT → MembersT
members_from [] before = before
members_from (m ∷ ms) before = members_from ms (members before (member_of m))

abbrev pub type_of : VariableType → TypeT
type_of (type.Scalar s) = ScalarType s
type_of (type.Structure ms) = StructureType (members_from ms.items no_members)

abbrev pub at_of : At → AtT
at_of at.None = no_at
at_of (at.Numeral n) = at_number (number_of n)
at_of (at.Location l) = at_location (location_of l)

abbrev pub initial_of : Initial → InitialT
initial_of fill.None = no_initial
initial_of (fill.Initial vs) = initial (values_of vs.items)
initial_of (fill.Data vs) = constant_data (values_of vs.items)

abbrev pub attributes_of : Extras → AttributesT
attributes_of attributes.External = External
attributes_of (attributes.Own p a i) = Attributes p (at_of a) (initial_of i)

abbrev pub element_of : Element → ElementT
element_of (element.Literal n s) = LiteralElement (name_of n) (text_of s)
element_of (element.Variable d c t a) = VariableElement (declared_of d) (dimension_of c) (type_of t) (attributes_of a)

abbrev pub elements_from : List Element → ElementsT → ElementsT
elements_from [] before = before
elements_from (e ∷ es) before = elements_from es (elements before (element_of e))

abbrev pub elements_of : List Element → ElementsT
elements_of es = elements_from es no_elements

abbrev pub linkage_of : Linkage → LinkageT
linkage_of linkage.None = no_linkage
linkage_of linkage.Public = public_linkage
linkage_of linkage.External = external_linkage

-- ---- statements and blocks

abbrev pub references_from : List Reference → ReferencesT → ReferencesT
references_from [] before = before
references_from (x ∷ xs) before = references_from xs (references before (reference_of x))

abbrev pub step_of : Option Expression → Option ExpressionT
step_of None = None
step_of (Some e) = Some (expression_of e)

abbrev mutual
  pub basic_of : Basic → BasicT
  basic_of (basic.Empty p) = EmptyS p
  basic_of (basic.Assign xs e) = AssignS (references_from xs.items no_references) (expression_of e)
  basic_of (basic.Call p x) = CallS p (reference_of x)
  basic_of (basic.Return p) = ReturnS p
  basic_of (basic.ReturnValue p e) = ReturnValueS p (expression_of e)
  basic_of (basic.Enable p) = EnableS p
  basic_of (basic.Disable p) = DisableS p
  basic_of (basic.Halt p) = HaltS p
  basic_of (basic.If' p e q ns b) = IfS p (expression_of e) (Labelled (names_of ns.items) (basic_of b))
  basic_of (basic.IfElse' p e q ns b o ms c) = IfElseS p (expression_of e) (Labelled (names_of ns.items) (basic_of b)) (Labelled (names_of ms.items) (basic_of c))
  basic_of (basic.Do p b n) = DoS p (block_of b) (base_of n)
  basic_of (basic.While' p e shape ss n) = WhileS p (expression_of e) (statements_in ss no_statements) (base_of n)
  basic_of (basic.Case' p e shape ss n) = CaseS p (expression_of e) (statements_in ss no_statements) (base_of n)
  basic_of (basic.Iterate' p i b shape ss n) = IterateS p (name_of i) (expression_of b.value.first) (expression_of b.value.last) (step_of b.value.step) (statements_in ss no_statements) (base_of n)

  pub block_of : Block → BlockT
  block_of (Block' shape is form ss) = BlockOf (items_in is no_items) (statements_in ss no_statements)

  pub item_of : Item → ItemT
  item_of (item.Declare p es) = DeclareI p (elements_of es.items)
  item_of (item.Procedure p) = procedure_of p

  pub procedure_of : Procedure → ItemT
  procedure_of (Procedure' n ps t i l b e) = ProcedureI (name_of n) (names_of ps.items) t (counted i) (linkage_of l) (block_of b) (base_of e)

  pub statements_in : {m : _} → Row_of-Statement m → StatementsT → StatementsT
  statements_in end_of-Statement before = before
  statements_in (more_of-Statement ns b ss) before = statements_in ss (statements before (Labelled (names_of ns.items) (basic_of b)))

  pub items_in : {m : _} → Row_of-Item m → ItemsT → ItemsT
  items_in end_of-Item before = before
  items_in (more_of-Item i is) before = items_in is (items before (item_of i))

abbrev pub statement_of : Statement → StatementT
statement_of s = Labelled (names_of s.labels.items) (basic_of s.basic)

abbrev pub module_of : Module → ModuleT
module_of m = ModuleOf (name_of m.name) (block_of m.block) (base_of m.end)

abbrev pub statements_from : List Statement → StatementsT → StatementsT
statements_from [] before = before
statements_from (s ∷ ss) before = statements_from ss (statements before (statement_of s))

abbrev pub statements_of : List Statement → StatementsT
statements_of ss = statements_from ss no_statements

abbrev pub items_from : List Item → ItemsT → ItemsT
items_from [] before = before
items_from (i ∷ is) before = items_from is (items before (item_of i))

abbrev pub items_of : List Item → ItemsT
items_of is = items_from is no_items
