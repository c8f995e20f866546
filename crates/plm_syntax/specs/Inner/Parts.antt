-- What the parser's functions read.
use Rattle.std.specs.Prelude.{◌≡◌, ℕ, ◌-◌, nat_eq, nat_lt, List, ◌∷◌, ◌++◌, Bool, true, false, cond, Option, Some, None, option_map, Result, Ok, Err}
use Rattle.plm_syntax.specs.declared.tree.Position.{Position}
use Rattle.plm_syntax.specs.declared.tree.BinaryOperator.{BinaryOperator}
use Rattle.plm_syntax.specs.declared.tree.BinaryOperator.TheVariants as binary
use Rattle.plm_syntax.specs.declared.tree.UnaryOperator.{UnaryOperator}
use Rattle.plm_syntax.specs.declared.tree.Expression.{Expression}
use Rattle.plm_syntax.specs.declared.failure.Failure.{Failure}
use Rattle.plm_syntax.specs.declared.failure.Failure.TheVariants as failure
use Rattle.std.specs.Global.{Box}
use Rattle.plm_syntax.specs.declared.tree.Operation.{Operation}
use Rattle.plm_syntax.specs.declared.tree.Reference.{Reference}
use Rattle.plm_syntax.specs.declared.tree.Selector.{Selector}
use Rattle.plm_syntax.specs.declared.tree.Location.{Location}
use Rattle.plm_syntax.specs.declared.tree.Value.{Value as ValueTree}
use Rattle.plm_syntax.specs.declared.cursor.Cursor.{Cursor}
use Rattle.plm_syntax.specs.declared.operator.Precedence.{Precedence as CodePrecedence}
use Rattle.plm_syntax.specs.declared.operator.Precedence.TheVariants as precedences
use Rattle.plm_token.specs.declared.token.Mark.TheVariants as mark
use Rattle.plm_syntax.specs.declared.tree.Name.{Name}
use Rattle.plm_syntax.specs.declared.tree.Numeral.{Numeral}
use Rattle.plm_syntax.specs.declared.tree.Scalar.{Scalar}
use Rattle.plm_syntax.specs.declared.tree.Variable.{Variable}
use Rattle.plm_syntax.specs.declared.tree.Dimension.{Dimension}
use Rattle.plm_syntax.specs.declared.tree.MemberNames.{MemberNames}
use Rattle.plm_syntax.specs.declared.tree.MemberNames.TheVariants as member_names
use Rattle.plm_syntax.specs.declared.tree.Member.{Member}
use Rattle.plm_syntax.specs.declared.tree.VariableType.{VariableType}
use Rattle.plm_syntax.specs.declared.tree.At.{At}
use Rattle.plm_syntax.specs.declared.tree.Initial.{Initial}
use Rattle.plm_syntax.specs.declared.tree.Attributes.{Attributes as Extras}
use Rattle.plm_syntax.specs.declared.tree.Element.{Element}
use Rattle.plm_syntax.specs.Terminal.{NameT, Terminal}
use Rattle.plm_syntax.specs.Inner.Terminal.{is_sign}
use Rattle.plm_syntax.specs.Tree.{ExpressionT, ElementsT, elements, no_variables, no_members, no_linkage, no_initial, AtT, Attributes, LocationForm, ReferenceE, LocationE, UnaryE, ReferenceOf, ExpressionsT, no_expressions, no_member}
use Rattle.plm_syntax.specs.View.{name_of, counted, names_of, variable_of, variables_from, dimension_of, member_of, members_from, type_of, at_of, initial_of, attributes_of, element_of, elements_of, expression_of, leaned, expressions_of, reference_of, selector_of, location_of, value_of, values_of}
use Rattle.plm_syntax.specs.Spelling.{binary_sign, form_sign, scalar_key}
use Rattle.plm_syntax.specs.WellFormed.{precedence_of}
use Rattle.plm_syntax.specs.Inner.Symbol.{NamesR, NameR, VariableR, VariablesR, DimensionR, CountR, MembersR, MemberR, TypeR, AttributesR, ElementsR, HeaderR, Value, Precedence, Symbol, Over, Want, MoreG, ExpressionR, ValueR, ValuesR, Products, Sums, Relations, Conjunctions, Disjunctions}
use Rattle.plm_syntax.specs.Inner.Machine.{operand, number_of, operator_of, more, scalar_of}
use Rattle.plm_syntax.specs.Inner.Parsed.{next_of, Takes}

abbrev pub precedence_view : CodePrecedence → Precedence
precedence_view precedences.Products = Products
precedence_view precedences.Sums = Sums
precedence_view precedences.Relations = Relations
precedence_view precedences.Conjunctions = Conjunctions
precedence_view precedences.Disjunctions = Disjunctions

abbrev pub is_relations : Precedence → Bool
is_relations Products = false
is_relations Sums = false
is_relations Relations = true
is_relations Conjunctions = false
is_relations Disjunctions = false

abbrev pub IsOperator : Precedence → Cursor → Option (Position × BinaryOperator × Cursor) → Type 0
IsOperator l c None = more l (next_of c) ≡ Over
IsOperator l c (Some x) = Takes c (binary_sign x.1) x.0 x.2 × (nat_eq (precedence_of x.1) (number_of l) ≡ true)

abbrev pub IsForm : Cursor → Option (Position × LocationForm × Cursor) → Type 0
IsForm c None = (is_sign mark.AtSign (next_of c) ≡ false) × (is_sign mark.Period (next_of c) ≡ false)
IsForm c (Some x) = Takes c (form_sign x.1) x.0 x.2

-- ---- what was read, before what had been read

abbrev pub read_expression : Expression → List Value → List Value
read_expression e v = ExpressionR (expression_of e) ∷ v

-- an expression in a box
abbrev pub read_boxed : Box Expression → List Value → List Value
read_boxed b v = ExpressionR (expression_of b.value) ∷ v

-- operators with their right operands, after what stands to their left
abbrev pub read_operations : ExpressionT → List Operation → List Value → List Value
read_operations left os v = ExpressionR (leaned left os) ∷ v

-- an operator before the operand that was read
abbrev pub IsUnary : Position → UnaryOperator → Result (Expression × Cursor) Failure → Result (Expression × Cursor) Failure → Type 0
IsUnary p o (Ok x) (Ok y) = (expression_of y.0 ≡ UnaryE p o (expression_of x.0)) × (y.1 ≡ x.1)
IsUnary p o (Ok x) (Err f) = f ≡ failure.Memory
IsUnary p o (Err e) r = r ≡ Err e

abbrev pub read_reference : Reference → List Value → List Value
read_reference x v = ExpressionR (ReferenceE (reference_of x)) ∷ v

abbrev pub read_subscripts : NameT → List Expression → List Value → List Value
read_subscripts n es v = ExpressionR (ReferenceE (ReferenceOf n (expressions_of es) no_member)) ∷ v

abbrev pub read_selector : NameT → ExpressionsT → Selector → List Value → List Value
read_selector n es m v = ExpressionR (ReferenceE (ReferenceOf n es (selector_of m))) ∷ v

abbrev pub read_location : Location → List Value → List Value
read_location l v = ExpressionR (LocationE (location_of l)) ∷ v

abbrev pub read_value : ValueTree → List Value → List Value
read_value w v = ValueR (value_of w) ∷ v

abbrev pub read_values : List ValueTree → List Value → List Value
read_values ws v = ValuesR (values_of ws) ∷ v

abbrev pub reference_read : NameT → List Value → List Value
reference_read n v = ExpressionR (ReferenceE (ReferenceOf n no_expressions no_member)) ∷ v

-- ---- what is awaited

abbrev pub nothing_read : List Value → List Value
nothing_read v = v

-- operands of one precedence, joined by its operators
abbrev pub joined : Precedence → List Symbol → List Symbol
joined l s = operand l ++ (Want (MoreG l) ∷ s)

-- the operators of all precedences after a primary
abbrev pub all_precedences : List Symbol → List Symbol
all_precedences s = Want (MoreG Products) ∷ Want (MoreG Sums) ∷ Want (MoreG Relations) ∷ Want (MoreG Conjunctions) ∷ Want (MoreG Disjunctions) ∷ s

-- ---- the precedence of the operator that comes next

abbrev pub level_of : BinaryOperator → Precedence
level_of binary.Multiply = Products
level_of binary.Divide = Products
level_of binary.Modulo = Products
level_of binary.Add = Sums
level_of binary.Subtract = Sums
level_of binary.Equal = Relations
level_of binary.NotEqual = Relations
level_of binary.Less = Relations
level_of binary.LessEqual = Relations
level_of binary.Greater = Relations
level_of binary.GreaterEqual = Relations
level_of binary.And = Conjunctions
level_of binary.Or = Disjunctions
level_of binary.ExclusiveOr = Disjunctions

abbrev pub level_at : Terminal → Option Precedence
level_at t = option_map level_of (operator_of t)

-- how tightly the operators of a precedence bind
abbrev pub tightness : Precedence → ℕ
tightness l = 7 - number_of l

-- a precedence, where it binds less than this one
abbrev pub looser : Precedence → Option Precedence → Option Precedence
looser l None = None
looser l (Some m) = cond (nat_lt (tightness m) (tightness l)) (Some m) None

-- the operators that bind less than those of a precedence
abbrev pub looser_than : Precedence → List Symbol → List Symbol
looser_than Products s = Want (MoreG Sums) ∷ Want (MoreG Relations) ∷ Want (MoreG Conjunctions) ∷ Want (MoreG Disjunctions) ∷ s
looser_than Sums s = Want (MoreG Relations) ∷ Want (MoreG Conjunctions) ∷ Want (MoreG Disjunctions) ∷ s
looser_than Relations s = Want (MoreG Conjunctions) ∷ Want (MoreG Disjunctions) ∷ s
looser_than Conjunctions s = Want (MoreG Disjunctions) ∷ s
looser_than Disjunctions s = s

abbrev pub operators_from : Precedence → List Symbol → List Symbol
operators_from l s = Want (MoreG l) ∷ looser_than l s

-- ---- declarations

abbrev pub IsScalar : Cursor → Option (Scalar × Cursor) → Type 0
IsScalar c None = scalar_of (next_of c) ≡ None
IsScalar c (Some x) = (p : Position) × Takes c (scalar_key x.0) p x.1

abbrev pub read_element : ElementsT → Element → List Value → List Value
read_element es e v = ElementsR (elements es (element_of e)) ∷ v

abbrev pub read_elements : List Element → List Value → List Value
read_elements es v = ElementsR (elements_of es) ∷ v

abbrev pub read_variable : Variable → List Value → List Value
read_variable x v = VariableR (variable_of x) ∷ v

abbrev pub read_variables : List Variable → List Value → List Value
read_variables xs v = VariablesR (variables_from xs no_variables) ∷ v

abbrev pub read_dimension : Dimension → List Value → List Value
read_dimension d v = DimensionR (dimension_of d) ∷ v

abbrev pub read_type : VariableType → List Value → List Value
read_type t v = TypeR (type_of t) ∷ v

abbrev pub read_member : Member → List Value → List Value
read_member m v = MemberR (member_of m) ∷ v

abbrev pub read_members : List Member → List Value → List Value
read_members ms v = MembersR (members_from ms no_members) ∷ v

abbrev pub read_names : List Name → List Value → List Value
read_names ns v = NamesR (names_of ns) ∷ v

abbrev pub read_parameters : NameT → List Name → List Value → List Value
read_parameters n ns v = HeaderR n (names_of ns) None None no_linkage ∷ v

abbrev pub read_count : Option Numeral → List Value → List Value
read_count n v = CountR (counted n) ∷ v

abbrev pub member_names_read : MemberNames → List Value → List Value
member_names_read (member_names.One n) v = NameR (name_of n) ∷ v
member_names_read (member_names.List ns) v = NamesR (names_of ns.items) ∷ v

abbrev pub read_attributes : Extras → List Value → List Value
read_attributes a v = AttributesR (attributes_of a) ∷ v

abbrev pub attributes_read : Bool → AtT → List Value → List Value
attributes_read b a v = AttributesR (Attributes b a no_initial) ∷ v

abbrev pub read_at : Bool → At → List Value → List Value
read_at b a v = AttributesR (Attributes b (at_of a) no_initial) ∷ v

abbrev pub read_initial : Bool → AtT → Initial → List Value → List Value
read_initial b a i v = AttributesR (Attributes b a (initial_of i)) ∷ v
