-- Which trees are well formed: operators stand at their precedence, equal precedences lean left, lists that cannot be empty are not, ELSE stands at
-- the nearest IF, and the name after END is the block's last label.
use Rattle.std.specs.Prelude.{◌≡◌, ℕ, ◌≤◌, ◌<◌, nat_eq, cond, Bool, true, false, Option, Some, None}
use Rattle.plm_syntax.specs.declared.tree.UnaryOperator.{UnaryOperator}
use Rattle.plm_syntax.specs.declared.tree.UnaryOperator.TheVariants as unary
use Rattle.plm_syntax.specs.declared.tree.BinaryOperator.{BinaryOperator}
use Rattle.plm_syntax.specs.declared.tree.BinaryOperator.TheVariants as binary
use Rattle.plm_token.specs.Names.{names_equal}
use Rattle.plm_syntax.specs.Terminal.{NameT}
use Rattle.plm_syntax.specs.Spelling.{last_name}
use Rattle.plm_syntax.specs.Tree.{ExpressionT, NumeralE, TextE, ReferenceE, LocationE, ParenthesisedE, EmbeddedE, UnaryE, BinaryE, ReferenceT, ReferenceOf, ExpressionsT, no_expressions, expressions, SelectorT, no_member, member, member_at, LocationT, LocationOf, ConstantsOf, ValueT, NumeralV, NegativeV, TextV, LocationV, ValuesT, no_values, values, NamesT, no_names, names, VariablesT, no_variables, variables, DeclaredT, OneVariable, VariableList, MemberT, OneMember, MemberList, MembersT, no_members, members, TypeT, ScalarType, StructureType, AtT, no_at, at_number, at_location, InitialT, no_initial, initial, constant_data, AttributesT, External, Attributes, ElementT, LiteralElement, VariableElement, ElementsT, no_elements, elements, ReferencesT, no_references, references, StatementT, Labelled, BasicT, EmptyS, AssignS, CallS, ReturnS, ReturnValueS, EnableS, DisableS, HaltS, IfS, IfElseS, DoS, WhileS, CaseS, IterateS, StatementsT, no_statements, statements, BlockT, BlockOf, ItemsT, no_items, items, ItemT, DeclareI, ProcedureI, ModuleT, ModuleOf}

-- 0 a primary, 1 a sign, 2 a term, 3 a sum, 4 a relation, 5 NOT, 6 AND, 7 OR and XOR
abbrev pub precedence_of : BinaryOperator → ℕ
precedence_of binary.Multiply = 2
precedence_of binary.Divide = 2
precedence_of binary.Modulo = 2
precedence_of binary.Add = 3
precedence_of binary.Subtract = 3
precedence_of binary.Equal = 4
precedence_of binary.NotEqual = 4
precedence_of binary.Less = 4
precedence_of binary.LessEqual = 4
precedence_of binary.Greater = 4
precedence_of binary.GreaterEqual = 4
precedence_of binary.And = 6
precedence_of binary.Or = 7
precedence_of binary.ExclusiveOr = 7

-- what an operator's left operand may be: there is one relation at most
abbrev pub left_precedence : BinaryOperator → ℕ
left_precedence o = cond (nat_eq (precedence_of o) 4) 3 (precedence_of o)

abbrev pub unary_precedence : UnaryOperator → ℕ
unary_precedence unary.Not = 5
unary_precedence unary.Plus = 1
unary_precedence unary.Minus = 1

-- what an operator's operand may be: NOT stands before NOT, a sign before a primary
abbrev pub operand_precedence : UnaryOperator → ℕ
operand_precedence o = cond (nat_eq (unary_precedence o) 1) 0 (unary_precedence o)

abbrev pub precedence : ExpressionT → ℕ
precedence (NumeralE n) = 0
precedence (TextE s) = 0
precedence (ReferenceE x) = 0
precedence (LocationE l) = 0
precedence (ParenthesisedE p e) = 0
precedence (EmbeddedE p x e) = 0
precedence (UnaryE p o e) = unary_precedence o
precedence (BinaryE p o a b) = precedence_of o

abbrev mutual
  pub Well : ExpressionT → Type 0
  Well (NumeralE n) = Unit {0}
  Well (TextE s) = Unit {0}
  Well (ReferenceE x) = WellReference x
  Well (LocationE l) = WellLocation l
  Well (ParenthesisedE p e) = Well e
  Well (EmbeddedE p x e) = WellReference x × Well e
  Well (UnaryE p o e) = (precedence e ≤ operand_precedence o) × Well e
  Well (BinaryE p o a b) = (precedence a ≤ left_precedence o) × (precedence b < precedence_of o) × Well a × Well b

  pub WellReference : ReferenceT → Type 0
  WellReference (ReferenceOf n es s) = WellExpressions es × WellSelector s

  pub WellExpressions : ExpressionsT → Type 0
  WellExpressions no_expressions = Unit {0}
  WellExpressions (expressions es e) = WellExpressions es × Well e

  pub WellSelector : SelectorT → Type 0
  WellSelector no_member = Unit {0}
  WellSelector (member n) = Unit {0}
  WellSelector (member_at n e) = Well e

  pub WellLocation : LocationT → Type 0
  WellLocation (LocationOf p f x) = WellReference x
  WellLocation (ConstantsOf p f vs) = WellValues vs

  pub WellValue : ValueT → Type 0
  WellValue (NumeralV n) = Unit {0}
  WellValue (NegativeV n) = Unit {0}
  WellValue (TextV s) = Unit {0}
  WellValue (LocationV l) = WellLocation l

  -- one at least
  pub WellValues : ValuesT → Type 0
  WellValues no_values = ⊥
  WellValues (values vs v) = WellSomeValues vs × WellValue v

  pub WellSomeValues : ValuesT → Type 0
  WellSomeValues no_values = Unit {0}
  WellSomeValues (values vs v) = WellSomeValues vs × WellValue v

abbrev pub HasNames : NamesT → Type 0
HasNames no_names = ⊥
HasNames (names ns n) = Unit {0}

abbrev pub HasVariables : VariablesT → Type 0
HasVariables no_variables = ⊥
HasVariables (variables vs v) = Unit {0}

abbrev pub WellDeclared : DeclaredT → Type 0
WellDeclared (OneVariable v) = Unit {0}
WellDeclared (VariableList vs) = HasVariables vs

abbrev pub WellMember : MemberT → Type 0
WellMember (OneMember n c s) = Unit {0}
WellMember (MemberList ns c s) = HasNames ns

abbrev pub WellSomeMembers : MembersT → Type 0
WellSomeMembers no_members = Unit {0}
WellSomeMembers (members ms m) = WellSomeMembers ms × WellMember m

abbrev pub WellType : TypeT → Type 0
WellType (ScalarType s) = Unit {0}
WellType (StructureType no_members) = ⊥
WellType (StructureType (members ms m)) = WellSomeMembers ms × WellMember m

abbrev pub WellAt : AtT → Type 0
WellAt no_at = Unit {0}
WellAt (at_number n) = Unit {0}
WellAt (at_location l) = WellLocation l

abbrev pub WellInitial : InitialT → Type 0
WellInitial no_initial = Unit {0}
WellInitial (initial vs) = WellValues vs
WellInitial (constant_data vs) = WellValues vs

abbrev pub WellAttributes : AttributesT → Type 0
WellAttributes External = Unit {0}
WellAttributes (Attributes p a i) = WellAt a × WellInitial i

abbrev pub WellElement : ElementT → Type 0
WellElement (LiteralElement n s) = Unit {0}
WellElement (VariableElement v c t a) = WellDeclared v × WellType t × WellAttributes a

abbrev pub WellSomeElements : ElementsT → Type 0
WellSomeElements no_elements = Unit {0}
WellSomeElements (elements es e) = WellSomeElements es × WellElement e

abbrev pub WellElements : ElementsT → Type 0
WellElements no_elements = ⊥
WellElements (elements es e) = WellSomeElements es × WellElement e

abbrev pub WellSomeReferences : ReferencesT → Type 0
WellSomeReferences no_references = Unit {0}
WellSomeReferences (references xs x) = WellSomeReferences xs × WellReference x

abbrev pub WellTargets : ReferencesT → Type 0
WellTargets no_references = ⊥
WellTargets (references xs x) = WellSomeReferences xs × WellReference x

abbrev pub WellStep : Option ExpressionT → Type 0
WellStep None = Unit {0}
WellStep (Some e) = Well e

-- whether a statement ends in an IF without ELSE
abbrev mutual
  pub ends_open : StatementT → Bool
  ends_open (Labelled ns b) = basic_open b

  pub basic_open : BasicT → Bool
  basic_open (EmptyS p) = false
  basic_open (AssignS xs e) = false
  basic_open (CallS p x) = false
  basic_open (ReturnS p) = false
  basic_open (ReturnValueS p e) = false
  basic_open (EnableS p) = false
  basic_open (DisableS p) = false
  basic_open (HaltS p) = false
  basic_open (IfS p e s) = true
  basic_open (IfElseS p e s t) = ends_open t
  basic_open (DoS p b n) = false
  basic_open (WhileS p e ss n) = false
  basic_open (CaseS p e ss n) = false
  basic_open (IterateS p i a b s ss n) = false

-- whether a name may stand after the END of a block with this label
abbrev pub is_end_name : Option NameT → NameT → Bool
is_end_name None n = false
is_end_name (Some l) n = names_equal l.text n.text

abbrev pub WellEnd : Option NameT → Option NameT → Type 0
WellEnd label None = Unit {0}
WellEnd label (Some n) = is_end_name label n ≡ true

abbrev mutual
  pub WellStatement : StatementT → Type 0
  WellStatement (Labelled ns b) = WellBasic (last_name ns) b

  pub WellBasic : Option NameT → BasicT → Type 0
  WellBasic l (EmptyS p) = Unit {0}
  WellBasic l (AssignS xs e) = WellTargets xs × Well e
  WellBasic l (CallS p x) = WellReference x
  WellBasic l (ReturnS p) = Unit {0}
  WellBasic l (ReturnValueS p e) = Well e
  WellBasic l (EnableS p) = Unit {0}
  WellBasic l (DisableS p) = Unit {0}
  WellBasic l (HaltS p) = Unit {0}
  WellBasic l (IfS p e s) = Well e × WellStatement s
  WellBasic l (IfElseS p e s t) = Well e × WellStatement s × (ends_open s ≡ false) × WellStatement t
  WellBasic l (DoS p b n) = WellBlock b × WellEnd l n
  WellBasic l (WhileS p e ss n) = Well e × WellStatements ss × WellEnd l n
  WellBasic l (CaseS p e ss n) = Well e × WellStatements ss × WellEnd l n
  WellBasic l (IterateS p i a b s ss n) = Well a × Well b × WellStep s × WellStatements ss × WellEnd l n

  pub WellStatements : StatementsT → Type 0
  WellStatements no_statements = Unit {0}
  WellStatements (statements ss s) = WellStatements ss × WellStatement s

  pub WellBlock : BlockT → Type 0
  WellBlock (BlockOf is ss) = WellItems is × WellStatements ss

  pub WellItems : ItemsT → Type 0
  WellItems no_items = Unit {0}
  WellItems (items is i) = WellItems is × WellItem i

  pub WellItem : ItemT → Type 0
  WellItem (DeclareI p es) = WellElements es
  WellItem (ProcedureI n ps s i l b e) = WellBlock b × WellEnd (Some n) e

abbrev pub WellModule : ModuleT → Type 0
WellModule (ModuleOf n b e) = WellBlock b × WellEnd (Some n) e
