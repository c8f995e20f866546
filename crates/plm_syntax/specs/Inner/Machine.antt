-- A machine over tokens: a stack of what is awaited, and the trees read so far. It is scaffolding of proofs: no public clause speaks of it.
use Rattle.std.specs.Prelude.{ℕ, nat_lt, nat_eq, List, [], ◌∷◌, ◌++◌, length, Bool, true, false, cond, Option, Some, None, Result, Ok, Err}
use Rattle.plm_token.specs.declared.token.Keyword.TheVariants as key
use Rattle.plm_token.specs.declared.token.Mark.TheVariants as mark
use Rattle.plm_syntax.specs.declared.tree.Position.{Position}
use Rattle.plm_syntax.specs.declared.tree.Scalar.{Scalar}
use Rattle.plm_syntax.specs.declared.tree.Scalar.TheVariants as scalar
use Rattle.plm_syntax.specs.declared.tree.UnaryOperator.{UnaryOperator}
use Rattle.plm_syntax.specs.declared.tree.UnaryOperator.TheVariants as unary
use Rattle.plm_syntax.specs.declared.tree.BinaryOperator.{BinaryOperator}
use Rattle.plm_syntax.specs.declared.tree.BinaryOperator.TheVariants as binary
use Rattle.plm_syntax.specs.Terminal.{NameT, NumeralT, TextT, Terminal, Name, Numeral, Text, Key, Sign, Finish, Leaf, is_key}
use Rattle.plm_syntax.specs.Inner.Terminal.{is_sign, is_same}
use Rattle.plm_syntax.specs.WellFormed.{precedence_of, is_end_name}
use Rattle.plm_syntax.specs.Tree.{LocationForm, Pointer, Offset, NumeralE, TextE, ReferenceE, LocationE, ParenthesisedE, EmbeddedE, UnaryE, BinaryE, ReferenceT, ReferenceOf, no_expressions, expressions, no_member, member, member_at, LocationOf, ConstantsOf, NumeralV, NegativeV, TextV, LocationV, no_values, values, no_names, names, VariableOf, no_variables, variables, OneVariable, VariableList, DimensionT, no_dimension, dimension, implicit_dimension, OneMember, MemberList, no_members, members, ScalarType, StructureType, AtT, no_at, at_number, at_location, no_initial, initial, constant_data, External, Attributes, LiteralElement, VariableElement, no_elements, elements, LinkageT, no_linkage, public_linkage, external_linkage, no_references, references, Labelled, BasicT, EmptyS, AssignS, CallS, ReturnS, ReturnValueS, EnableS, DisableS, HaltS, IfS, IfElseS, DoS, WhileS, CaseS, IterateS, no_statements, statements, BlockOf, no_items, items, DeclareI, ProcedureI, ModuleOf}
use Rattle.plm_syntax.specs.Inner.Symbol.{Value, Action, Precedence, Goal, Symbol, depth, Rule, behind, otherwise, before, opened, need, push, ExpressionR, ExpressionsR, NameR, ValueR, ValuesR, ReferencesR, NamesR, StatementR, ArmsR, StatementsR, ItemsR, StepR, EndR, VariableR, VariablesR, DimensionR, CountR, MembersR, MemberR, TypeR, AttributesR, ElementR, ElementsR, DeclaredR, RangeR, HeaderR, ModuleR, Products, Sums, Relations, Conjunctions, Disjunctions, PrimaryG, SignedG, NegationG, MoreG, InsideG, AfterReferenceG, SubscriptsG, MoreSubscriptsG, SelectorG, MemberG, MemberSubscriptG, LocatedG, ValueG, NegativeG, MoreValuesG, StatementG, LeadG, TargetG, MoreTargetsG, CalledG, ReturnedG, ArmG, OtherwiseG, DoG, StepG, StatementsG, EndG, ItemsG, ItemLeadG, ItemColonG, ParametersG, ParameterG, MoreParametersG, ReturnedTypeG, InterruptG, InterruptNumberG, LinkageG, ElementG, ElementLeadG, LiteralTextG, VariableG, MoreVariablesG, BasedG, BaseG, DimensionG, DimensionBodyG, TypeG, MemberOfG, MemberNameG, MoreMemberNamesG, CountG, CountNumberG, MemberTypeG, MoreMembersG, AttributesG, AtG, AtBodyG, InitialG, MoreElementsG, ModuleG, StartG, Need, Want, Do, Leave, Refused, Over, Take, Keep}

-- ---- expressions

abbrev pub plain : NameT → ReferenceT
plain n = ReferenceOf n no_expressions no_member

abbrev pub operand : Precedence → List Symbol
operand Products = Want SignedG ∷ []
operand Sums = Want SignedG ∷ Want (MoreG Products) ∷ []
operand Relations = Want SignedG ∷ Want (MoreG Products) ∷ Want (MoreG Sums) ∷ []
operand Conjunctions = Want NegationG ∷ []
operand Disjunctions = Want NegationG ∷ Want (MoreG Conjunctions) ∷ []

-- one relation at most
abbrev pub again : Precedence → List Symbol
again Relations = []
again l = Want (MoreG l) ∷ []

abbrev pub number_of : Precedence → ℕ
number_of Products = 2
number_of Sums = 3
number_of Relations = 4
number_of Conjunctions = 6
number_of Disjunctions = 7

abbrev pub an_expression : List Symbol → List Symbol
an_expression s = Want NegationG ∷ Want (MoreG Conjunctions) ∷ Want (MoreG Disjunctions) ∷ s

abbrev pub operator_of : Terminal → Option BinaryOperator
operator_of (Sign mark.Star) = Some binary.Multiply
operator_of (Sign mark.Slash) = Some binary.Divide
operator_of (Key key.Mod) = Some binary.Modulo
operator_of (Sign mark.Plus) = Some binary.Add
operator_of (Sign mark.Minus) = Some binary.Subtract
operator_of (Sign mark.Equal) = Some binary.Equal
operator_of (Sign mark.NotEqual) = Some binary.NotEqual
operator_of (Sign mark.Less) = Some binary.Less
operator_of (Sign mark.LessEqual) = Some binary.LessEqual
operator_of (Sign mark.Greater) = Some binary.Greater
operator_of (Sign mark.GreaterEqual) = Some binary.GreaterEqual
operator_of (Key key.And) = Some binary.And
operator_of (Key key.Or) = Some binary.Or
operator_of (Key key.Xor) = Some binary.ExclusiveOr
operator_of t = None

abbrev pub make_binary : Position → BinaryOperator → Action
make_binary p o (ExpressionR b ∷ ExpressionR a ∷ vs) = Some (ExpressionR (BinaryE p o a b) ∷ vs)
make_binary p o vs = None

abbrev pub make_unary : Position → UnaryOperator → Action
make_unary p o (ExpressionR e ∷ vs) = Some (ExpressionR (UnaryE p o e) ∷ vs)
make_unary p o vs = None

abbrev pub make_parenthesised : Position → Action
make_parenthesised p (ExpressionR e ∷ vs) = Some (ExpressionR (ParenthesisedE p e) ∷ vs)
make_parenthesised p vs = None

abbrev pub make_embedded : Position → Action
make_embedded p (ExpressionR e ∷ ExpressionR (ReferenceE x) ∷ vs) = Some (ExpressionR (EmbeddedE p x e) ∷ vs)
make_embedded p vs = None

abbrev pub add_expression : Action
add_expression (ExpressionR e ∷ ExpressionsR es ∷ vs) = Some (ExpressionsR (expressions es e) ∷ vs)
add_expression vs = None

abbrev pub set_subscripts : Action
set_subscripts (ExpressionsR es ∷ ExpressionR (ReferenceE (ReferenceOf n none s)) ∷ vs) = Some (ExpressionR (ReferenceE (ReferenceOf n es s)) ∷ vs)
set_subscripts vs = None

abbrev pub set_member : NameT → Action
set_member m (ExpressionR (ReferenceE (ReferenceOf n es s)) ∷ vs) = Some (ExpressionR (ReferenceE (ReferenceOf n es (member m))) ∷ vs)
set_member m vs = None

abbrev pub set_member_subscript : Action
set_member_subscript (ExpressionR e ∷ ExpressionR (ReferenceE (ReferenceOf n es (member m))) ∷ vs) = Some (ExpressionR (ReferenceE (ReferenceOf n es (member_at m e))) ∷ vs)
set_member_subscript vs = None

abbrev pub operation : Precedence → BinaryOperator → Rule
operation l o = cond (nat_eq (precedence_of o) (number_of l)) (Keep false (λ p. operand l ++ (Do (make_binary p o) ∷ again l))) Over

abbrev pub more : Precedence → Terminal → Rule
more l t = elim (operator_of t) [ None ↦ Over | Some o ↦ operation l o ]

abbrev pub reference_begun : NameT → List Symbol → List Symbol
reference_begun n s = push (ExpressionR (ReferenceE (plain n))) ∷ Want SubscriptsG ∷ Want SelectorG ∷ s

abbrev pub primary : Terminal → Rule
primary (Name n) = Take false (reference_begun n [])
primary (Numeral n) = Take false (push (ExpressionR (NumeralE n)) ∷ [])
primary (Text s) = Take false (push (ExpressionR (TextE s)) ∷ [])
primary t = cond (is_sign mark.LeftParenthesis t) (Keep true (λ p. Want (InsideG p) ∷ Leave ∷ []))
    (cond (is_sign mark.AtSign t) (Keep false (λ p. Want (LocatedG p Pointer) ∷ []))
    (cond (is_sign mark.Period t) (Keep false (λ p. Want (LocatedG p Offset) ∷ []))
    Refused))

abbrev pub signed : Terminal → Rule
signed t = cond (is_sign mark.Plus t) (Keep true (λ p. Want PrimaryG ∷ Leave ∷ Do (make_unary p unary.Plus) ∷ []))
    (cond (is_sign mark.Minus t) (Keep true (λ p. Want PrimaryG ∷ Leave ∷ Do (make_unary p unary.Minus) ∷ []))
    (primary t))

abbrev pub negation : Terminal → Rule
negation t = cond (is_key key.Not t) (Keep true (λ p. Want NegationG ∷ Leave ∷ Do (make_unary p unary.Not) ∷ []))
    (behind (signed t) (Want (MoreG Products) ∷ Want (MoreG Sums) ∷ Want (MoreG Relations) ∷ []))

abbrev pub expression_at : Terminal → Rule
expression_at t = behind (negation t) (Want (MoreG Conjunctions) ∷ Want (MoreG Disjunctions) ∷ [])

abbrev pub closing : Position → List Symbol
closing p = need mark.RightParenthesis ∷ Do (make_parenthesised p) ∷ []

abbrev pub inside : Position → Terminal → Rule
inside p (Name n) = Take false (reference_begun n (Want (AfterReferenceG p) ∷ []))
inside p t = behind (expression_at t) (closing p)

abbrev pub after_reference : Position → Terminal → Rule
after_reference p t = cond (is_sign mark.Assign t) (Take false (an_expression (need mark.RightParenthesis ∷ Do (make_embedded p) ∷ [])))
    (otherwise (behind (more Products t) (Want (MoreG Sums) ∷ Want (MoreG Relations) ∷ Want (MoreG Conjunctions) ∷ Want (MoreG Disjunctions) ∷ closing p))
    (otherwise (behind (more Sums t) (Want (MoreG Relations) ∷ Want (MoreG Conjunctions) ∷ Want (MoreG Disjunctions) ∷ closing p))
    (otherwise (behind (more Relations t) (Want (MoreG Conjunctions) ∷ Want (MoreG Disjunctions) ∷ closing p))
    (otherwise (behind (more Conjunctions t) (Want (MoreG Disjunctions) ∷ closing p))
    (otherwise (behind (more Disjunctions t) (closing p))
    (cond (is_sign mark.RightParenthesis t) (Take false (Do (make_parenthesised p) ∷ [])) Refused))))))

abbrev pub subscripts_rule : Terminal → Rule
subscripts_rule t = cond (is_sign mark.LeftParenthesis t)
    (Take true (push (ExpressionsR no_expressions) ∷ an_expression (Do add_expression ∷ Want MoreSubscriptsG ∷ Leave ∷ Do set_subscripts ∷ []))) Over

abbrev pub more_subscripts : Terminal → Rule
more_subscripts t = cond (is_sign mark.Comma t) (Take false (an_expression (Do add_expression ∷ Want MoreSubscriptsG ∷ [])))
    (cond (is_sign mark.RightParenthesis t) (Take false []) Refused)

abbrev pub selector_rule : Terminal → Rule
selector_rule t = cond (is_sign mark.Period t) (Take false (Want MemberG ∷ [])) Over

abbrev pub member_rule : Terminal → Rule
member_rule (Name n) = Take false (Do (set_member n) ∷ Want MemberSubscriptG ∷ [])
member_rule t = Refused

abbrev pub member_subscript : Terminal → Rule
member_subscript t = cond (is_sign mark.LeftParenthesis t) (Take true (an_expression (need mark.RightParenthesis ∷ Leave ∷ Do set_member_subscript ∷ []))) Over

-- ---- locations and values

abbrev pub locate : Position → LocationForm → Action
locate p f (ExpressionR (ReferenceE x) ∷ vs) = Some (ExpressionR (LocationE (LocationOf p f x)) ∷ vs)
locate p f vs = None

abbrev pub locate_values : Position → LocationForm → Action
locate_values p f (ValuesR ws ∷ vs) = Some (ExpressionR (LocationE (ConstantsOf p f ws)) ∷ vs)
locate_values p f vs = None

abbrev pub location_value : Action
location_value (ExpressionR (LocationE l) ∷ vs) = Some (ValueR (LocationV l) ∷ vs)
location_value vs = None

abbrev pub add_value : Action
add_value (ValueR v ∷ ValuesR ws ∷ vs) = Some (ValuesR (values ws v) ∷ vs)
add_value vs = None

abbrev pub a_value_list : List Symbol → List Symbol
a_value_list s = push (ValuesR no_values) ∷ Want ValueG ∷ Do add_value ∷ Want MoreValuesG ∷ s

abbrev pub located : Position → LocationForm → Terminal → Rule
located p f (Name n) = Take false (reference_begun n (Do (locate p f) ∷ []))
located p f t = cond (is_sign mark.LeftParenthesis t) (Take true (a_value_list (Leave ∷ Do (locate_values p f) ∷ []))) Refused

abbrev pub value_rule : Terminal → Rule
value_rule (Numeral n) = Take false (push (ValueR (NumeralV n)) ∷ [])
value_rule (Text s) = Take false (push (ValueR (TextV s)) ∷ [])
value_rule t = cond (is_sign mark.Minus t) (Take false (Want NegativeG ∷ []))
    (cond (is_sign mark.AtSign t) (Keep false (λ p. Want (LocatedG p Pointer) ∷ Do location_value ∷ []))
    (cond (is_sign mark.Period t) (Keep false (λ p. Want (LocatedG p Offset) ∷ Do location_value ∷ []))
    Refused))

abbrev pub negative : Terminal → Rule
negative (Numeral n) = Take false (push (ValueR (NegativeV n)) ∷ [])
negative t = Refused

abbrev pub more_values : Terminal → Rule
more_values t = cond (is_sign mark.Comma t) (Take false (Want ValueG ∷ Do add_value ∷ Want MoreValuesG ∷ []))
    (cond (is_sign mark.RightParenthesis t) (Take false []) Refused)

-- ---- statements

abbrev pub make_simple : BasicT → Action
make_simple b (NamesR ls ∷ vs) = Some (StatementR (Labelled ls b) ∷ vs)
make_simple b vs = None

abbrev pub add_label : NameT → Action
add_label n (ExpressionR e ∷ ReferencesR xs ∷ NamesR ls ∷ vs) = Some (NamesR (names ls n) ∷ vs)
add_label n vs = None

abbrev pub add_target : Action
add_target (ExpressionR (ReferenceE x) ∷ ReferencesR xs ∷ vs) = Some (ReferencesR (references xs x) ∷ vs)
add_target vs = None

abbrev pub make_assign : Action
make_assign (ExpressionR e ∷ ReferencesR xs ∷ NamesR ls ∷ vs) = Some (StatementR (Labelled ls (AssignS xs e)) ∷ vs)
make_assign vs = None

abbrev pub make_call : Position → Action
make_call p (ExpressionR (ReferenceE x) ∷ NamesR ls ∷ vs) = Some (StatementR (Labelled ls (CallS p x)) ∷ vs)
make_call p vs = None

abbrev pub make_return : Position → Action
make_return p (ExpressionR e ∷ NamesR ls ∷ vs) = Some (StatementR (Labelled ls (ReturnValueS p e)) ∷ vs)
make_return p vs = None

abbrev pub join_arms : Action
join_arms (StatementR t ∷ StatementR s ∷ vs) = Some (ArmsR s t ∷ vs)
join_arms vs = None

abbrev pub make_if : Position → Action
make_if p (StatementR s ∷ ExpressionR e ∷ NamesR ls ∷ vs) = Some (StatementR (Labelled ls (IfS p e s)) ∷ vs)
make_if p (ArmsR s t ∷ ExpressionR e ∷ NamesR ls ∷ vs) = Some (StatementR (Labelled ls (IfElseS p e s t)) ∷ vs)
make_if p vs = None

abbrev pub add_statement : Action
add_statement (StatementR s ∷ StatementsR ss ∷ vs) = Some (StatementsR (statements ss s) ∷ vs)
add_statement vs = None

abbrev pub make_do : Position → Action
make_do p (EndR n ∷ StatementsR ss ∷ ItemsR is ∷ NamesR ls ∷ vs) = Some (StatementR (Labelled ls (DoS p (BlockOf is ss) n)) ∷ vs)
make_do p vs = None

abbrev pub make_while : Position → Action
make_while p (EndR n ∷ StatementsR ss ∷ ExpressionR e ∷ NamesR ls ∷ vs) = Some (StatementR (Labelled ls (WhileS p e ss n)) ∷ vs)
make_while p vs = None

abbrev pub make_case : Position → Action
make_case p (EndR n ∷ StatementsR ss ∷ ExpressionR e ∷ NamesR ls ∷ vs) = Some (StatementR (Labelled ls (CaseS p e ss n)) ∷ vs)
make_case p vs = None

abbrev pub make_range : Action
make_range (ExpressionR b ∷ ExpressionR a ∷ NameR i ∷ vs) = Some (RangeR i a b ∷ vs)
make_range vs = None

abbrev pub set_step : Action
set_step (ExpressionR e ∷ StepR s ∷ vs) = Some (StepR (Some e) ∷ vs)
set_step vs = None

abbrev pub make_iterate : Position → Action
make_iterate p (EndR n ∷ StatementsR ss ∷ StepR s ∷ RangeR i a b ∷ NamesR ls ∷ vs) = Some (StatementR (Labelled ls (IterateS p i a b s ss n)) ∷ vs)
make_iterate p vs = None

-- a statement that stands after this label, if there is one
abbrev pub statement_rule : Option NameT → Terminal → Rule
statement_rule l (Name n) = Take false (push (ReferencesR no_references) ∷ push (ExpressionR (ReferenceE (plain n))) ∷ Want (LeadG n) ∷ [])
statement_rule l t = cond (is_sign mark.Semicolon t) (Keep false (λ p. Do (make_simple (EmptyS p)) ∷ []))
    (cond (is_key key.Call t) (Keep false (λ p. Want CalledG ∷ need mark.Semicolon ∷ Do (make_call p) ∷ []))
    (cond (is_key key.Return t) (Keep false (λ p. Want (ReturnedG p) ∷ []))
    (cond (is_key key.Enable t) (Keep false (λ p. need mark.Semicolon ∷ Do (make_simple (EnableS p)) ∷ []))
    (cond (is_key key.Disable t) (Keep false (λ p. need mark.Semicolon ∷ Do (make_simple (DisableS p)) ∷ []))
    (cond (is_key key.Halt t) (Keep false (λ p. need mark.Semicolon ∷ Do (make_simple (HaltS p)) ∷ []))
    (cond (is_key key.If t) (Keep false (λ p. an_expression (Need (Key key.Then) ∷ Want ArmG ∷ Want OtherwiseG ∷ Do (make_if p) ∷ [])))
    (cond (is_key key.Do t) (Keep true (λ p. Want (DoG p l) ∷ Leave ∷ []))
    Refused)))))))

abbrev pub more_targets : Terminal → Rule
more_targets t = cond (is_sign mark.Comma t) (Take false (Do add_target ∷ Want TargetG ∷ []))
    (cond (is_sign mark.Equal t) (Take false (Do add_target ∷ an_expression (need mark.Semicolon ∷ Do make_assign ∷ []))) Refused)

-- after the name of an assignment's first target
abbrev pub assignment_rule : Terminal → Rule
assignment_rule t = otherwise (behind (subscripts_rule t) (Want SelectorG ∷ Want MoreTargetsG ∷ []))
    (otherwise (behind (selector_rule t) (Want MoreTargetsG ∷ []))
    (more_targets t))

abbrev pub lead : NameT → Terminal → Rule
lead n t = cond (is_sign mark.Colon t) (Take false (Do (add_label n) ∷ Want (StatementG (Some n)) ∷ [])) (assignment_rule t)

abbrev pub target : Terminal → Rule
target (Name n) = Take false (reference_begun n (Want MoreTargetsG ∷ []))
target t = Refused

abbrev pub called : Terminal → Rule
called (Name n) = Take false (reference_begun n [])
called t = Refused

abbrev pub returned_rule : Position → Terminal → Rule
returned_rule p t = cond (is_sign mark.Semicolon t) (Take false (Do (make_simple (ReturnS p)) ∷ [])) (behind (expression_at t) (need mark.Semicolon ∷ Do (make_return p) ∷ []))

abbrev pub no_labels : Symbol
no_labels = push (NamesR no_names)

abbrev pub no_statement_yet : Symbol
no_statement_yet = push (StatementsR no_statements)

abbrev pub arm : Terminal → Rule
arm t = before (no_labels ∷ []) (opened (statement_rule None t))

abbrev pub otherwise_rule : Terminal → Rule
otherwise_rule t = cond (is_key key.Else t) (Take false (Want ArmG ∷ Do join_arms ∷ [])) Over

abbrev pub do_rule : Position → Option NameT → Terminal → Rule
do_rule p l (Name i) = Take false (push (NameR i) ∷ need mark.Equal ∷ an_expression (Need (Key key.To) ∷ an_expression (Do make_range ∷ push (StepR None) ∷ Want StepG ∷ need mark.Semicolon ∷ no_statement_yet ∷ Want (StatementsG l) ∷ Do (make_iterate p) ∷ [])))
do_rule p l t = cond (is_sign mark.Semicolon t) (Take false (push (ItemsR no_items) ∷ Want (ItemsG l) ∷ Do (make_do p) ∷ []))
    (cond (is_key key.While t) (Take false (an_expression (need mark.Semicolon ∷ no_statement_yet ∷ Want (StatementsG l) ∷ Do (make_while p) ∷ [])))
    (cond (is_key key.Case t) (Take false (an_expression (need mark.Semicolon ∷ no_statement_yet ∷ Want (StatementsG l) ∷ Do (make_case p) ∷ [])))
    Refused))

abbrev pub step_rule : Terminal → Rule
step_rule t = cond (is_key key.By t) (Take false (an_expression (Do set_step ∷ []))) Over

abbrev pub end_rule : Option NameT → Terminal → Rule
end_rule l (Name n) = cond (is_end_name l n) (Take false (need mark.Semicolon ∷ push (EndR (Some n)) ∷ [])) Refused
end_rule l t = cond (is_sign mark.Semicolon t) (Take false (push (EndR None) ∷ [])) Refused

abbrev pub and_more : Option NameT → List Symbol
and_more l = Do add_statement ∷ Want (StatementsG l) ∷ []

abbrev pub statements_rule : Option NameT → Terminal → Rule
statements_rule l t = cond (is_key key.End t) (Take false (Want (EndG l) ∷ []))
    (before (no_labels ∷ []) (behind (statement_rule None t) (and_more l)))

-- ---- blocks and procedures

abbrev pub make_declare : Position → Action
make_declare p (ElementsR es ∷ ItemsR is ∷ vs) = Some (ItemsR (items is (DeclareI p es)) ∷ vs)
make_declare p vs = None

abbrev pub make_procedure : Action
make_procedure (EndR e ∷ StatementsR ss ∷ ItemsR is ∷ HeaderR n ps s i l ∷ ItemsR os ∷ vs) = Some (ItemsR (items os (ProcedureI n ps s i l (BlockOf is ss) e)) ∷ vs)
make_procedure vs = None

abbrev pub add_parameter : NameT → Action
add_parameter p (HeaderR n ps s i l ∷ vs) = Some (HeaderR n (names ps p) s i l ∷ vs)
add_parameter p vs = None

abbrev pub set_returned : Scalar → Action
set_returned t (HeaderR n ps s i l ∷ vs) = Some (HeaderR n ps (Some t) i l ∷ vs)
set_returned t vs = None

abbrev pub set_interrupt : NumeralT → Action
set_interrupt k (HeaderR n ps s i l ∷ vs) = Some (HeaderR n ps s (Some k) l ∷ vs)
set_interrupt k vs = None

abbrev pub set_linkage : LinkageT → Action
set_linkage k (HeaderR n ps s i l ∷ vs) = Some (HeaderR n ps s i k ∷ vs)
set_linkage k vs = None

abbrev pub make_module : NameT → Action
make_module n (EndR e ∷ StatementsR ss ∷ ItemsR is ∷ vs) = Some (ModuleR (ModuleOf n (BlockOf is ss) e) ∷ vs)
make_module n vs = None

abbrev pub scalar_of : Terminal → Option Scalar
scalar_of (Key key.Byte) = Some scalar.Byte
scalar_of (Key key.Word) = Some scalar.Word
scalar_of (Key key.Address) = Some scalar.Address
scalar_of (Key key.Pointer) = Some scalar.Pointer
scalar_of (Key key.Integer) = Some scalar.Integer
scalar_of t = None

abbrev pub parameters_rule : Terminal → Rule
parameters_rule t = cond (is_sign mark.LeftParenthesis t) (Take false (Want ParameterG ∷ Want MoreParametersG ∷ [])) Over

abbrev pub parameter : Terminal → Rule
parameter (Name n) = Take false (Do (add_parameter n) ∷ [])
parameter t = Refused

abbrev pub more_parameters : Terminal → Rule
more_parameters t = cond (is_sign mark.Comma t) (Take false (Want ParameterG ∷ Want MoreParametersG ∷ []))
    (cond (is_sign mark.RightParenthesis t) (Take false []) Refused)

abbrev pub returned_type : Terminal → Rule
returned_type t = elim (scalar_of t) [ None ↦ Over | Some s ↦ Take false (Do (set_returned s) ∷ []) ]

abbrev pub interrupt_rule : Terminal → Rule
interrupt_rule t = cond (is_key key.Interrupt t) (Take false (Want InterruptNumberG ∷ [])) Over

abbrev pub interrupt_number : Terminal → Rule
interrupt_number (Numeral n) = Take false (Do (set_interrupt n) ∷ [])
interrupt_number t = Refused

abbrev pub linkage_rule : Terminal → Rule
linkage_rule t = cond (is_key key.Public t) (Take false (Do (set_linkage public_linkage) ∷ []))
    (cond (is_key key.External t) (Take false (Do (set_linkage external_linkage) ∷ [])) Over)

abbrev pub items_rule : Option NameT → Terminal → Rule
items_rule l (Name n) = Take false (Want (ItemLeadG n l) ∷ [])
items_rule l t = cond (is_key key.Declare t) (Keep false (λ p. push (ElementsR no_elements) ∷ Want ElementG ∷ Want MoreElementsG ∷ Do (make_declare p) ∷ Want (ItemsG l) ∷ []))
    (cond (is_key key.End t) (Take false (no_statement_yet ∷ Want (EndG l) ∷ []))
    (before (no_statement_yet ∷ no_labels ∷ []) (behind (statement_rule None t) (and_more l))))

abbrev pub item_lead : NameT → Option NameT → Terminal → Rule
item_lead n l t = cond (is_sign mark.Colon t) (Take false (Want (ItemColonG n l) ∷ []))
    (before (no_statement_yet ∷ no_labels ∷ push (ReferencesR no_references) ∷ push (ExpressionR (ReferenceE (plain n))) ∷ []) (behind (assignment_rule t) (and_more l)))

abbrev pub procedure_symbols : NameT → List Symbol → List Symbol
procedure_symbols n s = push (HeaderR n no_names None None no_linkage) ∷ Want ParametersG ∷ Want ReturnedTypeG ∷ Want InterruptG ∷ Want LinkageG ∷ need mark.Semicolon ∷ push (ItemsR no_items) ∷ Want (ItemsG (Some n)) ∷ Leave ∷ Do make_procedure ∷ s

abbrev pub item_colon : NameT → Option NameT → Terminal → Rule
item_colon n l t = cond (is_key key.Procedure t) (Take true (procedure_symbols n (Want (ItemsG l) ∷ [])))
    (before (no_statement_yet ∷ push (NamesR (names no_names n)) ∷ []) (behind (statement_rule (Some n) t) (and_more l)))

-- ---- declarations

abbrev pub add_element : Action
add_element (ElementR e ∷ ElementsR es ∷ vs) = Some (ElementsR (elements es e) ∷ vs)
add_element vs = None

abbrev pub make_literal : TextT → Action
make_literal s (VariableR (VariableOf n b) ∷ vs) = Some (ElementR (LiteralElement n s) ∷ vs)
make_literal s vs = None

abbrev pub set_base : NameT → Action
set_base b (VariableR (VariableOf n c) ∷ vs) = Some (VariableR (VariableOf n (Some b)) ∷ vs)
set_base b vs = None

abbrev pub add_variable : Action
add_variable (VariableR v ∷ VariablesR ws ∷ vs) = Some (VariablesR (variables ws v) ∷ vs)
add_variable vs = None

abbrev pub one_variable : Action
one_variable (VariableR v ∷ vs) = Some (DeclaredR (OneVariable v) ∷ vs)
one_variable vs = None

abbrev pub variable_group : Action
variable_group (VariablesR ws ∷ vs) = Some (DeclaredR (VariableList ws) ∷ vs)
variable_group vs = None

abbrev pub set_dimension : DimensionT → Action
set_dimension c (DimensionR d ∷ vs) = Some (DimensionR c ∷ vs)
set_dimension c vs = None

abbrev pub set_count : NumeralT → Action
set_count n (CountR c ∷ vs) = Some (CountR (Some n) ∷ vs)
set_count n vs = None

abbrev pub add_name : NameT → Action
add_name n (NamesR ns ∷ vs) = Some (NamesR (names ns n) ∷ vs)
add_name n vs = None

abbrev pub make_member : Scalar → Action
make_member s (CountR c ∷ NameR n ∷ vs) = Some (MemberR (OneMember n c s) ∷ vs)
make_member s (CountR c ∷ NamesR ns ∷ vs) = Some (MemberR (MemberList ns c s) ∷ vs)
make_member s vs = None

abbrev pub add_member : Action
add_member (MemberR m ∷ MembersR ms ∷ vs) = Some (MembersR (members ms m) ∷ vs)
add_member vs = None

abbrev pub make_structure : Action
make_structure (MembersR ms ∷ vs) = Some (TypeR (StructureType ms) ∷ vs)
make_structure vs = None

abbrev pub set_external : Action
set_external (AttributesR a ∷ vs) = Some (AttributesR External ∷ vs)
set_external vs = None

abbrev pub set_public : Action
set_public (AttributesR (Attributes b a i) ∷ vs) = Some (AttributesR (Attributes true a i) ∷ vs)
set_public vs = None

abbrev pub set_at : AtT → Action
set_at c (AttributesR (Attributes b a i) ∷ vs) = Some (AttributesR (Attributes b c i) ∷ vs)
set_at c vs = None

abbrev pub set_at_location : Action
set_at_location (ExpressionR (LocationE l) ∷ AttributesR (Attributes b a i) ∷ vs) = Some (AttributesR (Attributes b (at_location l) i) ∷ vs)
set_at_location vs = None

abbrev pub set_initial : Action
set_initial (ValuesR ws ∷ AttributesR (Attributes b a i) ∷ vs) = Some (AttributesR (Attributes b a (initial ws)) ∷ vs)
set_initial vs = None

abbrev pub set_data : Action
set_data (ValuesR ws ∷ AttributesR (Attributes b a i) ∷ vs) = Some (AttributesR (Attributes b a (constant_data ws)) ∷ vs)
set_data vs = None

abbrev pub make_element : Action
make_element (AttributesR a ∷ TypeR t ∷ DimensionR c ∷ DeclaredR d ∷ vs) = Some (ElementR (VariableElement d c t a) ∷ vs)
make_element vs = None

abbrev pub attributes_tail : List Symbol
attributes_tail = push (AttributesR (Attributes false no_at no_initial)) ∷ Want AttributesG ∷ Do make_element ∷ []

abbrev pub declared_tail : List Symbol
declared_tail = push (DimensionR no_dimension) ∷ Want DimensionG ∷ Want TypeG ∷ attributes_tail

abbrev pub element_rule : Terminal → Rule
element_rule (Name n) = Take false (push (VariableR (VariableOf n None)) ∷ Want ElementLeadG ∷ Do add_element ∷ [])
element_rule t = cond (is_sign mark.LeftParenthesis t) (Take false (push (VariablesR no_variables) ∷ Want VariableG ∷ Do add_variable ∷ Want MoreVariablesG ∷ Do variable_group ∷ (declared_tail ++ (Do add_element ∷ [])))) Refused

abbrev pub more_elements : Terminal → Rule
more_elements t = cond (is_sign mark.Comma t) (Take false (Want ElementG ∷ Want MoreElementsG ∷ []))
    (cond (is_sign mark.Semicolon t) (Take false []) Refused)

abbrev pub variable_rule : Terminal → Rule
variable_rule (Name n) = Take false (push (VariableR (VariableOf n None)) ∷ Want BasedG ∷ [])
variable_rule t = Refused

abbrev pub more_variables : Terminal → Rule
more_variables t = cond (is_sign mark.Comma t) (Take false (Want VariableG ∷ Do add_variable ∷ Want MoreVariablesG ∷ []))
    (cond (is_sign mark.RightParenthesis t) (Take false []) Refused)

abbrev pub based_rule : Terminal → Rule
based_rule t = cond (is_key key.Based t) (Take false (Want BaseG ∷ [])) Over

abbrev pub base_rule : Terminal → Rule
base_rule (Name n) = Take false (Do (set_base n) ∷ [])
base_rule t = Refused

abbrev pub dimension_rule : Terminal → Rule
dimension_rule t = cond (is_sign mark.LeftParenthesis t) (Take false (Want DimensionBodyG ∷ [])) Over

abbrev pub dimension_body : Terminal → Rule
dimension_body (Numeral n) = Take false (need mark.RightParenthesis ∷ Do (set_dimension (dimension n)) ∷ [])
dimension_body t = cond (is_sign mark.Star t) (Take false (need mark.RightParenthesis ∷ Do (set_dimension implicit_dimension) ∷ [])) Refused

abbrev pub type_rule : Terminal → Rule
type_rule t = elim (scalar_of t) [ None ↦ cond (is_key key.Structure t) (Take false (need mark.LeftParenthesis ∷ push (MembersR no_members) ∷ Want MemberOfG ∷ Do add_member ∷ Want MoreMembersG ∷ Do make_structure ∷ [])) Refused | Some s ↦ Take false (push (TypeR (ScalarType s)) ∷ []) ]

abbrev pub member_of : Terminal → Rule
member_of (Name n) = Take false (push (NameR n) ∷ push (CountR None) ∷ Want CountG ∷ Want MemberTypeG ∷ [])
member_of t = cond (is_sign mark.LeftParenthesis t) (Take false (push (NamesR no_names) ∷ Want MemberNameG ∷ Want MoreMemberNamesG ∷ push (CountR None) ∷ Want CountG ∷ Want MemberTypeG ∷ [])) Refused

abbrev pub member_name : Terminal → Rule
member_name (Name n) = Take false (Do (add_name n) ∷ [])
member_name t = Refused

abbrev pub more_member_names : Terminal → Rule
more_member_names t = cond (is_sign mark.Comma t) (Take false (Want MemberNameG ∷ Want MoreMemberNamesG ∷ []))
    (cond (is_sign mark.RightParenthesis t) (Take false []) Refused)

abbrev pub count_rule : Terminal → Rule
count_rule t = cond (is_sign mark.LeftParenthesis t) (Take false (Want CountNumberG ∷ [])) Over

abbrev pub count_number : Terminal → Rule
count_number (Numeral n) = Take false (need mark.RightParenthesis ∷ Do (set_count n) ∷ [])
count_number t = Refused

abbrev pub member_type : Terminal → Rule
member_type t = elim (scalar_of t) [ None ↦ Refused | Some s ↦ Take false (Do (make_member s) ∷ []) ]

abbrev pub more_members : Terminal → Rule
more_members t = cond (is_sign mark.Comma t) (Take false (Want MemberOfG ∷ Do add_member ∷ Want MoreMembersG ∷ []))
    (cond (is_sign mark.RightParenthesis t) (Take false []) Refused)

abbrev pub at_rule : Terminal → Rule
at_rule t = cond (is_key key.At t) (Take false (need mark.LeftParenthesis ∷ Want AtBodyG ∷ need mark.RightParenthesis ∷ [])) Over

abbrev pub at_body : Terminal → Rule
at_body (Numeral n) = Take false (Do (set_at (at_number n)) ∷ [])
at_body t = cond (is_sign mark.AtSign t) (Keep false (λ p. Want (LocatedG p Pointer) ∷ Do set_at_location ∷ []))
    (cond (is_sign mark.Period t) (Keep false (λ p. Want (LocatedG p Offset) ∷ Do set_at_location ∷ [])) Refused)

abbrev pub initial_rule : Terminal → Rule
initial_rule t = cond (is_key key.Initial t) (Take false (need mark.LeftParenthesis ∷ a_value_list (Do set_initial ∷ [])))
    (cond (is_key key.Data t) (Take false (need mark.LeftParenthesis ∷ a_value_list (Do set_data ∷ []))) Over)

abbrev pub attributes_rule : Terminal → Rule
attributes_rule t = cond (is_key key.External t) (Take false (Do set_external ∷ []))
    (cond (is_key key.Public t) (Take false (Do set_public ∷ Want AtG ∷ Want InitialG ∷ []))
    (otherwise (behind (at_rule t) (Want InitialG ∷ [])) (initial_rule t)))

-- after an element's first name
abbrev pub element_lead : Terminal → Rule
element_lead t = cond (is_key key.Literally t) (Take false (Want LiteralTextG ∷ []))
    (otherwise (behind (based_rule t) (Do one_variable ∷ declared_tail))
    (before (Do one_variable ∷ push (DimensionR no_dimension) ∷ []) (otherwise (behind (dimension_rule t) (Want TypeG ∷ attributes_tail)) (behind (type_rule t) attributes_tail))))

abbrev pub literal_text : Terminal → Rule
literal_text (Text s) = Take false (Do (make_literal s) ∷ [])
literal_text t = Refused

-- ---- a module

abbrev pub module_rule : NameT → Terminal → Rule
module_rule n t = cond (is_key key.Do t) (Take true (need mark.Semicolon ∷ push (ItemsR no_items) ∷ Want (ItemsG (Some n)) ∷ Leave ∷ Do (make_module n) ∷ Need Finish ∷ [])) Refused

abbrev pub start_rule : Terminal → Rule
start_rule (Name n) = Take false (need mark.Colon ∷ Want (ModuleG n) ∷ [])
start_rule t = Refused

abbrev pub rule : Goal → Terminal → Rule
rule PrimaryG t = primary t
rule SignedG t = signed t
rule NegationG t = negation t
rule (MoreG l) t = more l t
rule (InsideG p) t = inside p t
rule (AfterReferenceG p) t = after_reference p t
rule SubscriptsG t = subscripts_rule t
rule MoreSubscriptsG t = more_subscripts t
rule SelectorG t = selector_rule t
rule MemberG t = member_rule t
rule MemberSubscriptG t = member_subscript t
rule (LocatedG p f) t = located p f t
rule ValueG t = value_rule t
rule NegativeG t = negative t
rule MoreValuesG t = more_values t
rule (StatementG l) t = statement_rule l t
rule (LeadG n) t = lead n t
rule TargetG t = target t
rule MoreTargetsG t = more_targets t
rule CalledG t = called t
rule (ReturnedG p) t = returned_rule p t
rule ArmG t = arm t
rule OtherwiseG t = otherwise_rule t
rule (DoG p l) t = do_rule p l t
rule StepG t = step_rule t
rule (StatementsG l) t = statements_rule l t
rule (EndG l) t = end_rule l t
rule (ItemsG l) t = items_rule l t
rule (ItemLeadG n l) t = item_lead n l t
rule (ItemColonG n l) t = item_colon n l t
rule ParametersG t = parameters_rule t
rule ParameterG t = parameter t
rule MoreParametersG t = more_parameters t
rule ReturnedTypeG t = returned_type t
rule InterruptG t = interrupt_rule t
rule InterruptNumberG t = interrupt_number t
rule LinkageG t = linkage_rule t
rule ElementG t = element_rule t
rule ElementLeadG t = element_lead t
rule LiteralTextG t = literal_text t
rule VariableG t = variable_rule t
rule MoreVariablesG t = more_variables t
rule BasedG t = based_rule t
rule BaseG t = base_rule t
rule DimensionG t = dimension_rule t
rule DimensionBodyG t = dimension_body t
rule TypeG t = type_rule t
rule MemberOfG t = member_of t
rule MemberNameG t = member_name t
rule MoreMemberNamesG t = more_member_names t
rule CountG t = count_rule t
rule CountNumberG t = count_number t
rule MemberTypeG t = member_type t
rule MoreMembersG t = more_members t
rule AttributesG t = attributes_rule t
rule AtG t = at_rule t
rule AtBodyG t = at_body t
rule InitialG t = initial_rule t
rule MoreElementsG t = more_elements t
rule (ModuleG n) t = module_rule n t
rule StartG t = start_rule t

-- ---- runs

-- a token is refused, or what is awaited and read after it; Open where it opens a level
pub data Move : Type 0 where
  Stay : Move
  Next : List Symbol → List Value → Move
  Open : List Symbol → List Value → Move

abbrev pub moved : Bool → List Symbol → List Value → Move
moved true s v = Open s v
moved false s v = Next s v

abbrev pub kept : Bool → (Position → List Symbol) → List Symbol → List Value → Option Position → Move
kept b f s v None = Stay
kept b f s v (Some p) = moved b (f p ++ s) v

abbrev pub feed : List Symbol → List Value → Terminal → Option Position → Move
feed [] v t p = Stay
feed (Need u ∷ s) v t p = cond (is_same u t) (Next s v) Stay
feed (Want g ∷ s) v t p = elim (rule g t) [ Refused ↦ Stay | Over ↦ feed s v t p | Take b r ↦ moved b (r ++ s) v | Keep b f ↦ kept b f s v p ]
feed (Do a ∷ s) v t p = elim (a v) [ None ↦ Stay | Some w ↦ feed s w t p ]
feed (Leave ∷ s) v t p = feed s v t p

-- the levels that tokens open, as levels_of counts them, and how it ends: after the last token, or how many are left after a refused one
pub data Trace : Type 0 where
  Ended : List Symbol → List Value → Trace
  Wrong : ℕ → Trace
  Then : ℕ → Trace → Trace

abbrev pub trace : List Symbol → List Value → List Leaf → Trace
trace s v [] = Ended s v
trace s v (l ∷ ls) = elim (feed s v l.terminal l.place) [ Stay ↦ Wrong (length ls) | Next s' v' ↦ Then 0 (trace s' v' ls) | Open s' v' ↦ Then (depth s') (trace s' v' ls) ]

-- The same within a limit: what is awaited and read at the end, or how many tokens are left after the one at which it stops.
pub data Stop : Type 0 where
  Refusal : ℕ → Stop
  Deep : ℕ → Stop

pub record Reading : Type 0 where
  pub awaited : List Symbol
  pub read : List Value

abbrev pub run : ℕ → List Symbol → List Value → List Leaf → Result Reading Stop
run limit s v [] = Ok (record { awaited = s; read = v })
run limit s v (l ∷ ls) = elim (feed s v l.terminal l.place) [ Stay ↦ Err (Refusal (length ls)) | Next s' v' ↦ run limit s' v' ls | Open s' v' ↦ elim (nat_lt limit (depth s')) [ true ↦ Err (Deep (length ls)) | false ↦ run limit s' v' ls ] ]

abbrev pub start : List Symbol
start = Want StartG ∷ []
