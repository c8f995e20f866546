-- A trace over a tree has the levels of the tree.
use Rattle.std.proofs.Common.{◌≡◌, ℕ, suc, List, [], ◌∷◌, ◌++◌, Bool, true, false, Option, Some, None, refl, sym, ap, ◌∙◌, append_assoc}
use Rattle.plm_token.specs.declared.token.Keyword.TheVariants as key
use Rattle.plm_token.specs.declared.token.Mark.TheVariants as mark
use Rattle.plm_syntax.specs.declared.tree.Scalar.{Scalar}
use Rattle.plm_syntax.specs.Terminal.{NameT, NumeralT, Terminal, Name, Numeral, Text, Key, Sign, Finish, Leaf, leaf, leaf_at}
use Rattle.plm_syntax.specs.Tree.{ExpressionT, NumeralE, TextE, ReferenceE, LocationE, ParenthesisedE, EmbeddedE, UnaryE, BinaryE, ReferenceT, ReferenceOf, ExpressionsT, no_expressions, expressions, SelectorT, no_member, member, member_at, LocationT, LocationOf, ConstantsOf, ValueT, NumeralV, NegativeV, TextV, LocationV, ValuesT, no_values, values, NamesT, no_names, names, VariableT, VariableOf, VariablesT, no_variables, variables, DeclaredT, OneVariable, VariableList, DimensionT, no_dimension, dimension, implicit_dimension, MemberT, OneMember, MemberList, MembersT, no_members, members, TypeT, ScalarType, StructureType, AtT, no_at, at_number, at_location, InitialT, no_initial, initial, constant_data, AttributesT, External, Attributes, ElementT, LiteralElement, VariableElement, ElementsT, no_elements, elements, LinkageT, no_linkage, public_linkage, external_linkage, ReferencesT, no_references, references, StatementT, Labelled, BasicT, EmptyS, AssignS, CallS, ReturnS, ReturnValueS, EnableS, DisableS, HaltS, IfS, IfElseS, DoS, WhileS, CaseS, IterateS, StatementsT, no_statements, statements, BlockT, BlockOf, ItemsT, no_items, items, ItemT, DeclareI, ProcedureI, ModuleT, ModuleOf}
use Rattle.plm_syntax.specs.Spelling.{unary_sign, binary_sign, form_sign, scalar_key, behind_labels, expression, reference, subscripts, listed, selector, location, value, value_list, listed_values, listed_names, name_list, parenthesised_names, base, variable, listed_variables, variable_list, declared, in_parentheses, dimension_leaves, count, member_leaves, listed_members, member_list, type_leaves, at_leaves, initial_leaves, public, attributes, element, listed_elements, element_list, returned, interrupt, linkage, ending, listed_references, targets, labels, step, statement, basic, statement_list, block, item_list, item, module_leaves, put_level}
use Rattle.plm_syntax.specs.Inner.Machine.{Trace, Then}
use Rattle.plm_syntax.proofs.DriveExpression.{put_then}

-- the levels, then what follows
abbrev pub thens : List ℕ → Trace → Trace
thens [] r = r
thens (n ∷ ns) r = Then n (thens ns r)

pub thens_join : (ms ns : List ℕ) (r : Trace) → thens (ms ++ ns) r ≡ thens ms (thens ns r)
thens_join [] ns r = refl
thens_join (m ∷ ms) ns r = ap (Then m) (thens_join ms ns r)

-- A part whose levels are these, in a trace and in a list.
pub record Levelled (f : Trace → Trace) (g : List ℕ → List ℕ) : Type 0 where
  pub levels : List ℕ
  pub in_trace : (r : Trace) → f r ≡ thens levels r
  pub in_list : (ns : List ℕ) → g ns ≡ levels ++ ns

pub nothing : Levelled (λ r. r) (λ ns. ns)
nothing = record { levels = []; in_trace = λ r. refl; in_list = λ ns. refl }

pub one : (l : Leaf) (n : ℕ) → Levelled (put_then l n) (put_level l n)
one l n = record { levels = n ∷ []; in_trace = λ r. refl; in_list = λ ns. refl }

pub join : {f f' : Trace → Trace} {g g' : List ℕ → List ℕ} → Levelled f g → Levelled f' g' → Levelled (λ r. f (f' r)) (λ ns. g (g' ns))
join {f} {f'} {g} {g'} h k = record {
  levels = h.levels ++ k.levels;
  in_trace = λ r. h.in_trace (f' r) ∙ ap (thens h.levels) (k.in_trace r) ∙ sym (thens_join h.levels k.levels r);
  in_list = λ ns. h.in_list (g' ns) ∙ ap (λ (x : List ℕ). h.levels ++ x) (k.in_list ns) ∙ sym (append_assoc h.levels k.levels ns);
}

mutual
  pub levels_expression : (x0 : ℕ) (x1 : ExpressionT) → Levelled (expression put_then x0 x1) (expression put_level x0 x1)
  levels_expression d (NumeralE n) = one (leaf (Numeral n)) 0
  levels_expression d (TextE s) = one (leaf (Text s)) 0
  levels_expression d (ReferenceE x) = levels_reference 0 d x
  levels_expression d (LocationE l) = levels_location d l
  levels_expression d (ParenthesisedE p e) = join (one (leaf_at (Sign mark.LeftParenthesis) p) (suc d)) (join (levels_expression (suc d) e) (one (leaf (Sign mark.RightParenthesis)) 0))
  levels_expression d (EmbeddedE p x e) = join (one (leaf_at (Sign mark.LeftParenthesis) p) (suc d)) (join (levels_reference 0 (suc d) x) (join (one (leaf (Sign mark.Assign)) 0) (join (levels_expression (suc d) e) (one (leaf (Sign mark.RightParenthesis)) 0))))
  levels_expression d (UnaryE p o e) = join (one (leaf_at (unary_sign o) p) (suc d)) (levels_expression (suc d) e)
  levels_expression d (BinaryE p o a b) = join (levels_expression d a) (join (one (leaf_at (binary_sign o) p) 0) (levels_expression d b))

  pub levels_reference : (x0 : ℕ) (x1 : ℕ) (x2 : ReferenceT) → Levelled (reference put_then x0 x1 x2) (reference put_level x0 x1 x2)
  levels_reference m d (ReferenceOf n es s) = join (one (leaf (Name n)) m) (join (levels_subscripts d es) (levels_selector d s))

  pub levels_subscripts : (x0 : ℕ) (x1 : ExpressionsT) → Levelled (subscripts put_then x0 x1) (subscripts put_level x0 x1)
  levels_subscripts d no_expressions = nothing
  levels_subscripts d (expressions es e) = join (one (leaf (Sign mark.LeftParenthesis)) (suc d)) (join (levels_listed (suc d) es) (join (levels_expression (suc d) e) (one (leaf (Sign mark.RightParenthesis)) 0)))

  pub levels_listed : (x0 : ℕ) (x1 : ExpressionsT) → Levelled (listed put_then x0 x1) (listed put_level x0 x1)
  levels_listed d no_expressions = nothing
  levels_listed d (expressions es e) = join (levels_listed d es) (join (levels_expression d e) (one (leaf (Sign mark.Comma)) 0))

  pub levels_selector : (x0 : ℕ) (x1 : SelectorT) → Levelled (selector put_then x0 x1) (selector put_level x0 x1)
  levels_selector d no_member = nothing
  levels_selector d (member n) = join (one (leaf (Sign mark.Period)) 0) (one (leaf (Name n)) 0)
  levels_selector d (member_at n e) = join (one (leaf (Sign mark.Period)) 0) (join (one (leaf (Name n)) 0) (join (one (leaf (Sign mark.LeftParenthesis)) (suc d)) (join (levels_expression (suc d) e) (one (leaf (Sign mark.RightParenthesis)) 0))))

  pub levels_location : (x0 : ℕ) (x1 : LocationT) → Levelled (location put_then x0 x1) (location put_level x0 x1)
  levels_location d (LocationOf p f x) = join (one (leaf_at (form_sign f) p) 0) (levels_reference 0 d x)
  levels_location d (ConstantsOf p f vs) = join (one (leaf_at (form_sign f) p) 0) (join (one (leaf (Sign mark.LeftParenthesis)) (suc d)) (join (levels_value_list (suc d) vs) (one (leaf (Sign mark.RightParenthesis)) 0)))

  pub levels_value : (x0 : ℕ) (x1 : ValueT) → Levelled (value put_then x0 x1) (value put_level x0 x1)
  levels_value d (NumeralV n) = one (leaf (Numeral n)) 0
  levels_value d (NegativeV n) = join (one (leaf (Sign mark.Minus)) 0) (one (leaf (Numeral n)) 0)
  levels_value d (TextV s) = one (leaf (Text s)) 0
  levels_value d (LocationV l) = levels_location d l

  pub levels_value_list : (x0 : ℕ) (x1 : ValuesT) → Levelled (value_list put_then x0 x1) (value_list put_level x0 x1)
  levels_value_list d no_values = nothing
  levels_value_list d (values vs v) = join (levels_listed_values d vs) (levels_value d v)

  pub levels_listed_values : (x0 : ℕ) (x1 : ValuesT) → Levelled (listed_values put_then x0 x1) (listed_values put_level x0 x1)
  levels_listed_values d no_values = nothing
  levels_listed_values d (values vs v) = join (levels_listed_values d vs) (join (levels_value d v) (one (leaf (Sign mark.Comma)) 0))

pub levels_listed_names : (x0 : NamesT) → Levelled (listed_names put_then x0) (listed_names put_level x0)
levels_listed_names no_names = nothing
levels_listed_names (names ns n) = join (levels_listed_names ns) (join (one (leaf (Name n)) 0) (one (leaf (Sign mark.Comma)) 0))

pub levels_name_list : (x0 : NamesT) → Levelled (name_list put_then x0) (name_list put_level x0)
levels_name_list no_names = nothing
levels_name_list (names ns n) = join (levels_listed_names ns) (one (leaf (Name n)) 0)

pub levels_parenthesised_names : (x0 : NamesT) → Levelled (parenthesised_names put_then x0) (parenthesised_names put_level x0)
levels_parenthesised_names no_names = nothing
levels_parenthesised_names (names ns n) = join (one (leaf (Sign mark.LeftParenthesis)) 0) (join (levels_name_list (names ns n)) (one (leaf (Sign mark.RightParenthesis)) 0))

pub levels_base : (x0 : Option NameT) → Levelled (base put_then x0) (base put_level x0)
levels_base None = nothing
levels_base (Some n) = join (one (leaf (Key key.Based)) 0) (one (leaf (Name n)) 0)

pub levels_variable : (x0 : VariableT) → Levelled (variable put_then x0) (variable put_level x0)
levels_variable (VariableOf n b) = join (one (leaf (Name n)) 0) (levels_base b)

pub levels_listed_variables : (x0 : VariablesT) → Levelled (listed_variables put_then x0) (listed_variables put_level x0)
levels_listed_variables no_variables = nothing
levels_listed_variables (variables vs v) = join (levels_listed_variables vs) (join (levels_variable v) (one (leaf (Sign mark.Comma)) 0))

pub levels_variable_list : (x0 : VariablesT) → Levelled (variable_list put_then x0) (variable_list put_level x0)
levels_variable_list no_variables = nothing
levels_variable_list (variables vs v) = join (levels_listed_variables vs) (levels_variable v)

pub levels_declared : (x0 : DeclaredT) → Levelled (declared put_then x0) (declared put_level x0)
levels_declared (OneVariable v) = levels_variable v
levels_declared (VariableList vs) = join (one (leaf (Sign mark.LeftParenthesis)) 0) (join (levels_variable_list vs) (one (leaf (Sign mark.RightParenthesis)) 0))

pub levels_in_parentheses : (x0 : Terminal) → Levelled (in_parentheses put_then x0) (in_parentheses put_level x0)
levels_in_parentheses t = join (one (leaf (Sign mark.LeftParenthesis)) 0) (join (one (leaf t) 0) (one (leaf (Sign mark.RightParenthesis)) 0))

pub levels_dimension_leaves : (x0 : DimensionT) → Levelled (dimension_leaves put_then x0) (dimension_leaves put_level x0)
levels_dimension_leaves no_dimension = nothing
levels_dimension_leaves (dimension n) = levels_in_parentheses (Numeral n)
levels_dimension_leaves implicit_dimension = levels_in_parentheses (Sign mark.Star)

pub levels_count : (x0 : Option NumeralT) → Levelled (count put_then x0) (count put_level x0)
levels_count None = nothing
levels_count (Some n) = levels_in_parentheses (Numeral n)

pub levels_member_leaves : (x0 : MemberT) → Levelled (member_leaves put_then x0) (member_leaves put_level x0)
levels_member_leaves (OneMember n c s) = join (one (leaf (Name n)) 0) (join (levels_count c) (one (leaf (scalar_key s)) 0))
levels_member_leaves (MemberList ns c s) = join (one (leaf (Sign mark.LeftParenthesis)) 0) (join (levels_name_list ns) (join (one (leaf (Sign mark.RightParenthesis)) 0) (join (levels_count c) (one (leaf (scalar_key s)) 0))))

pub levels_listed_members : (x0 : MembersT) → Levelled (listed_members put_then x0) (listed_members put_level x0)
levels_listed_members no_members = nothing
levels_listed_members (members ms m) = join (levels_listed_members ms) (join (levels_member_leaves m) (one (leaf (Sign mark.Comma)) 0))

pub levels_member_list : (x0 : MembersT) → Levelled (member_list put_then x0) (member_list put_level x0)
levels_member_list no_members = nothing
levels_member_list (members ms m) = join (levels_listed_members ms) (levels_member_leaves m)

pub levels_type_leaves : (x0 : TypeT) → Levelled (type_leaves put_then x0) (type_leaves put_level x0)
levels_type_leaves (ScalarType s) = one (leaf (scalar_key s)) 0
levels_type_leaves (StructureType ms) = join (one (leaf (Key key.Structure)) 0) (join (one (leaf (Sign mark.LeftParenthesis)) 0) (join (levels_member_list ms) (one (leaf (Sign mark.RightParenthesis)) 0)))

pub levels_at_leaves : (x0 : ℕ) (x1 : AtT) → Levelled (at_leaves put_then x0 x1) (at_leaves put_level x0 x1)
levels_at_leaves d no_at = nothing
levels_at_leaves d (at_number n) = join (one (leaf (Key key.At)) 0) (levels_in_parentheses (Numeral n))
levels_at_leaves d (at_location l) = join (one (leaf (Key key.At)) 0) (join (one (leaf (Sign mark.LeftParenthesis)) 0) (join (levels_location d l) (one (leaf (Sign mark.RightParenthesis)) 0)))

pub levels_initial_leaves : (x0 : ℕ) (x1 : InitialT) → Levelled (initial_leaves put_then x0 x1) (initial_leaves put_level x0 x1)
levels_initial_leaves d no_initial = nothing
levels_initial_leaves d (initial vs) = join (one (leaf (Key key.Initial)) 0) (join (one (leaf (Sign mark.LeftParenthesis)) 0) (join (levels_value_list d vs) (one (leaf (Sign mark.RightParenthesis)) 0)))
levels_initial_leaves d (constant_data vs) = join (one (leaf (Key key.Data)) 0) (join (one (leaf (Sign mark.LeftParenthesis)) 0) (join (levels_value_list d vs) (one (leaf (Sign mark.RightParenthesis)) 0)))

pub levels_public : (x0 : Bool) → Levelled (public put_then x0) (public put_level x0)
levels_public true = one (leaf (Key key.Public)) 0
levels_public false = nothing

pub levels_attributes : (x0 : ℕ) (x1 : AttributesT) → Levelled (attributes put_then x0 x1) (attributes put_level x0 x1)
levels_attributes d External = one (leaf (Key key.External)) 0
levels_attributes d (Attributes p a i) = join (levels_public p) (join (levels_at_leaves d a) (levels_initial_leaves d i))

pub levels_element : (x0 : ℕ) (x1 : ElementT) → Levelled (element put_then x0 x1) (element put_level x0 x1)
levels_element d (LiteralElement n s) = join (one (leaf (Name n)) 0) (join (one (leaf (Key key.Literally)) 0) (one (leaf (Text s)) 0))
levels_element d (VariableElement v c t a) = join (levels_declared v) (join (levels_dimension_leaves c) (join (levels_type_leaves t) (levels_attributes d a)))

pub levels_listed_elements : (x0 : ℕ) (x1 : ElementsT) → Levelled (listed_elements put_then x0 x1) (listed_elements put_level x0 x1)
levels_listed_elements d no_elements = nothing
levels_listed_elements d (elements es e) = join (levels_listed_elements d es) (join (levels_element d e) (one (leaf (Sign mark.Comma)) 0))

pub levels_element_list : (x0 : ℕ) (x1 : ElementsT) → Levelled (element_list put_then x0 x1) (element_list put_level x0 x1)
levels_element_list d no_elements = nothing
levels_element_list d (elements es e) = join (levels_listed_elements d es) (levels_element d e)

pub levels_returned : (x0 : Option Scalar) → Levelled (returned put_then x0) (returned put_level x0)
levels_returned None = nothing
levels_returned (Some s) = one (leaf (scalar_key s)) 0

pub levels_interrupt : (x0 : Option NumeralT) → Levelled (interrupt put_then x0) (interrupt put_level x0)
levels_interrupt None = nothing
levels_interrupt (Some n) = join (one (leaf (Key key.Interrupt)) 0) (one (leaf (Numeral n)) 0)

pub levels_linkage : (x0 : LinkageT) → Levelled (linkage put_then x0) (linkage put_level x0)
levels_linkage no_linkage = nothing
levels_linkage public_linkage = one (leaf (Key key.Public)) 0
levels_linkage external_linkage = one (leaf (Key key.External)) 0

pub levels_ending : (x0 : Option NameT) → Levelled (ending put_then x0) (ending put_level x0)
levels_ending None = join (one (leaf (Key key.End)) 0) (one (leaf (Sign mark.Semicolon)) 0)
levels_ending (Some n) = join (one (leaf (Key key.End)) 0) (join (one (leaf (Name n)) 0) (one (leaf (Sign mark.Semicolon)) 0))

pub levels_listed_references : (x0 : ℕ) (x1 : ℕ) (x2 : ReferencesT) → Levelled (listed_references put_then x0 x1 x2) (listed_references put_level x0 x1 x2)
levels_listed_references m d no_references = nothing
levels_listed_references m d (references no_references x) = join (levels_reference m d x) (one (leaf (Sign mark.Comma)) 0)
levels_listed_references m d (references (references xs y) x) = join (levels_listed_references m d (references xs y)) (join (levels_reference 0 d x) (one (leaf (Sign mark.Comma)) 0))

pub levels_targets : (x0 : ℕ) (x1 : ℕ) (x2 : ReferencesT) → Levelled (targets put_then x0 x1 x2) (targets put_level x0 x1 x2)
levels_targets m d no_references = nothing
levels_targets m d (references no_references x) = levels_reference m d x
levels_targets m d (references (references xs y) x) = join (levels_listed_references m d (references xs y)) (levels_reference 0 d x)

pub levels_labels : (x0 : ℕ) (x1 : NamesT) → Levelled (labels put_then x0 x1) (labels put_level x0 x1)
levels_labels m no_names = nothing
levels_labels m (names no_names n) = join (one (leaf (Name n)) m) (one (leaf (Sign mark.Colon)) 0)
levels_labels m (names (names ns l) n) = join (levels_labels m (names ns l)) (join (one (leaf (Name n)) 0) (one (leaf (Sign mark.Colon)) 0))

pub levels_step : (x0 : ℕ) (x1 : Option ExpressionT) → Levelled (step put_then x0 x1) (step put_level x0 x1)
levels_step d None = nothing
levels_step d (Some e) = join (one (leaf (Key key.By)) 0) (levels_expression d e)

mutual
  pub levels_statement : (x0 : ℕ) (x1 : ℕ) (x2 : StatementT) → Levelled (statement put_then x0 x1 x2) (statement put_level x0 x1 x2)
  levels_statement m d (Labelled ns b) = join (levels_labels m ns) (levels_basic (behind_labels m ns) d b)

  pub levels_basic : (x0 : ℕ) (x1 : ℕ) (x2 : BasicT) → Levelled (basic put_then x0 x1 x2) (basic put_level x0 x1 x2)
  levels_basic m d (EmptyS p) = one (leaf_at (Sign mark.Semicolon) p) m
  levels_basic m d (AssignS xs e) = join (levels_targets m d xs) (join (one (leaf (Sign mark.Equal)) 0) (join (levels_expression d e) (one (leaf (Sign mark.Semicolon)) 0)))
  levels_basic m d (CallS p x) = join (one (leaf_at (Key key.Call) p) m) (join (levels_reference 0 d x) (one (leaf (Sign mark.Semicolon)) 0))
  levels_basic m d (ReturnS p) = join (one (leaf_at (Key key.Return) p) m) (one (leaf (Sign mark.Semicolon)) 0)
  levels_basic m d (ReturnValueS p e) = join (one (leaf_at (Key key.Return) p) m) (join (levels_expression d e) (one (leaf (Sign mark.Semicolon)) 0))
  levels_basic m d (EnableS p) = join (one (leaf_at (Key key.Enable) p) m) (one (leaf (Sign mark.Semicolon)) 0)
  levels_basic m d (DisableS p) = join (one (leaf_at (Key key.Disable) p) m) (one (leaf (Sign mark.Semicolon)) 0)
  levels_basic m d (HaltS p) = join (one (leaf_at (Key key.Halt) p) m) (one (leaf (Sign mark.Semicolon)) 0)
  levels_basic m d (IfS p e s) = join (one (leaf_at (Key key.If) p) m) (join (levels_expression d e) (join (one (leaf (Key key.Then)) 0) (levels_statement (suc d) (suc d) s)))
  levels_basic m d (IfElseS p e s t) = join (one (leaf_at (Key key.If) p) m) (join (levels_expression d e) (join (one (leaf (Key key.Then)) 0) (join (levels_statement (suc d) (suc d) s) (join (one (leaf (Key key.Else)) 0) (levels_statement (suc d) (suc d) t)))))
  levels_basic m d (DoS p b n) = join (one (leaf_at (Key key.Do) p) (suc d)) (join (one (leaf (Sign mark.Semicolon)) 0) (join (levels_block (suc d) b) (levels_ending n)))
  levels_basic m d (WhileS p e ss n) = join (one (leaf_at (Key key.Do) p) (suc d)) (join (one (leaf (Key key.While)) 0) (join (levels_expression (suc d) e) (join (one (leaf (Sign mark.Semicolon)) 0) (join (levels_statement_list (suc d) ss) (levels_ending n)))))
  levels_basic m d (CaseS p e ss n) = join (one (leaf_at (Key key.Do) p) (suc d)) (join (one (leaf (Key key.Case)) 0) (join (levels_expression (suc d) e) (join (one (leaf (Sign mark.Semicolon)) 0) (join (levels_statement_list (suc d) ss) (levels_ending n)))))
  levels_basic m d (IterateS p i a b s ss n) = join (one (leaf_at (Key key.Do) p) (suc d)) (join (one (leaf (Name i)) 0) (join (one (leaf (Sign mark.Equal)) 0) (join (levels_expression (suc d) a) (join (one (leaf (Key key.To)) 0) (join (levels_expression (suc d) b) (join (levels_step (suc d) s) (join (one (leaf (Sign mark.Semicolon)) 0) (join (levels_statement_list (suc d) ss) (levels_ending n)))))))))

  pub levels_statement_list : (x0 : ℕ) (x1 : StatementsT) → Levelled (statement_list put_then x0 x1) (statement_list put_level x0 x1)
  levels_statement_list d no_statements = nothing
  levels_statement_list d (statements ss s) = join (levels_statement_list d ss) (levels_statement 0 d s)

  pub levels_block : (x0 : ℕ) (x1 : BlockT) → Levelled (block put_then x0 x1) (block put_level x0 x1)
  levels_block d (BlockOf is ss) = join (levels_item_list d is) (levels_statement_list d ss)

  pub levels_item_list : (x0 : ℕ) (x1 : ItemsT) → Levelled (item_list put_then x0 x1) (item_list put_level x0 x1)
  levels_item_list d no_items = nothing
  levels_item_list d (items is i) = join (levels_item_list d is) (levels_item d i)

  pub levels_item : (x0 : ℕ) (x1 : ItemT) → Levelled (item put_then x0 x1) (item put_level x0 x1)
  levels_item d (DeclareI p es) = join (one (leaf_at (Key key.Declare) p) 0) (join (levels_element_list d es) (one (leaf (Sign mark.Semicolon)) 0))
  levels_item d (ProcedureI n ps s i l b e) = join (one (leaf (Name n)) 0) (join (one (leaf (Sign mark.Colon)) 0) (join (one (leaf (Key key.Procedure)) (suc d)) (join (levels_parenthesised_names ps) (join (levels_returned s) (join (levels_interrupt i) (join (levels_linkage l) (join (one (leaf (Sign mark.Semicolon)) 0) (join (levels_block (suc d) b) (levels_ending e)))))))))

pub levels_module_leaves : (x0 : ℕ) (x1 : ModuleT) → Levelled (module_leaves put_then x0 x1) (module_leaves put_level x0 x1)
levels_module_leaves d (ModuleOf n b e) = join (one (leaf (Name n)) 0) (join (one (leaf (Sign mark.Colon)) 0) (join (one (leaf (Key key.Do)) (suc d)) (join (one (leaf (Sign mark.Semicolon)) 0) (join (levels_block (suc d) b) (join (levels_ending e) (one (leaf Finish) 0))))))
