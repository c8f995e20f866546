-- The leaves of a tree, from left to right, each with the number of levels open with it where it opens one, else 0.
use Rattle.std.specs.Prelude.{ℕ, suc, List, [], ◌∷◌, Bool, true, false, Option, Some, None}
use Rattle.plm_token.specs.declared.token.Keyword.{Keyword}
use Rattle.plm_token.specs.declared.token.Keyword.TheVariants as key
use Rattle.plm_token.specs.declared.token.Mark.{Mark}
use Rattle.plm_token.specs.declared.token.Mark.TheVariants as mark
use Rattle.plm_syntax.specs.declared.tree.Scalar.{Scalar}
use Rattle.plm_syntax.specs.declared.tree.Scalar.TheVariants as scalar
use Rattle.plm_syntax.specs.declared.tree.UnaryOperator.{UnaryOperator}
use Rattle.plm_syntax.specs.declared.tree.UnaryOperator.TheVariants as unary
use Rattle.plm_syntax.specs.declared.tree.BinaryOperator.{BinaryOperator}
use Rattle.plm_syntax.specs.declared.tree.BinaryOperator.TheVariants as binary
use Rattle.plm_syntax.specs.Terminal.{NameT, NumeralT, Terminal, Name, Numeral, Text, Key, Sign, Finish, Leaf, leaf, leaf_at}
use Rattle.plm_syntax.specs.Tree.{LocationForm, Pointer, Offset, ExpressionT, NumeralE, TextE, ReferenceE, LocationE, ParenthesisedE, EmbeddedE, UnaryE, BinaryE, ReferenceT, ReferenceOf, ExpressionsT, no_expressions, expressions, SelectorT, no_member, member, member_at, LocationT, LocationOf, ConstantsOf, ValueT, NumeralV, NegativeV, TextV, LocationV, ValuesT, no_values, values, NamesT, no_names, names, VariableT, VariableOf, VariablesT, no_variables, variables, DeclaredT, OneVariable, VariableList, DimensionT, no_dimension, dimension, implicit_dimension, MemberT, OneMember, MemberList, MembersT, no_members, members, TypeT, ScalarType, StructureType, AtT, no_at, at_number, at_location, InitialT, no_initial, initial, constant_data, AttributesT, External, Attributes, ElementT, LiteralElement, VariableElement, ElementsT, no_elements, elements, LinkageT, no_linkage, public_linkage, external_linkage, ReferencesT, no_references, references, StatementT, Labelled, BasicT, EmptyS, AssignS, CallS, ReturnS, ReturnValueS, EnableS, DisableS, HaltS, IfS, IfElseS, DoS, WhileS, CaseS, IterateS, StatementsT, no_statements, statements, BlockT, BlockOf, ItemsT, no_items, items, ItemT, DeclareI, ProcedureI, ModuleT, ModuleOf}

abbrev pub unary_sign : UnaryOperator → Terminal
unary_sign unary.Plus = Sign mark.Plus
unary_sign unary.Minus = Sign mark.Minus
unary_sign unary.Not = Key key.Not

abbrev pub binary_sign : BinaryOperator → Terminal
binary_sign binary.Multiply = Sign mark.Star
binary_sign binary.Divide = Sign mark.Slash
binary_sign binary.Modulo = Key key.Mod
binary_sign binary.Add = Sign mark.Plus
binary_sign binary.Subtract = Sign mark.Minus
binary_sign binary.Equal = Sign mark.Equal
binary_sign binary.NotEqual = Sign mark.NotEqual
binary_sign binary.Less = Sign mark.Less
binary_sign binary.LessEqual = Sign mark.LessEqual
binary_sign binary.Greater = Sign mark.Greater
binary_sign binary.GreaterEqual = Sign mark.GreaterEqual
binary_sign binary.And = Key key.And
binary_sign binary.Or = Key key.Or
binary_sign binary.ExclusiveOr = Key key.Xor

abbrev pub form_sign : LocationForm → Terminal
form_sign Pointer = Sign mark.AtSign
form_sign Offset = Sign mark.Period

abbrev pub scalar_key : Scalar → Terminal
scalar_key scalar.Byte = Key key.Byte
scalar_key scalar.Word = Key key.Word
scalar_key scalar.Address = Key key.Address
scalar_key scalar.Pointer = Key key.Pointer
scalar_key scalar.Integer = Key key.Integer

-- the last label, if there is one
abbrev pub last_name : NamesT → Option NameT
last_name no_names = None
last_name (names ns n) = Some n

-- what the first leaf after a statement's labels opens up to, where its first leaf opens up to m
abbrev pub behind_labels : ℕ → NamesT → ℕ
behind_labels m no_names = m
behind_labels m (names ns n) = 0

-- Each function puts the leaves of a part before what follows it. It is told how many levels are open around the part (d), and where the
-- part can begin an arm of an IF, how many levels its first leaf opens up to (m: 0 if it opens none).
module _ {A : Type 0} (put : Leaf → ℕ → A → A) where
  -- a token that opens no level
  abbrev pub tok : Terminal → A → A
  tok t r = put (leaf t) 0 r

  abbrev pub sign : Mark → A → A
  sign m r = tok (Sign m) r

  abbrev pub word : Keyword → A → A
  word k r = tok (Key k) r

  abbrev mutual
    pub expression : ℕ → ExpressionT → A → A
    expression d (NumeralE n) r = tok (Numeral n) r
    expression d (TextE s) r = tok (Text s) r
    expression d (ReferenceE x) r = reference 0 d x r
    expression d (LocationE l) r = location d l r
    expression d (ParenthesisedE p e) r = put (leaf_at (Sign mark.LeftParenthesis) p) (suc d) (expression (suc d) e (sign mark.RightParenthesis r))
    expression d (EmbeddedE p x e) r = put (leaf_at (Sign mark.LeftParenthesis) p) (suc d) (reference 0 (suc d) x (sign mark.Assign (expression (suc d) e (sign mark.RightParenthesis r))))
    expression d (UnaryE p o e) r = put (leaf_at (unary_sign o) p) (suc d) (expression (suc d) e r)
    expression d (BinaryE p o a b) r = expression d a (put (leaf_at (binary_sign o) p) 0 (expression d b r))

    pub reference : ℕ → ℕ → ReferenceT → A → A
    reference m d (ReferenceOf n es s) r = put (leaf (Name n)) m (subscripts d es (selector d s r))

    pub subscripts : ℕ → ExpressionsT → A → A
    subscripts d no_expressions r = r
    subscripts d (expressions es e) r = put (leaf (Sign mark.LeftParenthesis)) (suc d) (listed (suc d) es (expression (suc d) e (sign mark.RightParenthesis r)))

    -- expressions, each with a comma after it
    pub listed : ℕ → ExpressionsT → A → A
    listed d no_expressions r = r
    listed d (expressions es e) r = listed d es (expression d e (sign mark.Comma r))

    pub selector : ℕ → SelectorT → A → A
    selector d no_member r = r
    selector d (member n) r = sign mark.Period (tok (Name n) r)
    selector d (member_at n e) r = sign mark.Period (tok (Name n) (put (leaf (Sign mark.LeftParenthesis)) (suc d) (expression (suc d) e (sign mark.RightParenthesis r))))

    pub location : ℕ → LocationT → A → A
    location d (LocationOf p f x) r = put (leaf_at (form_sign f) p) 0 (reference 0 d x r)
    location d (ConstantsOf p f vs) r = put (leaf_at (form_sign f) p) 0 (put (leaf (Sign mark.LeftParenthesis)) (suc d) (value_list (suc d) vs (sign mark.RightParenthesis r)))

    pub value : ℕ → ValueT → A → A
    value d (NumeralV n) r = tok (Numeral n) r
    value d (NegativeV n) r = sign mark.Minus (tok (Numeral n) r)
    value d (TextV s) r = tok (Text s) r
    value d (LocationV l) r = location d l r

    -- values, parted by commas
    pub value_list : ℕ → ValuesT → A → A
    value_list d no_values r = r
    value_list d (values vs v) r = listed_values d vs (value d v r)

    -- values, each with a comma after it
    pub listed_values : ℕ → ValuesT → A → A
    listed_values d no_values r = r
    listed_values d (values vs v) r = listed_values d vs (value d v (sign mark.Comma r))

  -- names, each with a comma after it
  abbrev pub listed_names : NamesT → A → A
  listed_names no_names r = r
  listed_names (names ns n) r = listed_names ns (tok (Name n) (sign mark.Comma r))

  abbrev pub name_list : NamesT → A → A
  name_list no_names r = r
  name_list (names ns n) r = listed_names ns (tok (Name n) r)

  abbrev pub parenthesised_names : NamesT → A → A
  parenthesised_names no_names r = r
  parenthesised_names ns r = sign mark.LeftParenthesis (name_list ns (sign mark.RightParenthesis r))

  abbrev pub base : Option NameT → A → A
  base None r = r
  base (Some n) r = word key.Based (tok (Name n) r)

  abbrev pub variable : VariableT → A → A
  variable (VariableOf n b) r = tok (Name n) (base b r)

  abbrev pub listed_variables : VariablesT → A → A
  listed_variables no_variables r = r
  listed_variables (variables vs v) r = listed_variables vs (variable v (sign mark.Comma r))

  abbrev pub variable_list : VariablesT → A → A
  variable_list no_variables r = r
  variable_list (variables vs v) r = listed_variables vs (variable v r)

  abbrev pub declared : DeclaredT → A → A
  declared (OneVariable v) r = variable v r
  declared (VariableList vs) r = sign mark.LeftParenthesis (variable_list vs (sign mark.RightParenthesis r))

  abbrev pub in_parentheses : Terminal → A → A
  in_parentheses t r = sign mark.LeftParenthesis (tok t (sign mark.RightParenthesis r))

  abbrev pub dimension_leaves : DimensionT → A → A
  dimension_leaves no_dimension r = r
  dimension_leaves (dimension n) r = in_parentheses (Numeral n) r
  dimension_leaves implicit_dimension r = in_parentheses (Sign mark.Star) r

  abbrev pub count : Option NumeralT → A → A
  count None r = r
  count (Some n) r = in_parentheses (Numeral n) r

  abbrev pub member_leaves : MemberT → A → A
  member_leaves (OneMember n c s) r = tok (Name n) (count c (tok (scalar_key s) r))
  member_leaves (MemberList ns c s) r = sign mark.LeftParenthesis (name_list ns (sign mark.RightParenthesis (count c (tok (scalar_key s) r))))

  abbrev pub listed_members : MembersT → A → A
  listed_members no_members r = r
  listed_members (members ms m) r = listed_members ms (member_leaves m (sign mark.Comma r))

  abbrev pub member_list : MembersT → A → A
  member_list no_members r = r
  member_list (members ms m) r = listed_members ms (member_leaves m r)

  abbrev pub type_leaves : TypeT → A → A
  type_leaves (ScalarType s) r = tok (scalar_key s) r
  type_leaves (StructureType ms) r = word key.Structure (sign mark.LeftParenthesis (member_list ms (sign mark.RightParenthesis r)))

  abbrev pub at_leaves : ℕ → AtT → A → A
  at_leaves d no_at r = r
  at_leaves d (at_number n) r = word key.At (in_parentheses (Numeral n) r)
  at_leaves d (at_location l) r = word key.At (sign mark.LeftParenthesis (location d l (sign mark.RightParenthesis r)))

  abbrev pub initial_leaves : ℕ → InitialT → A → A
  initial_leaves d no_initial r = r
  initial_leaves d (initial vs) r = word key.Initial (sign mark.LeftParenthesis (value_list d vs (sign mark.RightParenthesis r)))
  initial_leaves d (constant_data vs) r = word key.Data (sign mark.LeftParenthesis (value_list d vs (sign mark.RightParenthesis r)))

  abbrev pub public : Bool → A → A
  public true r = word key.Public r
  public false r = r

  abbrev pub attributes : ℕ → AttributesT → A → A
  attributes d External r = word key.External r
  attributes d (Attributes p a i) r = public p (at_leaves d a (initial_leaves d i r))

  abbrev pub element : ℕ → ElementT → A → A
  element d (LiteralElement n s) r = tok (Name n) (word key.Literally (tok (Text s) r))
  element d (VariableElement v c t a) r = declared v (dimension_leaves c (type_leaves t (attributes d a r)))

  abbrev pub listed_elements : ℕ → ElementsT → A → A
  listed_elements d no_elements r = r
  listed_elements d (elements es e) r = listed_elements d es (element d e (sign mark.Comma r))

  abbrev pub element_list : ℕ → ElementsT → A → A
  element_list d no_elements r = r
  element_list d (elements es e) r = listed_elements d es (element d e r)

  abbrev pub returned : Option Scalar → A → A
  returned None r = r
  returned (Some s) r = tok (scalar_key s) r

  abbrev pub interrupt : Option NumeralT → A → A
  interrupt None r = r
  interrupt (Some n) r = word key.Interrupt (tok (Numeral n) r)

  abbrev pub linkage : LinkageT → A → A
  linkage no_linkage r = r
  linkage public_linkage r = word key.Public r
  linkage external_linkage r = word key.External r

  -- the end of a block, with its name where it stands there
  abbrev pub ending : Option NameT → A → A
  ending None r = word key.End (sign mark.Semicolon r)
  ending (Some n) r = word key.End (tok (Name n) (sign mark.Semicolon r))

  abbrev pub listed_references : ℕ → ℕ → ReferencesT → A → A
  listed_references m d no_references r = r
  listed_references m d (references no_references x) r = reference m d x (sign mark.Comma r)
  listed_references m d (references (references xs y) x) r = listed_references m d (references xs y) (reference 0 d x (sign mark.Comma r))

  abbrev pub targets : ℕ → ℕ → ReferencesT → A → A
  targets m d no_references r = r
  targets m d (references no_references x) r = reference m d x r
  targets m d (references (references xs y) x) r = listed_references m d (references xs y) (reference 0 d x r)

  abbrev pub labels : ℕ → NamesT → A → A
  labels m no_names r = r
  labels m (names no_names n) r = put (leaf (Name n)) m (sign mark.Colon r)
  labels m (names (names ns l) n) r = labels m (names ns l) (tok (Name n) (sign mark.Colon r))

  abbrev pub step : ℕ → Option ExpressionT → A → A
  step d None r = r
  step d (Some e) r = word key.By (expression d e r)

  abbrev mutual
    pub statement : ℕ → ℕ → StatementT → A → A
    statement m d (Labelled ns b) r = labels m ns (basic (behind_labels m ns) d b r)

    pub basic : ℕ → ℕ → BasicT → A → A
    basic m d (EmptyS p) r = put (leaf_at (Sign mark.Semicolon) p) m r
    basic m d (AssignS xs e) r = targets m d xs (sign mark.Equal (expression d e (sign mark.Semicolon r)))
    basic m d (CallS p x) r = put (leaf_at (Key key.Call) p) m (reference 0 d x (sign mark.Semicolon r))
    basic m d (ReturnS p) r = put (leaf_at (Key key.Return) p) m (sign mark.Semicolon r)
    basic m d (ReturnValueS p e) r = put (leaf_at (Key key.Return) p) m (expression d e (sign mark.Semicolon r))
    basic m d (EnableS p) r = put (leaf_at (Key key.Enable) p) m (sign mark.Semicolon r)
    basic m d (DisableS p) r = put (leaf_at (Key key.Disable) p) m (sign mark.Semicolon r)
    basic m d (HaltS p) r = put (leaf_at (Key key.Halt) p) m (sign mark.Semicolon r)
    basic m d (IfS p e s) r = put (leaf_at (Key key.If) p) m (expression d e (word key.Then (statement (suc d) (suc d) s r)))
    basic m d (IfElseS p e s t) r = put (leaf_at (Key key.If) p) m (expression d e (word key.Then (statement (suc d) (suc d) s (word key.Else (statement (suc d) (suc d) t r)))))
    basic m d (DoS p b n) r = put (leaf_at (Key key.Do) p) (suc d) (sign mark.Semicolon (block (suc d) b (ending n r)))
    basic m d (WhileS p e ss n) r = put (leaf_at (Key key.Do) p) (suc d) (word key.While (expression (suc d) e (sign mark.Semicolon (statement_list (suc d) ss (ending n r)))))
    basic m d (CaseS p e ss n) r = put (leaf_at (Key key.Do) p) (suc d) (word key.Case (expression (suc d) e (sign mark.Semicolon (statement_list (suc d) ss (ending n r)))))
    basic m d (IterateS p i a b s ss n) r = put (leaf_at (Key key.Do) p) (suc d) (tok (Name i) (sign mark.Equal (expression (suc d) a (word key.To (expression (suc d) b (step (suc d) s (sign mark.Semicolon (statement_list (suc d) ss (ending n r)))))))))

    pub statement_list : ℕ → StatementsT → A → A
    statement_list d no_statements r = r
    statement_list d (statements ss s) r = statement_list d ss (statement 0 d s r)

    pub block : ℕ → BlockT → A → A
    block d (BlockOf is ss) r = item_list d is (statement_list d ss r)

    pub item_list : ℕ → ItemsT → A → A
    item_list d no_items r = r
    item_list d (items is i) r = item_list d is (item d i r)

    pub item : ℕ → ItemT → A → A
    item d (DeclareI p es) r = put (leaf_at (Key key.Declare) p) 0 (element_list d es (sign mark.Semicolon r))
    -- a procedure's level is counted from the word PROCEDURE on
    item d (ProcedureI n ps s i l b e) r = tok (Name n) (sign mark.Colon (put (leaf (Key key.Procedure)) (suc d) (parenthesised_names ps (returned s (interrupt i (linkage l (sign mark.Semicolon (block (suc d) b (ending e r)))))))))

  -- a module, and the end of the text
  abbrev pub module_leaves : ℕ → ModuleT → A → A
  module_leaves d (ModuleOf n b e) r = tok (Name n) (sign mark.Colon (put (leaf (Key key.Do)) (suc d) (sign mark.Semicolon (block (suc d) b (ending e (tok Finish r))))))

-- the leaves alone, and the levels alone
abbrev pub put_leaf : Leaf → ℕ → List Leaf → List Leaf
put_leaf l n ls = l ∷ ls

abbrev pub put_level : Leaf → ℕ → List ℕ → List ℕ
put_level l n ns = n ∷ ns

-- A module's leaves, the end of the text last.
abbrev pub leaves_of : ModuleT → List Leaf
leaves_of m = module_leaves put_leaf 0 m []

-- For each leaf of a module: how many levels are open with it where it opens one, else 0.
abbrev pub levels_of : ModuleT → List ℕ
levels_of m = module_leaves put_level 0 m []
