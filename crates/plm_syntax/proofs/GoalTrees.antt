-- What each goal of the machine stands for, in trees.
use Rattle.std.proofs.Common.{◌≡◌, ℕ, zero, suc, ◌≤◌, List, [], ◌∷◌, ◌++◌, Bool, true, false, cond, Option, Some, None, refl, sym, ap, ◌∙◌, subst}
use Rattle.std.proofs.lemmas.Option.{same_Some}
use Rattle.plm_token.specs.declared.token.Keyword.{Keyword}
use Rattle.plm_token.specs.declared.token.Keyword.TheVariants as key
use Rattle.plm_token.specs.declared.token.Mark.{Mark}
use Rattle.plm_token.specs.declared.token.Mark.TheVariants as mark
use Rattle.plm_syntax.specs.declared.tree.Position.{Position}
use Rattle.plm_syntax.specs.declared.tree.Scalar.{Scalar}
use Rattle.plm_syntax.specs.Terminal.{NameT, NumeralT, Terminal, Name, Numeral, Text, Key, Sign, Finish, Leaf, leaf, leaf_at, key_number, is_key}
use Rattle.plm_syntax.specs.Inner.Terminal.{sign_number, is_sign, is_same}
use Rattle.plm_syntax.specs.Tree.{ExpressionT, ReferenceT, ExpressionsT, SelectorT, LocationT, ValueT, ValuesT, NamesT, VariableT, VariablesT, DimensionT, MemberT, MembersT, TypeT, StructureType, AtT, no_at, at_number, at_location, InitialT, AttributesT, ElementT, ElementsT, LinkageT, ReferencesT, StatementT, BasicT, DoS, WhileS, CaseS, IterateS, StatementsT, BlockOf, ItemsT, ModuleT}
use Rattle.plm_syntax.specs.Spelling.{form_sign, scalar_key, last_name, behind_labels, expression, reference, subscripts, listed, selector, location, value, value_list, name_list, parenthesised_names, base, variable, variable_list, dimension_leaves, count, member_leaves, member_list, type_leaves, at_leaves, initial_leaves, attributes, element, element_list, returned, interrupt, linkage, ending, listed_references, targets, labels, step, statement, statement_list, block, item_list, module_leaves, put_leaf}
use Rattle.plm_syntax.specs.WellFormed.{precedence, Well, WellReference, WellExpressions, WellSelector, WellLocation, WellValue, WellValues, HasNames, HasVariables, WellMember, WellType, WellAt, WellInitial, WellAttributes, WellElement, WellElements, WellTargets, WellStep, ends_open, WellEnd, WellStatement, WellStatements, WellItems, WellModule}
use Rattle.plm_syntax.specs.Inner.Symbol.{Precedence, Goal, Symbol, depth_on, Rule, behind, otherwise, before, Relations, PrimaryG, SignedG, NegationG, MoreG, InsideG, AfterReferenceG, SubscriptsG, MoreSubscriptsG, SelectorG, MemberG, MemberSubscriptG, LocatedG, ValueG, NegativeG, MoreValuesG, StatementG, LeadG, TargetG, MoreTargetsG, CalledG, ReturnedG, ArmG, OtherwiseG, DoG, StepG, StatementsG, EndG, ItemsG, ItemLeadG, ItemColonG, ParametersG, ParameterG, MoreParametersG, ReturnedTypeG, InterruptG, InterruptNumberG, LinkageG, ElementG, ElementLeadG, LiteralTextG, VariableG, MoreVariablesG, BasedG, BaseG, DimensionG, DimensionBodyG, TypeG, MemberOfG, MemberNameG, MoreMemberNamesG, CountG, CountNumberG, MemberTypeG, MoreMembersG, AttributesG, AtG, AtBodyG, InitialG, MoreElementsG, ModuleG, StartG, Need, Want, Do, Leave, Refused, Over, Take, Keep}
use Rattle.plm_syntax.specs.Inner.Machine.{number_of}
use Rattle.std.specs.Prelude.{nat_eq}
use Rattle.std.proofs.lemmas.Bool.{eqb-true}
use Rattle.plm_syntax.proofs.Steps.{IsDecided}

-- Leaves that are those of a part, then some of which K holds.
pub record An (A : Type 0) (Ok : A → Type 0) (leaves : A → List Leaf → List Leaf) (K : List Leaf → Type 0) (ls : List Leaf) : Type 0 where
  pub part : A
  pub rest : List Leaf
  pub ok : Ok part
  pub is : ls ≡ leaves part rest
  pub goes : K rest

abbrev pub Any : {A : Type 0} → A → Type 0
Any x = Unit {0}

-- ---- parts that have no tree of their own

-- what stands after "(" of an expression
pub data Inner : Type 0 where
  Nested : ExpressionT → Inner
  Stored : ReferenceT → ExpressionT → Inner

abbrev pub inner : ℕ → Inner → List Leaf → List Leaf
inner d (Nested e) r = expression put_leaf d e (leaf (Sign mark.RightParenthesis) ∷ r)
inner d (Stored x e) r = reference put_leaf 0 d x (leaf (Sign mark.Assign) ∷ expression put_leaf d e (leaf (Sign mark.RightParenthesis) ∷ r))

abbrev pub WellInner : Inner → Type 0
WellInner (Nested e) = Well e
WellInner (Stored x e) = WellReference x × Well e

-- expressions after "(" of subscripts
pub record Several : Type 0 where
  pub front : ExpressionsT
  pub last : ExpressionT

abbrev pub several_leaves : ℕ → Several → List Leaf → List Leaf
several_leaves d es r = listed put_leaf d es.front (expression put_leaf d es.last r)

abbrev pub WellSeveral : Several → Type 0
WellSeveral es = WellExpressions es.front × Well es.last

-- after DO
pub data Group : Type 0 where
  PlainDo : ItemsT → StatementsT → Option NameT → Group
  WhileDo : ExpressionT → StatementsT → Option NameT → Group
  CaseDo : ExpressionT → StatementsT → Option NameT → Group
  IterateDo : NameT → ExpressionT → ExpressionT → Option ExpressionT → StatementsT → Option NameT → Group

abbrev pub group_leaves : ℕ → Group → List Leaf → List Leaf
group_leaves d (PlainDo is ss n) r = leaf (Sign mark.Semicolon) ∷ block put_leaf d (BlockOf is ss) (ending put_leaf n r)
group_leaves d (WhileDo e ss n) r = leaf (Key key.While) ∷ expression put_leaf d e (leaf (Sign mark.Semicolon) ∷ statement_list put_leaf d ss (ending put_leaf n r))
group_leaves d (CaseDo e ss n) r = leaf (Key key.Case) ∷ expression put_leaf d e (leaf (Sign mark.Semicolon) ∷ statement_list put_leaf d ss (ending put_leaf n r))
group_leaves d (IterateDo i a b t ss n) r = leaf (Name i) ∷ leaf (Sign mark.Equal) ∷ expression put_leaf d a (leaf (Key key.To) ∷ expression put_leaf d b (step put_leaf d t (leaf (Sign mark.Semicolon) ∷ statement_list put_leaf d ss (ending put_leaf n r))))

abbrev pub group_statement : Position → Group → BasicT
group_statement p (PlainDo is ss n) = DoS p (BlockOf is ss) n
group_statement p (WhileDo e ss n) = WhileS p e ss n
group_statement p (CaseDo e ss n) = CaseS p e ss n
group_statement p (IterateDo i a b t ss n) = IterateS p i a b t ss n

abbrev pub WellGroup : Option NameT → Group → Type 0
WellGroup lab (PlainDo is ss n) = (WellItems is × WellStatements ss) × WellEnd lab n
WellGroup lab (WhileDo e ss n) = Well e × WellStatements ss × WellEnd lab n
WellGroup lab (CaseDo e ss n) = Well e × WellStatements ss × WellEnd lab n
WellGroup lab (IterateDo i a b t ss n) = Well a × Well b × WellStep t × WellStatements ss × WellEnd lab n

-- statements and the end after them
pub record Ended_statements : Type 0 where
  pub list : StatementsT
  pub name : Option NameT

abbrev pub ended_leaves : ℕ → Ended_statements → List Leaf → List Leaf
ended_leaves d b r = statement_list put_leaf d b.list (ending put_leaf b.name r)

abbrev pub WellEnded : Option NameT → Ended_statements → Type 0
WellEnded lab b = WellStatements b.list × WellEnd lab b.name

-- a block and the end after it
pub record Ended_block : Type 0 where
  pub front : ItemsT
  pub list : StatementsT
  pub name : Option NameT

abbrev pub block_leaves : ℕ → Ended_block → List Leaf → List Leaf
block_leaves d b r = item_list put_leaf d b.front (statement_list put_leaf d b.list (ending put_leaf b.name r))

abbrev pub WellEndedBlock : Option NameT → Ended_block → Type 0
WellEndedBlock lab b = WellItems b.front × WellStatements b.list × WellEnd lab b.name

-- after "(" of AT
abbrev pub at_body_leaves : ℕ → AtT → List Leaf → List Leaf
at_body_leaves d no_at r = r
at_body_leaves d (at_number n) r = leaf (Numeral n) ∷ r
at_body_leaves d (at_location l) r = location put_leaf d l r

abbrev pub WellAtBody : AtT → Type 0
WellAtBody no_at = ⊥
WellAtBody (at_number n) = Unit {0}
WellAtBody (at_location l) = WellLocation l

-- ---- statements

abbrev pub begins_else : List Leaf → Bool
begins_else [] = false
begins_else (l ∷ ls) = is_key key.Else l.terminal

-- a statement, which does not end in an open IF where ELSE follows
pub record AStatement (m d : ℕ) (K : List Leaf → Type 0) (ls : List Leaf) : Type 0 where
  pub part : StatementT
  pub rest : List Leaf
  pub ok : WellStatement part
  pub is : ls ≡ statement put_leaf m d part rest
  pub closed : begins_else rest ≡ true → ends_open part ≡ false
  pub goes : K rest

-- what stands after a THEN part
pub data Otherwise (d : ℕ) (K : List Leaf → Type 0) (ls : List Leaf) : Type 0 where
  without : begins_else ls ≡ false → K ls → Otherwise d K ls
  with_else : (us : List Leaf) → ls ≡ leaf (Key key.Else) ∷ us → AStatement (suc d) (suc d) K us → Otherwise d K ls

abbrev pub left_of : Precedence → ℕ
left_of Relations = 3
left_of l = number_of l

-- ---- what each goal stands for, d levels deep, where K holds of what follows

abbrev pub Means : Goal → ℕ → (List Leaf → Type 0) → List Leaf → Type 0
Means PrimaryG d K ls = An ExpressionT (λ e. (precedence e ≤ 0) × Well e) (expression put_leaf d) K ls
Means SignedG d K ls = An ExpressionT (λ e. (precedence e ≤ 1) × Well e) (expression put_leaf d) K ls
Means NegationG d K ls = An ExpressionT (λ e. (precedence e ≤ 5) × Well e) (expression put_leaf d) K ls
Means (MoreG l) d K ls = (e : ExpressionT) → precedence e ≤ left_of l → Well e → An ExpressionT (λ f. (precedence f ≤ number_of l) × Well f) (expression put_leaf d) K (expression put_leaf d e ls)
Means (InsideG p) d K ls = An Inner WellInner (inner d) K ls
Means (AfterReferenceG p) d K ls = (x : ReferenceT) → WellReference x → An Inner WellInner (inner d) K (reference put_leaf 0 d x ls)
Means SubscriptsG d K ls = An ExpressionsT WellExpressions (subscripts put_leaf d) K ls
Means MoreSubscriptsG d K ls = (es : Several) → WellSeveral es → An Several WellSeveral (λ es r. several_leaves d es (leaf (Sign mark.RightParenthesis) ∷ r)) K (several_leaves d es ls)
Means SelectorG d K ls = An SelectorT WellSelector (selector put_leaf d) K ls
Means MemberG d K ls = An SelectorT WellSelector (selector put_leaf d) K (leaf (Sign mark.Period) ∷ ls)
Means MemberSubscriptG d K ls = (n : NameT) → An SelectorT WellSelector (selector put_leaf d) K (leaf (Sign mark.Period) ∷ leaf (Name n) ∷ ls)
Means (LocatedG p f) d K ls = An LocationT WellLocation (location put_leaf d) K (leaf_at (form_sign f) p ∷ ls)
Means ValueG d K ls = An ValueT WellValue (value put_leaf d) K ls
Means NegativeG d K ls = An ValueT WellValue (value put_leaf d) K (leaf (Sign mark.Minus) ∷ ls)
Means MoreValuesG d K ls = (vs : ValuesT) → WellValues vs → An ValuesT WellValues (λ vs r. value_list put_leaf d vs (leaf (Sign mark.RightParenthesis) ∷ r)) K (value_list put_leaf d vs ls)
Means (StatementG lab) d K ls = (m : ℕ) (ns : NamesT) → last_name ns ≡ lab → AStatement m d K (labels put_leaf m ns ls)
Means (LeadG n) d K ls = (m : ℕ) (ns : NamesT) → AStatement m d K (labels put_leaf m ns (leaf (Name n) ∷ ls))
Means TargetG d K ls = (m : ℕ) (ns : NamesT) (xs : ReferencesT) → WellTargets xs → AStatement m d K (labels put_leaf m ns (listed_references put_leaf (behind_labels m ns) d xs ls))
Means MoreTargetsG d K ls = (m : ℕ) (ns : NamesT) (xs : ReferencesT) → WellTargets xs → AStatement m d K (labels put_leaf m ns (targets put_leaf (behind_labels m ns) d xs ls))
Means CalledG d K ls = An ReferenceT WellReference (reference put_leaf 0 d) K ls
Means (ReturnedG p) d K ls = (m : ℕ) (ns : NamesT) → AStatement m d K (labels put_leaf m ns (leaf_at (Key key.Return) p ∷ ls))
Means ArmG d K ls = AStatement (suc d) (suc d) K ls
Means OtherwiseG d K ls = Otherwise d K ls
Means (DoG p lab) d K ls = An Group (WellGroup lab) (group_leaves d) K ls
Means StepG d K ls = An (Option ExpressionT) WellStep (step put_leaf d) K ls
Means (StatementsG lab) d K ls = (ss : StatementsT) → WellStatements ss → An Ended_statements (WellEnded lab) (ended_leaves d) K (statement_list put_leaf d ss ls)
Means (EndG lab) d K ls = An (Option NameT) (WellEnd lab) (ending put_leaf) K (leaf (Key key.End) ∷ ls)
Means (ItemsG lab) d K ls = (is : ItemsT) → WellItems is → An Ended_block (WellEndedBlock lab) (block_leaves d) K (item_list put_leaf d is ls)
Means (ItemLeadG n lab) d K ls = (is : ItemsT) → WellItems is → An Ended_block (WellEndedBlock lab) (block_leaves d) K (item_list put_leaf d is (leaf (Name n) ∷ ls))
Means (ItemColonG n lab) d K ls = (is : ItemsT) → WellItems is → An Ended_block (WellEndedBlock lab) (block_leaves d) K (item_list put_leaf d is (leaf (Name n) ∷ leaf (Sign mark.Colon) ∷ ls))
Means ParametersG d K ls = An NamesT Any (parenthesised_names put_leaf) K ls
Means ParameterG d K ls = An NameT Any (λ n r. leaf (Name n) ∷ r) K ls
Means MoreParametersG d K ls = (ns : NamesT) → HasNames ns → An NamesT HasNames (λ ns r. name_list put_leaf ns (leaf (Sign mark.RightParenthesis) ∷ r)) K (name_list put_leaf ns ls)
Means ReturnedTypeG d K ls = An (Option Scalar) Any (returned put_leaf) K ls
Means InterruptG d K ls = An (Option NumeralT) Any (interrupt put_leaf) K ls
Means InterruptNumberG d K ls = An (Option NumeralT) Any (interrupt put_leaf) K (leaf (Key key.Interrupt) ∷ ls)
Means LinkageG d K ls = An LinkageT Any (linkage put_leaf) K ls
Means ElementG d K ls = An ElementT WellElement (element put_leaf d) K ls
Means ElementLeadG d K ls = (n : NameT) → An ElementT WellElement (element put_leaf d) K (leaf (Name n) ∷ ls)
Means LiteralTextG d K ls = (n : NameT) → An ElementT WellElement (element put_leaf d) K (leaf (Name n) ∷ leaf (Key key.Literally) ∷ ls)
Means VariableG d K ls = An VariableT Any (variable put_leaf) K ls
Means MoreVariablesG d K ls = (xs : VariablesT) → HasVariables xs → An VariablesT HasVariables (λ xs r. variable_list put_leaf xs (leaf (Sign mark.RightParenthesis) ∷ r)) K (variable_list put_leaf xs ls)
Means BasedG d K ls = An (Option NameT) Any (base put_leaf) K ls
Means BaseG d K ls = An (Option NameT) Any (base put_leaf) K (leaf (Key key.Based) ∷ ls)
Means DimensionG d K ls = An DimensionT Any (dimension_leaves put_leaf) K ls
Means DimensionBodyG d K ls = An DimensionT Any (dimension_leaves put_leaf) K (leaf (Sign mark.LeftParenthesis) ∷ ls)
Means TypeG d K ls = An TypeT WellType (type_leaves put_leaf) K ls
Means MemberOfG d K ls = An MemberT WellMember (member_leaves put_leaf) K ls
Means MemberNameG d K ls = An NameT Any (λ n r. leaf (Name n) ∷ r) K ls
Means MoreMemberNamesG d K ls = (ns : NamesT) → HasNames ns → An NamesT HasNames (λ ns r. name_list put_leaf ns (leaf (Sign mark.RightParenthesis) ∷ r)) K (name_list put_leaf ns ls)
Means CountG d K ls = An (Option NumeralT) Any (count put_leaf) K ls
Means CountNumberG d K ls = An (Option NumeralT) Any (count put_leaf) K (leaf (Sign mark.LeftParenthesis) ∷ ls)
Means MemberTypeG d K ls = An Scalar Any (λ t r. leaf (scalar_key t) ∷ r) K ls
Means MoreMembersG d K ls = (ms : MembersT) → WellType (StructureType ms) → An MembersT (λ ms. WellType (StructureType ms)) (λ ms r. member_list put_leaf ms (leaf (Sign mark.RightParenthesis) ∷ r)) K (member_list put_leaf ms ls)
Means AttributesG d K ls = An AttributesT WellAttributes (attributes put_leaf d) K ls
Means AtG d K ls = An AtT WellAt (at_leaves put_leaf d) K ls
Means AtBodyG d K ls = An AtT WellAtBody (at_body_leaves d) K ls
Means InitialG d K ls = An InitialT WellInitial (initial_leaves put_leaf d) K ls
Means MoreElementsG d K ls = (es : ElementsT) → WellElements es → An ElementsT WellElements (λ es r. element_list put_leaf d es (leaf (Sign mark.Semicolon) ∷ r)) K (element_list put_leaf d es ls)
Means (ModuleG n) d K ls = An ModuleT WellModule (module_leaves put_leaf d) K (leaf (Name n) ∷ leaf (Sign mark.Colon) ∷ ls)
Means StartG d K ls = An ModuleT WellModule (module_leaves put_leaf d) K ls

-- one token, then leaves of which K holds
pub record Token_then (t : Terminal) (K : List Leaf → Type 0) (ls : List Leaf) : Type 0 where
  pub rest : List Leaf
  pub is : ls ≡ leaf t ∷ rest
  pub goes : K rest

-- the leaves that a stack stands for
abbrev pub Awaits : List Symbol → ℕ → (List Leaf → Type 0) → List Leaf → Type 0
Awaits [] d K ls = K ls
Awaits (Need t ∷ s) d K ls = Token_then t (Awaits s d K) ls
Awaits (Want g ∷ s) d K ls = Means g (depth_on s d) (Awaits s d K) ls
Awaits (Do a ∷ s) d K ls = Awaits s d K ls
Awaits (Leave ∷ s) d K ls = Awaits s d K ls

-- What a rule says of a goal: where its symbols stand for what follows the token, the goal stands for the token and that.
abbrev pub Says : (List Leaf → Type 0) → ℕ → (List Leaf → Type 0) → Terminal → Rule → Type 0
Says M d K t Refused = Unit {0}
Says M d K t Over = (l : Leaf) (ls : List Leaf) → l.terminal ≡ t → K (l ∷ ls) → M (l ∷ ls)
Says M d K t (Take b q) = (ls : List Leaf) → Awaits q d K ls → M (leaf t ∷ ls)
Says M d K t (Keep b f) = (p : Position) (ls : List Leaf) → Awaits (f p) d K ls → M (leaf_at t p ∷ ls)

-- ---- stacks put together

pub depth_join : (a b : List Symbol) (d : ℕ) → depth_on (a ++ b) d ≡ depth_on a (depth_on b d)
depth_join [] b d = refl
depth_join (Need t ∷ a) b d = depth_join a b d
depth_join (Want g ∷ a) b d = depth_join a b d
depth_join (Do x ∷ a) b d = depth_join a b d
depth_join (Leave ∷ a) b d = ap suc (depth_join a b d)

pub awaits_join : (a b : List Symbol) (d : ℕ) (K : List Leaf → Type 0) → Awaits (a ++ b) d K ≡ Awaits a (depth_on b d) (Awaits b d K)
awaits_join [] b d K = refl
awaits_join (Need t ∷ a) b d K = ap (Token_then t) (awaits_join a b d K)
awaits_join (Want g ∷ a) b d K = ap (λ (n : ℕ). Means g n (Awaits (a ++ b) d K)) (depth_join a b d) ∙ ap (Means g (depth_on a (depth_on b d))) (awaits_join a b d K)
awaits_join (Do x ∷ a) b d K = awaits_join a b d K
awaits_join (Leave ∷ a) b d K = awaits_join a b d K

pub split : (a b : List Symbol) (d : ℕ) (K : List Leaf → Type 0) (ls : List Leaf) → Awaits (a ++ b) d K ls → Awaits a (depth_on b d) (Awaits b d K) ls
split a b d K ls h = subst (λ (P : List Leaf → Type 0). P ls) (awaits_join a b d K) h

pub joined : (a b : List Symbol) (d : ℕ) (K : List Leaf → Type 0) (ls : List Leaf) → Awaits a (depth_on b d) (Awaits b d K) ls → Awaits (a ++ b) d K ls
joined a b d K ls h = subst (λ (P : List Leaf → Type 0). P ls) (sym (awaits_join a b d K)) h

-- ---- tests

abbrev pub element_at : {A : Type 0} → ℕ → List A → Option A
element_at n [] = None
element_at zero (x ∷ xs) = Some x
element_at (suc n) (x ∷ xs) = element_at n xs

abbrev pub all_sign : List Mark
all_sign = mark.Equal ∷ mark.Period ∷ mark.Slash ∷ mark.LeftParenthesis ∷ mark.RightParenthesis ∷ mark.Plus ∷ mark.Minus ∷ mark.Star ∷ mark.Comma ∷ mark.Less ∷ mark.Greater ∷ mark.Colon ∷ mark.Semicolon ∷ mark.AtSign ∷ mark.NotEqual ∷ mark.LessEqual ∷ mark.GreaterEqual ∷ mark.Assign ∷ []

pub sign_found : (x : Mark) → element_at (sign_number x) all_sign ≡ Some x
sign_found mark.Equal = refl
sign_found mark.Period = refl
sign_found mark.Slash = refl
sign_found mark.LeftParenthesis = refl
sign_found mark.RightParenthesis = refl
sign_found mark.Plus = refl
sign_found mark.Minus = refl
sign_found mark.Star = refl
sign_found mark.Comma = refl
sign_found mark.Less = refl
sign_found mark.Greater = refl
sign_found mark.Colon = refl
sign_found mark.Semicolon = refl
sign_found mark.AtSign = refl
sign_found mark.NotEqual = refl
sign_found mark.LessEqual = refl
sign_found mark.GreaterEqual = refl
sign_found mark.Assign = refl

pub same_sign : (x y : Mark) → nat_eq (sign_number x) (sign_number y) ≡ true → x ≡ y
same_sign x y h = same_Some x y (sym (sign_found x) ∙ ap (λ (n : ℕ). element_at n all_sign) (eqb-true (sign_number x) (sign_number y) h) ∙ sign_found y)

abbrev pub all_key : List Keyword
all_key = key.Address ∷ key.And ∷ key.At ∷ key.Based ∷ key.By ∷ key.Byte ∷ key.Call ∷ key.Case ∷ key.Data ∷ key.Declare ∷ key.Disable ∷ key.Do ∷ key.Dword ∷ key.Else ∷ key.Enable ∷ key.End ∷ key.External ∷ key.Go ∷ key.Goto ∷ key.Halt ∷ key.If ∷ key.Initial ∷ key.Integer ∷ key.Interrupt ∷ key.Label ∷ key.Literally ∷ key.Minus ∷ key.Mod ∷ key.Not ∷ key.Or ∷ key.Plus ∷ key.Pointer ∷ key.Procedure ∷ key.Public ∷ key.Real ∷ key.Reentrant ∷ key.Return ∷ key.Selector ∷ key.Structure ∷ key.Then ∷ key.To ∷ key.While ∷ key.Word ∷ key.Xor ∷ []

pub key_found : (x : Keyword) → element_at (key_number x) all_key ≡ Some x
key_found key.Address = refl
key_found key.And = refl
key_found key.At = refl
key_found key.Based = refl
key_found key.By = refl
key_found key.Byte = refl
key_found key.Call = refl
key_found key.Case = refl
key_found key.Data = refl
key_found key.Declare = refl
key_found key.Disable = refl
key_found key.Do = refl
key_found key.Dword = refl
key_found key.Else = refl
key_found key.Enable = refl
key_found key.End = refl
key_found key.External = refl
key_found key.Go = refl
key_found key.Goto = refl
key_found key.Halt = refl
key_found key.If = refl
key_found key.Initial = refl
key_found key.Integer = refl
key_found key.Interrupt = refl
key_found key.Label = refl
key_found key.Literally = refl
key_found key.Minus = refl
key_found key.Mod = refl
key_found key.Not = refl
key_found key.Or = refl
key_found key.Plus = refl
key_found key.Pointer = refl
key_found key.Procedure = refl
key_found key.Public = refl
key_found key.Real = refl
key_found key.Reentrant = refl
key_found key.Return = refl
key_found key.Selector = refl
key_found key.Structure = refl
key_found key.Then = refl
key_found key.To = refl
key_found key.While = refl
key_found key.Word = refl
key_found key.Xor = refl

pub same_key : (x y : Keyword) → nat_eq (key_number x) (key_number y) ≡ true → x ≡ y
same_key x y h = same_Some x y (sym (key_found x) ∙ ap (λ (n : ℕ). element_at n all_key) (eqb-true (key_number x) (key_number y) h) ∙ key_found y)

pub sign_is : (m : Mark) (t : Terminal) → is_sign m t ≡ true → Sign m ≡ t
sign_is m (Sign n) h = ap Sign (same_sign m n h)
sign_is m (Name n) h = absurd cc
sign_is m (Numeral n) h = absurd cc
sign_is m (Text n) h = absurd cc
sign_is m (Key n) h = absurd cc
sign_is m Finish h = absurd cc

pub key_is : (k : Keyword) (t : Terminal) → is_key k t ≡ true → Key k ≡ t
key_is k (Key n) h = ap Key (same_key k n h)
key_is k (Name n) h = absurd cc
key_is k (Numeral n) h = absurd cc
key_is k (Text n) h = absurd cc
key_is k (Sign n) h = absurd cc
key_is k Finish h = absurd cc

pub same_is : (u t : Terminal) → is_same u t ≡ true → u ≡ t
same_is (Key k) t h = key_is k t h
same_is (Sign m) t h = sign_is m t h
same_is Finish Finish h = refl
same_is Finish (Name n) h = absurd cc
same_is Finish (Numeral n) h = absurd cc
same_is Finish (Text n) h = absurd cc
same_is Finish (Key n) h = absurd cc
same_is Finish (Sign n) h = absurd cc
same_is (Name n) t h = absurd cc
same_is (Numeral n) t h = absurd cc
same_is (Text n) t h = absurd cc

-- ---- rules put together

module _ (M : List Leaf → Type 0) (d : ℕ) (K : List Leaf → Type 0) where
  pub on_test : (t : Terminal) (b : Bool) (x y : Rule) → (b ≡ true → Says M d K t x) → (b ≡ false → Says M d K t y) → Says M d K t (cond b x y)
  on_test t true x y f g = f refl
  on_test t false x y f g = g refl

  -- a special token or a reserved word
  pub on_sign : (m : Mark) (t : Terminal) (x y : Rule) → Says M d K (Sign m) x → (is_sign m t ≡ false → Says M d K t y) → Says M d K t (cond (is_sign m t) x y)
  on_sign m t x y f g = on_test t (is_sign m t) x y (λ h. subst (λ (u : Terminal). Says M d K u x) (sign_is m t h) f) g

  pub on_key : (k : Keyword) (t : Terminal) (x y : Rule) → Says M d K (Key k) x → (is_key k t ≡ false → Says M d K t y) → Says M d K t (cond (is_key k t) x y)
  on_key k t x y f g = on_test t (is_key k t) x y (λ h. subst (λ (u : Terminal). Says M d K u x) (key_is k t h) f) g

  -- a rule of another goal, with symbols after
  pub on_behind : (N : List Leaf → Type 0) (t : Terminal) (a : List Symbol) (r : Rule) → Says N (depth_on a d) (Awaits a d K) t r → IsDecided r → ((ls : List Leaf) → N ls → M ls) → Says M d K t (behind r a)
  on_behind N t a Refused h i g = tt
  on_behind N t a Over h i g = absurd i
  on_behind N t a (Take b q) h i g = λ ls w. g (leaf t ∷ ls) (h ls (split q a d K ls w))
  on_behind N t a (Keep b f) h i g = λ p ls w. g (leaf_at t p ∷ ls) (h p ls (split (f p) a d K ls w))

  -- a rule that may be over, and what comes then
  pub on_otherwise : (N : List Leaf → Type 0) (t : Terminal) (a : List Symbol) (r x : Rule) → Says N (depth_on a d) (Awaits a d K) t r → ((ls : List Leaf) → N ls → M ls) → Says M d K t x → Says M d K t (otherwise (behind r a) x)
  on_otherwise N t a Refused x h g i = tt
  on_otherwise N t a Over x h g i = i
  on_otherwise N t a (Take b q) x h g i = λ ls w. g (leaf t ∷ ls) (h ls (split q a d K ls w))
  on_otherwise N t a (Keep b f) x h g i = λ p ls w. g (leaf_at t p ∷ ls) (h p ls (split (f p) a d K ls w))

  -- symbols in front that await nothing
  pub on_before : (t : Terminal) (s : List Symbol) (r : Rule) → ((q : List Symbol) (ls : List Leaf) → Awaits (s ++ q) d K ls → Awaits q d K ls) → Says M d K t r → Says M d K t (before s r)
  on_before t s Refused f h = tt
  on_before t s Over f h = h
  on_before t s (Take b q) f h = λ ls w. h ls (f q ls w)
  on_before t s (Keep b g) f h = λ p ls w. h p ls (f (g p) ls w)

  -- another goal of the same meaning
  pub on_same : (N : List Leaf → Type 0) (t : Terminal) (r : Rule) → ((ls : List Leaf) → N ls → M ls) → Says N d K t r → Says M d K t r
  on_same N t Refused f h = tt
  on_same N t Over f h = λ l ls e k. f (l ∷ ls) (h l ls e k)
  on_same N t (Take b q) f h = λ ls w. f (leaf t ∷ ls) (h ls w)
  on_same N t (Keep b g) f h = λ p ls w. f (leaf_at t p ∷ ls) (h p ls w)
