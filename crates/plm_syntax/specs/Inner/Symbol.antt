-- What the machine of proofs awaits, the trees that it has read, and what a rule says. No public clause speaks of it.
use Rattle.std.specs.Prelude.{ℕ, suc, List, [], ◌∷◌, ◌++◌, Bool, true, Option, Some}
use Rattle.plm_token.specs.declared.token.Mark.{Mark}
use Rattle.plm_syntax.specs.declared.tree.Position.{Position}
use Rattle.plm_syntax.specs.declared.tree.Scalar.{Scalar}
use Rattle.plm_syntax.specs.Terminal.{NameT, NumeralT, Terminal, Sign}
use Rattle.plm_syntax.specs.Tree.{LocationForm, ExpressionT, ExpressionsT, ValueT, ValuesT, NamesT, VariableT, VariablesT, DeclaredT, DimensionT, MemberT, MembersT, TypeT, AttributesT, ElementT, ElementsT, LinkageT, ReferencesT, StatementT, StatementsT, ItemsT, ModuleT}

-- ---- the trees read so far, the newest first

pub data Value : Type 0 where
  ExpressionR : ExpressionT → Value
  ExpressionsR : ExpressionsT → Value
  NameR : NameT → Value
  ValueR : ValueT → Value
  ValuesR : ValuesT → Value
  ReferencesR : ReferencesT → Value
  NamesR : NamesT → Value
  StatementR : StatementT → Value
  ArmsR : StatementT → StatementT → Value
  StatementsR : StatementsT → Value
  ItemsR : ItemsT → Value
  StepR : Option ExpressionT → Value
  EndR : Option NameT → Value
  VariableR : VariableT → Value
  VariablesR : VariablesT → Value
  DimensionR : DimensionT → Value
  CountR : Option NumeralT → Value
  MembersR : MembersT → Value
  MemberR : MemberT → Value
  TypeR : TypeT → Value
  AttributesR : AttributesT → Value
  ElementR : ElementT → Value
  ElementsR : ElementsT → Value
  DeclaredR : DeclaredT → Value
  -- the index and the bounds of DO .. TO
  RangeR : NameT → ExpressionT → ExpressionT → Value
  -- a procedure's name, parameters, type, interrupt and linkage
  HeaderR : NameT → NamesT → Option Scalar → Option NumeralT → LinkageT → Value
  ModuleR : ModuleT → Value

abbrev pub Action : Type 0
Action = List Value → Option (List Value)

-- ---- what is awaited

pub data Precedence : Type 0 where
  Products : Precedence
  Sums : Precedence
  Relations : Precedence
  Conjunctions : Precedence
  Disjunctions : Precedence

pub data Goal : Type 0 where
  PrimaryG : Goal
  SignedG : Goal
  NegationG : Goal
  -- the operators of one precedence, and their right operands
  MoreG : Precedence → Goal
  -- after "(" of an expression, and after the reference there
  InsideG : Position → Goal
  AfterReferenceG : Position → Goal
  SubscriptsG : Goal
  MoreSubscriptsG : Goal
  SelectorG : Goal
  MemberG : Goal
  MemberSubscriptG : Goal
  LocatedG : Position → LocationForm → Goal
  ValueG : Goal
  NegativeG : Goal
  MoreValuesG : Goal
  -- a statement, after a label where there is one
  StatementG : Option NameT → Goal
  LeadG : NameT → Goal
  TargetG : Goal
  MoreTargetsG : Goal
  CalledG : Goal
  ReturnedG : Position → Goal
  ArmG : Goal
  OtherwiseG : Goal
  DoG : Position → Option NameT → Goal
  StepG : Goal
  StatementsG : Option NameT → Goal
  EndG : Option NameT → Goal
  ItemsG : Option NameT → Goal
  ItemLeadG : NameT → Option NameT → Goal
  ItemColonG : NameT → Option NameT → Goal
  ParametersG : Goal
  ParameterG : Goal
  MoreParametersG : Goal
  ReturnedTypeG : Goal
  InterruptG : Goal
  InterruptNumberG : Goal
  LinkageG : Goal
  ElementG : Goal
  ElementLeadG : Goal
  LiteralTextG : Goal
  VariableG : Goal
  MoreVariablesG : Goal
  BasedG : Goal
  BaseG : Goal
  DimensionG : Goal
  DimensionBodyG : Goal
  TypeG : Goal
  MemberOfG : Goal
  MemberNameG : Goal
  MoreMemberNamesG : Goal
  CountG : Goal
  CountNumberG : Goal
  MemberTypeG : Goal
  MoreMembersG : Goal
  AttributesG : Goal
  AtG : Goal
  AtBodyG : Goal
  InitialG : Goal
  MoreElementsG : Goal
  ModuleG : NameT → Goal
  StartG : Goal

pub data Symbol : Type 0 where
  -- this reserved word, special token or end of the text
  Need : Terminal → Symbol
  Want : Goal → Symbol
  -- puts trees together
  Do : Action → Symbol
  -- closes a level
  Leave : Symbol

-- how many levels are open
abbrev pub depth_on : List Symbol → ℕ → ℕ
depth_on [] d = d
depth_on (Need t ∷ s) d = depth_on s d
depth_on (Want g ∷ s) d = depth_on s d
depth_on (Do a ∷ s) d = depth_on s d
depth_on (Leave ∷ s) d = suc (depth_on s d)

abbrev pub depth : List Symbol → ℕ
depth s = depth_on s 0

-- What a goal does with a token: refuses it, is over before it, or takes it and awaits symbols. True where the token opens a level.
pub data Rule : Type 0 where
  Refused : Rule
  Over : Rule
  Take : Bool → List Symbol → Rule
  -- the same, where the tree keeps the token's place
  Keep : Bool → (Position → List Symbol) → Rule

-- with further symbols after
abbrev pub behind : Rule → List Symbol → Rule
behind Refused s = Refused
behind Over s = Over
behind (Take b r) s = Take b (r ++ s)
behind (Keep b f) s = Keep b (λ p. f p ++ s)

-- the next goal's rule where a goal is over
abbrev pub otherwise : Rule → Rule → Rule
otherwise Refused r = Refused
otherwise Over r = r
otherwise (Take b s) r = Take b s
otherwise (Keep b f) r = Keep b f

-- with symbols in front, and with a level opened around it
abbrev pub before : List Symbol → Rule → Rule
before s Refused = Refused
before s Over = Over
before s (Take b r) = Take b (s ++ r)
before s (Keep b f) = Keep b (λ p. s ++ f p)

abbrev pub opened : Rule → Rule
opened Refused = Refused
opened Over = Over
opened (Take b r) = Take true (r ++ Leave ∷ [])
opened (Keep b f) = Keep true (λ p. f p ++ Leave ∷ [])

abbrev pub need : Mark → Symbol
need m = Need (Sign m)

abbrev pub push : Value → Symbol
push v = Do (λ vs. Some (v ∷ vs))
