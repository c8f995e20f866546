-- The syntax tree without where it lies in memory. Lists grow at their end.
use Rattle.std.specs.Prelude.{Bool, Option}
use Rattle.plm_syntax.specs.declared.tree.Position.{Position}
pub use Rattle.plm_syntax.specs.declared.tree.LocationForm.{LocationForm}
pub use Rattle.plm_syntax.specs.declared.tree.LocationForm.TheVariants.{Pointer, Offset}
use Rattle.plm_syntax.specs.declared.tree.Scalar.{Scalar}
use Rattle.plm_syntax.specs.declared.tree.UnaryOperator.{UnaryOperator}
use Rattle.plm_syntax.specs.declared.tree.BinaryOperator.{BinaryOperator}
use Rattle.plm_syntax.specs.Terminal.{NameT, NumeralT, TextT}

-- ---- expressions

mutual
  pub data ExpressionT : Type 0 where
    NumeralE : NumeralT → ExpressionT
    TextE : TextT → ExpressionT
    ReferenceE : ReferenceT → ExpressionT
    LocationE : LocationT → ExpressionT
    -- "(" e ")", with the place of "("
    ParenthesisedE : Position → ExpressionT → ExpressionT
    -- "(" x ":=" e ")", with the place of "("
    EmbeddedE : Position → ReferenceT → ExpressionT → ExpressionT
    UnaryE : Position → UnaryOperator → ExpressionT → ExpressionT
    -- with the place of the operator
    BinaryE : Position → BinaryOperator → ExpressionT → ExpressionT → ExpressionT

  -- a name, its subscripts or arguments, none where there are no parentheses, and its member
  pub data ReferenceT : Type 0 where
    ReferenceOf : NameT → ExpressionsT → SelectorT → ReferenceT

  pub data ExpressionsT : Type 0 where
    no_expressions : ExpressionsT
    expressions : ExpressionsT → ExpressionT → ExpressionsT

  pub data SelectorT : Type 0 where
    no_member : SelectorT
    member : NameT → SelectorT
    member_at : NameT → ExpressionT → SelectorT

  -- the place is that of "@" or "."
  pub data LocationT : Type 0 where
    LocationOf : Position → LocationForm → ReferenceT → LocationT
    ConstantsOf : Position → LocationForm → ValuesT → LocationT

  pub data ValueT : Type 0 where
    NumeralV : NumeralT → ValueT
    NegativeV : NumeralT → ValueT
    TextV : TextT → ValueT
    LocationV : LocationT → ValueT

  pub data ValuesT : Type 0 where
    no_values : ValuesT
    values : ValuesT → ValueT → ValuesT

-- ---- declarations

pub data NamesT : Type 0 where
  no_names : NamesT
  names : NamesT → NameT → NamesT

-- a name and its base
pub data VariableT : Type 0 where
  VariableOf : NameT → Option NameT → VariableT

pub data VariablesT : Type 0 where
  no_variables : VariablesT
  variables : VariablesT → VariableT → VariablesT

-- one variable, or a list in parentheses
pub data DeclaredT : Type 0 where
  OneVariable : VariableT → DeclaredT
  VariableList : VariablesT → DeclaredT

pub data DimensionT : Type 0 where
  no_dimension : DimensionT
  dimension : NumeralT → DimensionT
  -- (*): as many as there are values
  implicit_dimension : DimensionT

-- a structure's members: one name or a list in parentheses, how many elements each has, and their type
pub data MemberT : Type 0 where
  OneMember : NameT → Option NumeralT → Scalar → MemberT
  MemberList : NamesT → Option NumeralT → Scalar → MemberT

pub data MembersT : Type 0 where
  no_members : MembersT
  members : MembersT → MemberT → MembersT

pub data TypeT : Type 0 where
  ScalarType : Scalar → TypeT
  StructureType : MembersT → TypeT

pub data AtT : Type 0 where
  no_at : AtT
  at_number : NumeralT → AtT
  at_location : LocationT → AtT

pub data InitialT : Type 0 where
  no_initial : InitialT
  initial : ValuesT → InitialT
  constant_data : ValuesT → InitialT

pub data AttributesT : Type 0 where
  External : AttributesT
  -- whether PUBLIC, AT, and INITIAL or DATA
  Attributes : Bool → AtT → InitialT → AttributesT

pub data ElementT : Type 0 where
  LiteralElement : NameT → TextT → ElementT
  VariableElement : DeclaredT → DimensionT → TypeT → AttributesT → ElementT

pub data ElementsT : Type 0 where
  no_elements : ElementsT
  elements : ElementsT → ElementT → ElementsT

pub data LinkageT : Type 0 where
  no_linkage : LinkageT
  public_linkage : LinkageT
  external_linkage : LinkageT

-- ---- statements, procedures, blocks

pub data ReferencesT : Type 0 where
  no_references : ReferencesT
  references : ReferencesT → ReferenceT → ReferencesT

-- a statement's place is that of its first token after its labels; a block's last part is the name after its END
mutual
  pub data StatementT : Type 0 where
    Labelled : NamesT → BasicT → StatementT

  pub data BasicT : Type 0 where
    EmptyS : Position → BasicT
    AssignS : ReferencesT → ExpressionT → BasicT
    CallS : Position → ReferenceT → BasicT
    ReturnS : Position → BasicT
    ReturnValueS : Position → ExpressionT → BasicT
    EnableS : Position → BasicT
    DisableS : Position → BasicT
    HaltS : Position → BasicT
    IfS : Position → ExpressionT → StatementT → BasicT
    IfElseS : Position → ExpressionT → StatementT → StatementT → BasicT
    DoS : Position → BlockT → Option NameT → BasicT
    WhileS : Position → ExpressionT → StatementsT → Option NameT → BasicT
    CaseS : Position → ExpressionT → StatementsT → Option NameT → BasicT
    -- DO i = a TO b [BY s]
    IterateS : Position → NameT → ExpressionT → ExpressionT → Option ExpressionT → StatementsT → Option NameT → BasicT

  pub data StatementsT : Type 0 where
    no_statements : StatementsT
    statements : StatementsT → StatementT → StatementsT

  pub data BlockT : Type 0 where
    BlockOf : ItemsT → StatementsT → BlockT

  pub data ItemsT : Type 0 where
    no_items : ItemsT
    items : ItemsT → ItemT → ItemsT

  -- a declaration, with the place of DECLARE, or a procedure
  pub data ItemT : Type 0 where
    DeclareI : Position → ElementsT → ItemT
    ProcedureI : NameT → NamesT → Option Scalar → Option NumeralT → LinkageT → BlockT → Option NameT → ItemT

pub data ModuleT : Type 0 where
  ModuleOf : NameT → BlockT → Option NameT → ModuleT
