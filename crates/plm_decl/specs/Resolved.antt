-- Statements whose names are resolved, without where they lie in memory.
use Rattle.std.specs.Prelude.{ℕ, List, Option}
use Rattle.plm_syntax.specs.declared.tree.Position.{Position}
use Rattle.plm_syntax.specs.declared.tree.LocationForm.{LocationForm}
use Rattle.plm_syntax.specs.declared.tree.UnaryOperator.{UnaryOperator}
use Rattle.plm_syntax.specs.declared.tree.BinaryOperator.{BinaryOperator}
use Rattle.plm_syntax.specs.Terminal.{NumeralT}
use Rattle.plm_decl.specs.declared.layout.Member.{Member}
use Rattle.plm_decl.specs.declared.resolved.Binding.{Binding}

mutual
  pub data ExpressionR : Type 0 where
    NumberR : NumeralT → ExpressionR
    -- a string's characters
    TextR : Position → List ℕ → ExpressionR
    ReferenceR : ReferenceR' → ExpressionR
    LocationR : LocationR' → ExpressionR
    ParenthesisedR : Position → ExpressionR → ExpressionR
    EmbeddedR : Position → ReferenceR' → ExpressionR → ExpressionR
    UnaryR : Position → UnaryOperator → ExpressionR → ExpressionR
    -- a o b, with the place of o
    BinaryR : Position → BinaryOperator → ExpressionR → ExpressionR → ExpressionR

  -- a name that is used, what it means, its subscripts or arguments, and its member
  pub data ReferenceR' : Type 0 where
    Use : Position → Binding → ExpressionsR → SelectorR → ReferenceR'

  pub data ExpressionsR : Type 0 where
    no_expressions : ExpressionsR
    expressions : ExpressionR → ExpressionsR → ExpressionsR

  -- the member, none where the name stands for no structure
  pub data SelectorR : Type 0 where
    no_member : SelectorR
    member : Position → Option Member → SelectorR
    member_at : Position → Option Member → ExpressionR → SelectorR

  -- of a reference, or of constant bytes by the number of their object
  pub data LocationR' : Type 0 where
    LocationOf : Position → LocationForm → ReferenceR' → LocationR'
    ConstantsOf : Position → LocationForm → ℕ → LocationR'

pub data ReferencesR : Type 0 where
  no_references : ReferencesR
  references : ReferenceR' → ReferencesR → ReferencesR

mutual
  pub data StatementR : Type 0 where
    EmptyR : Position → StatementR
    AssignR : ReferencesR → ExpressionR → StatementR
    CallR : Position → ReferenceR' → StatementR
    ReturnR : Position → StatementR
    ReturnValueR : Position → ExpressionR → StatementR
    EnableR : Position → StatementR
    DisableR : Position → StatementR
    HaltR : Position → StatementR
    IfR : Position → ExpressionR → StatementR → StatementR
    IfElseR : Position → ExpressionR → StatementR → StatementR → StatementR
    DoR : Position → StatementsR → StatementR
    WhileR : Position → ExpressionR → StatementsR → StatementR
    CaseR : Position → ExpressionR → StatementsR → StatementR
    -- DO i = a TO b [BY s], with the place of i
    IterateR : Position → Position → Binding → ExpressionR → ExpressionR → Option ExpressionR → StatementsR → StatementR

  pub data StatementsR : Type 0 where
    no_statements : StatementsR
    statements : StatementR → StatementsR → StatementsR

-- one more after the others
abbrev pub and_expression : ExpressionsR → ExpressionR → ExpressionsR
and_expression no_expressions e = expressions e no_expressions
and_expression (expressions d es) e = expressions d (and_expression es e)

abbrev pub and_reference : ReferencesR → ReferenceR' → ReferencesR
and_reference no_references x = references x no_references
and_reference (references y xs) x = references y (and_reference xs x)

abbrev pub and_statement : StatementsR → StatementR → StatementsR
and_statement no_statements s = statements s no_statements
and_statement (statements t ss) s = statements t (and_statement ss s)
