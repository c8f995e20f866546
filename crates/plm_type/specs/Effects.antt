-- What texts call, and whether they have ENABLE or HALT, whatever the types of what stands around: also in references that are faulty.
use Rattle.std.specs.Prelude.{Bool, false, cond, List, [], ◌∷◌, ◌++◌, Option, Some, None}
use Rattle.plm_decl.specs.declared.resolved.Binding.{Binding}
use Rattle.plm_decl.specs.declared.resolved.Binding.TheVariants as binding
use Rattle.plm_decl.specs.Resolved.{ExpressionR, NumberR, TextR, ReferenceR, LocationR, ParenthesisedR, EmbeddedR, UnaryR, BinaryR, ReferenceR', Use, ExpressionsR, no_expressions, expressions, SelectorR, no_member, member, member_at, LocationR', LocationOf, ConstantsOf, ReferencesR, no_references, references, StatementR, EmptyR, AssignR, CallR, ReturnR, ReturnValueR, EnableR, DisableR, HaltR, IfR, IfElseR, DoR, WhileR, CaseR, IterateR, StatementsR, no_statements, statements}
use Rattle.plm_type.specs.Typing.{is_measure}
use Rattle.plm_type.specs.declared.effects.Effect.{Effect}
use Rattle.plm_type.specs.declared.effects.Effect.TheVariants.{Calls, Enables}

-- LENGTH, LAST and SIZE evaluate nothing
abbrev pub is_unevaluated : Binding → Bool
is_unevaluated (binding.Variable v) = false
is_unevaluated (binding.Procedure q) = false
is_unevaluated (binding.Builtin b) = is_measure b
is_unevaluated binding.Nothing = false

abbrev pub calls_of : Binding → List Effect
calls_of (binding.Variable v) = []
calls_of (binding.Procedure q) = Calls q ∷ []
calls_of (binding.Builtin b) = []
calls_of binding.Nothing = []

abbrev mutual
  pub of_expression : ExpressionR → List Effect
  of_expression (NumberR n) = []
  of_expression (TextR p cs) = []
  of_expression (ReferenceR x) = of_value x
  of_expression (LocationR l) = of_location l
  of_expression (ParenthesisedR p e) = of_expression e
  of_expression (EmbeddedR p x e) = of_parts x ++ of_expression e
  of_expression (UnaryR p o e) = of_expression e
  of_expression (BinaryR p o a b) = of_expression a ++ of_expression b

  pub of_list : ExpressionsR → List Effect
  of_list no_expressions = []
  of_list (expressions e es) = of_expression e ++ of_list es

  -- of a member's subscript
  pub of_selector : SelectorR → List Effect
  of_selector no_member = []
  of_selector (member p m) = []
  of_selector (member_at p m e) = of_expression e

  -- of subscripts or arguments, and a member's subscript
  pub of_parts : ReferenceR' → List Effect
  of_parts (Use p b es s) = cond (is_unevaluated b) [] (of_list es ++ of_selector s)

  -- where the value of a procedure is wanted, it is called
  pub of_value : ReferenceR' → List Effect
  of_value (Use p b es s) = calls_of b ++ cond (is_unevaluated b) [] (of_list es ++ of_selector s)

  pub of_location : LocationR' → List Effect
  of_location (LocationOf p f x) = of_parts x
  of_location (ConstantsOf p f k) = []

abbrev pub of_targets : ReferencesR → List Effect
of_targets no_references = []
of_targets (references x xs) = of_parts x ++ of_targets xs

abbrev pub of_step : Option ExpressionR → List Effect
of_step None = []
of_step (Some e) = of_expression e

abbrev mutual
  pub of_statement : StatementR → List Effect
  of_statement (EmptyR p) = []
  of_statement (AssignR xs e) = of_targets xs ++ of_expression e
  of_statement (CallR p x) = of_value x
  of_statement (ReturnR p) = []
  of_statement (ReturnValueR p e) = of_expression e
  of_statement (EnableR p) = Enables ∷ []
  of_statement (DisableR p) = []
  of_statement (HaltR p) = Enables ∷ []
  of_statement (IfR p e s) = of_expression e ++ of_statement s
  of_statement (IfElseR p e s t) = of_expression e ++ (of_statement s ++ of_statement t)
  of_statement (DoR p ss) = of_statements ss
  of_statement (WhileR p e ss) = of_expression e ++ of_statements ss
  of_statement (CaseR p e ss) = of_expression e ++ of_statements ss
  of_statement (IterateR p q i a b s ss) = of_expression a ++ (of_expression b ++ (of_step s ++ of_statements ss))

  pub of_statements : StatementsR → List Effect
  of_statements no_statements = []
  of_statements (statements s ss) = of_statement s ++ of_statements ss
