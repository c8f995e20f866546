-- How many constants and references a statement has: its leaves. Those of the statements inside it are theirs. A built-in that is used
-- is a reference, and what stands in its parentheses counts too; LENGTH, LAST and SIZE with their reference are one constant.
use Rattle.std.specs.Prelude.{ℕ, ◌+◌, max, cond, List, [], ◌∷◌, map, Option, Some, None}
use Rattle.plm_decl.specs.declared.names.Names.{Names}
use Rattle.plm_decl.specs.Names.{ProcedureR, procedure_of, main_of}
use Rattle.plm_decl.specs.Resolved.{ExpressionR, NumberR, TextR, ReferenceR, LocationR, ParenthesisedR, EmbeddedR, UnaryR, BinaryR, ReferenceR', Use, ExpressionsR, no_expressions, expressions, SelectorR, no_member, member, member_at, LocationR', LocationOf, ConstantsOf, ReferencesR, no_references, references, StatementR, EmptyR, AssignR, CallR, ReturnR, ReturnValueR, EnableR, DisableR, HaltR, IfR, IfElseR, DoR, WhileR, CaseR, IterateR, StatementsR, no_statements, statements}
use Rattle.plm_type.specs.Effects.{is_unevaluated}
use Rattle.plm_type.specs.Nodes.{is_port}

-- ---- expressions

abbrev mutual
  pub expression_leaves : ExpressionR → ℕ
  expression_leaves (NumberR n) = 1
  expression_leaves (TextR p cs) = 1
  expression_leaves (ReferenceR x) = reference_leaves x
  expression_leaves (LocationR l) = location_leaves l
  expression_leaves (ParenthesisedR p e) = expression_leaves e
  expression_leaves (EmbeddedR p x e) = target_leaves x + expression_leaves e
  expression_leaves (UnaryR p o e) = expression_leaves e
  expression_leaves (BinaryR p o a b) = expression_leaves a + expression_leaves b

  pub expressions_leaves : ExpressionsR → ℕ
  expressions_leaves no_expressions = 0
  expressions_leaves (expressions e es) = expression_leaves e + expressions_leaves es

  -- of a member's subscript
  pub selector_leaves : SelectorR → ℕ
  selector_leaves no_member = 0
  selector_leaves (member p m) = 0
  selector_leaves (member_at p m e) = expression_leaves e

  pub reference_leaves : ReferenceR' → ℕ
  reference_leaves (Use p m es s) = cond (is_unevaluated m) 1 (1 + expressions_leaves es + selector_leaves s)

  -- OUTPUT and OUTWORD count as their port
  pub target_leaves : ReferenceR' → ℕ
  target_leaves (Use p m es s) = cond (is_port m) (expressions_leaves es) (1 + expressions_leaves es + selector_leaves s)

  pub location_leaves : LocationR' → ℕ
  location_leaves (LocationOf p f x) = reference_leaves x
  location_leaves (ConstantsOf p f k) = 1

abbrev pub targets_leaves : ReferencesR → ℕ
targets_leaves no_references = 0
targets_leaves (references x xs) = target_leaves x + targets_leaves xs

-- ---- statements

abbrev pub step_leaves : Option ExpressionR → ℕ
step_leaves None = 0
step_leaves (Some e) = expression_leaves e

-- without those of the statements inside it
abbrev pub statement_leaves : StatementR → ℕ
statement_leaves (EmptyR p) = 0
statement_leaves (AssignR xs e) = targets_leaves xs + expression_leaves e
statement_leaves (CallR p x) = reference_leaves x
statement_leaves (ReturnR p) = 0
statement_leaves (ReturnValueR p e) = expression_leaves e
statement_leaves (EnableR p) = 0
statement_leaves (DisableR p) = 0
statement_leaves (HaltR p) = 0
statement_leaves (IfR p e s) = expression_leaves e
statement_leaves (IfElseR p e s t) = expression_leaves e
statement_leaves (DoR p ss) = 0
statement_leaves (WhileR p e ss) = expression_leaves e
statement_leaves (CaseR p e ss) = expression_leaves e
-- with its index
statement_leaves (IterateR p q m a b s ss) = 1 + expression_leaves a + expression_leaves b + step_leaves s

-- of a statement and those inside it, the most that one has
abbrev mutual
  pub most_in : StatementR → ℕ
  most_in (IfR p e s) = max (statement_leaves (IfR p e s)) (most_in s)
  most_in (IfElseR p e s t) = max (statement_leaves (IfElseR p e s t)) (max (most_in s) (most_in t))
  most_in (DoR p ss) = most_of ss
  most_in (WhileR p e ss) = max (statement_leaves (WhileR p e ss)) (most_of ss)
  most_in (CaseR p e ss) = max (statement_leaves (CaseR p e ss)) (most_of ss)
  most_in (IterateR p q m a b s ss) = max (statement_leaves (IterateR p q m a b s ss)) (most_of ss)
  most_in (EmptyR p) = statement_leaves (EmptyR p)
  most_in (AssignR xs e) = statement_leaves (AssignR xs e)
  most_in (CallR p x) = statement_leaves (CallR p x)
  most_in (ReturnR p) = statement_leaves (ReturnR p)
  most_in (ReturnValueR p e) = statement_leaves (ReturnValueR p e)
  most_in (EnableR p) = statement_leaves (EnableR p)
  most_in (DisableR p) = statement_leaves (DisableR p)
  most_in (HaltR p) = statement_leaves (HaltR p)

  pub most_of : StatementsR → ℕ
  most_of no_statements = 0
  most_of (statements s ss) = max (most_in s) (most_of ss)

-- ---- the program

abbrev pub procedures_most : List ProcedureR → ℕ
procedures_most [] = 0
procedures_most (p ∷ ps) = max (most_of p.body) (procedures_most ps)

-- the most that a statement of the program has
abbrev pub most_leaves : Names → ℕ
most_leaves names = max (procedures_most (map procedure_of names.procedures.items)) (most_of (main_of names.main).statements)
