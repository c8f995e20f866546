-- How large a program is: its nodes, and the bytes that have values at start. A node is a statement, procedure, operator (`:=` among them),
-- reference or constant (a string or a location list is one), and each stretch of RAM that initial values fill without a gap; a subscript or
-- an argument is the node that its expression is.
use Rattle.std.specs.Prelude.{ℕ, ◌+◌, ◌==◌, ◌&&◌, ◌||◌, nat_lt, Bool, false, cond, List, [], ◌∷◌, map, Option, Some, None}
use Rattle.plm_decl.specs.declared.names.Datum.{Datum}
use Rattle.plm_decl.specs.declared.names.Datum.TheVariants as datum
use Rattle.plm_decl.specs.declared.names.Names.{Names}
use Rattle.plm_decl.specs.declared.resolved.Binding.{Binding}
use Rattle.plm_decl.specs.declared.resolved.Binding.TheVariants as binding
use Rattle.plm_decl.specs.Names.{ObjectR, ProcedureR, object_of, procedure_of, main_of}
use Rattle.plm_decl.specs.Resolved.{ExpressionR, NumberR, TextR, ReferenceR, LocationR, ParenthesisedR, EmbeddedR, UnaryR, BinaryR, ReferenceR', Use, ExpressionsR, no_expressions, expressions, SelectorR, no_member, member, member_at, LocationR', LocationOf, ConstantsOf, ReferencesR, no_references, references, StatementR, EmptyR, AssignR, CallR, ReturnR, ReturnValueR, EnableR, DisableR, HaltR, IfR, IfElseR, DoR, WhileR, CaseR, IterateR, StatementsR, no_statements, statements}
use Rattle.plm_type.specs.Effects.{is_unevaluated}
use Rattle.plm_type.specs.Typing.{is_target}

-- ---- expressions

-- OUTPUT and OUTWORD of a port
abbrev pub is_port : Binding → Bool
is_port (binding.Variable v) = false
is_port (binding.Procedure p) = false
is_port (binding.Builtin b) = is_target b
is_port binding.Nothing = false

abbrev mutual
  pub expression_nodes : ExpressionR → ℕ
  expression_nodes (NumberR n) = 1
  expression_nodes (TextR p cs) = 1
  expression_nodes (ReferenceR x) = reference_nodes x
  expression_nodes (LocationR l) = location_nodes l
  expression_nodes (ParenthesisedR p e) = expression_nodes e
  expression_nodes (EmbeddedR p x e) = 1 + target_nodes x + expression_nodes e
  expression_nodes (UnaryR p o e) = 1 + expression_nodes e
  expression_nodes (BinaryR p o a b) = 1 + expression_nodes a + expression_nodes b

  pub expressions_nodes : ExpressionsR → ℕ
  expressions_nodes no_expressions = 0
  expressions_nodes (expressions e es) = expression_nodes e + expressions_nodes es

  -- of a member's subscript
  pub selector_nodes : SelectorR → ℕ
  selector_nodes no_member = 0
  selector_nodes (member p m) = 0
  selector_nodes (member_at p m e) = expression_nodes e

  -- LENGTH, LAST and SIZE of a reference are constants
  pub reference_nodes : ReferenceR' → ℕ
  reference_nodes (Use p m es s) = cond (is_unevaluated m) 1 (1 + expressions_nodes es + selector_nodes s)

  -- OUTPUT and OUTWORD count as their port
  pub target_nodes : ReferenceR' → ℕ
  target_nodes (Use p m es s) = cond (is_port m) (expressions_nodes es) (1 + expressions_nodes es + selector_nodes s)

  pub location_nodes : LocationR' → ℕ
  location_nodes (LocationOf p f x) = reference_nodes x
  location_nodes (ConstantsOf p f k) = 1

abbrev pub targets_nodes : ReferencesR → ℕ
targets_nodes no_references = 0
targets_nodes (references x xs) = target_nodes x + targets_nodes xs

-- ---- statements

abbrev pub step_nodes : Option ExpressionR → ℕ
step_nodes None = 0
step_nodes (Some e) = expression_nodes e

abbrev mutual
  pub statement_nodes : StatementR → ℕ
  statement_nodes (EmptyR p) = 1
  statement_nodes (AssignR xs e) = 1 + targets_nodes xs + expression_nodes e
  statement_nodes (CallR p x) = 1 + reference_nodes x
  statement_nodes (ReturnR p) = 1
  statement_nodes (ReturnValueR p e) = 1 + expression_nodes e
  statement_nodes (EnableR p) = 1
  statement_nodes (DisableR p) = 1
  statement_nodes (HaltR p) = 1
  statement_nodes (IfR p e s) = 1 + expression_nodes e + statement_nodes s
  statement_nodes (IfElseR p e s t) = 1 + expression_nodes e + statement_nodes s + statement_nodes t
  statement_nodes (DoR p ss) = 1 + statements_nodes ss
  statement_nodes (WhileR p e ss) = 1 + expression_nodes e + statements_nodes ss
  statement_nodes (CaseR p e ss) = 1 + expression_nodes e + statements_nodes ss
  -- with its index
  statement_nodes (IterateR p q m a b s ss) = 2 + expression_nodes a + expression_nodes b + step_nodes s + statements_nodes ss

  pub statements_nodes : StatementsR → ℕ
  statements_nodes no_statements = 0
  statements_nodes (statements s ss) = statement_nodes s + statements_nodes ss

-- ---- initial bytes

abbrev pub datum_size : Datum → ℕ
datum_size (datum.Byte b) = 1
datum_size (datum.Word w) = 2
datum_size (datum.Variable v n) = 2
datum_size (datum.Constants k) = 2

abbrev pub data_size : List Datum → ℕ
data_size [] = 0
data_size (d ∷ ds) = datum_size d + data_size ds

abbrev pub objects_size : List ObjectR → ℕ
objects_size [] = 0
objects_size (o ∷ os) = data_size o.initial + objects_size os

abbrev pub initial_size : Names → ℕ
initial_size names = objects_size (map object_of names.objects.items)

-- ---- the stretches of initial bytes, where objects lie one after another

-- an object with initial values begins one, unless RAM is filled up to it
abbrev pub begins : (filled : Bool) → ObjectR → ℕ
begins filled o = cond (filled || data_size o.initial == 0) 0 1

-- RAM is filled up to the end of an object whose bytes are all initial; one without bytes changes nothing
abbrev pub is_filled : (before : Bool) → ObjectR → Bool
is_filled before o = data_size o.initial == o.size && (before || nat_lt 0 o.size)

-- those of some objects; `filled` is whether RAM is filled up to the first
abbrev pub stretches_nodes : (filled : Bool) → List ObjectR → ℕ
stretches_nodes filled [] = 0
stretches_nodes filled (o ∷ os) = begins filled o + stretches_nodes (is_filled filled o) os

-- ---- the program

abbrev pub procedures_nodes : List ProcedureR → ℕ
procedures_nodes [] = 0
procedures_nodes (p ∷ ps) = 1 + statements_nodes p.body + procedures_nodes ps

abbrev pub nodes_of : Names → ℕ
nodes_of names =
    stretches_nodes false (map object_of names.objects.items) + procedures_nodes (map procedure_of names.procedures.items) + statements_nodes (main_of names.main).statements
