-- What is said of the parts of a program, one thing at a time: trees, types, faults.
use Rattle.std.specs.Prelude.{ℕ, Bool, List, Option, map, slice_get}
use Rattle.plm_syntax.specs.declared.tree.Position.{Position}
use Rattle.plm_decl.specs.declared.builtin.Builtin.{Builtin}
use Rattle.plm_decl.specs.declared.layout.ScalarType.{ScalarType}
use Rattle.plm_decl.specs.declared.names.Variable.{Variable}
use Rattle.plm_decl.specs.declared.resolved.Binding.{Binding}
use Rattle.plm_decl.specs.declared.found.Found.{Found}
use Rattle.plm_decl.specs.Names.{ProcedureR, MainR}
use Rattle.plm_decl.specs.Resolved.{ExpressionR, ExpressionsR, SelectorR, ReferenceR', LocationR', ReferencesR, StatementR, StatementsR}
use Rattle.plm_type.specs.declared.numbers.Numbers.{Numbers}
use Rattle.plm_type.specs.declared.program.Counting.{Counting}
use Rattle.plm_type.specs.declared.statements.Around.{Around}
use Rattle.plm_type.specs.Rest.{Expression, Expressions, Target, Scalar, Statement, Statements, Procedure}
use Rattle.plm_type.specs.Numbers.{turns}
use Rattle.plm_type.specs.Expressions as expressions
use Rattle.plm_type.specs.Statements as statements

module _ (variables : List Variable) (procedures : List ProcedureR) (sizes : List ℕ) (module_index : ℕ) where
  abbrev pub tree_of : ExpressionR → Expression
  tree_of e = (expressions.typed variables procedures sizes module_index e).tree

  abbrev pub type_of : ExpressionR → Option ScalarType
  type_of e = (expressions.typed variables procedures sizes module_index e).scalar

  abbrev pub faults_of : ExpressionR → List Found
  faults_of e = (expressions.typed variables procedures sizes module_index e).faults

  abbrev pub numbers_of : ExpressionR → Numbers
  numbers_of e = (expressions.typed variables procedures sizes module_index e).numbers

  -- ---- where a value of a type is wanted

  abbrev pub is_turned : Option ScalarType → ExpressionR → Bool
  is_turned t e = turns t (numbers_of e)

  abbrev pub wanted_tree : Option ScalarType → ExpressionR → Expression
  wanted_tree t e = (expressions.wanted module_index t (expressions.typed variables procedures sizes module_index e)).tree

  abbrev pub wanted_type : Option ScalarType → ExpressionR → Option ScalarType
  wanted_type t e = (expressions.wanted module_index t (expressions.typed variables procedures sizes module_index e)).scalar

  abbrev pub wanted_faults : Option ScalarType → ExpressionR → List Found
  wanted_faults t e = (expressions.wanted module_index t (expressions.typed variables procedures sizes module_index e)).faults

  abbrev pub given_trees : List (Option ScalarType) → ExpressionsR → Expressions
  given_trees ts es = (expressions.given variables procedures sizes module_index ts es).trees

  abbrev pub given_types : List (Option ScalarType) → ExpressionsR → List (Option ScalarType)
  given_types ts es = (expressions.given variables procedures sizes module_index ts es).types

  abbrev pub given_faults : List (Option ScalarType) → ExpressionsR → List Found
  given_faults ts es = (expressions.given variables procedures sizes module_index ts es).faults

  -- ---- lists

  abbrev pub trees_of : ExpressionsR → Expressions
  trees_of es = (expressions.list variables procedures sizes module_index es).trees

  abbrev pub types_of : ExpressionsR → List (Option ScalarType)
  types_of es = (expressions.list variables procedures sizes module_index es).types

  abbrev pub faults_in : ExpressionsR → List Found
  faults_in es = (expressions.list variables procedures sizes module_index es).faults

  abbrev pub selector_trees : SelectorR → Expressions
  selector_trees s = (expressions.selector variables procedures sizes module_index s).trees

  abbrev pub selector_types : SelectorR → List (Option ScalarType)
  selector_types s = (expressions.selector variables procedures sizes module_index s).types

  abbrev pub selector_faults : SelectorR → List Found
  selector_faults s = (expressions.selector variables procedures sizes module_index s).faults

  abbrev pub value_of : ReferenceR' → Expression
  value_of x = (expressions.value variables procedures sizes module_index x).tree

  abbrev pub value_faults : ReferenceR' → List Found
  value_faults x = (expressions.value variables procedures sizes module_index x).faults

  abbrev pub location_of : LocationR' → Expression
  location_of l = (expressions.location variables procedures sizes module_index l).tree

  abbrev pub location_faults : LocationR' → List Found
  location_faults l = (expressions.location variables procedures sizes module_index l).faults

  abbrev pub target_of : ReferenceR' → Target
  target_of x = (expressions.target variables procedures sizes module_index x).tree

  abbrev pub target_type : ReferenceR' → Option ScalarType
  target_type x = (expressions.target variables procedures sizes module_index x).scalar

  abbrev pub target_faults : ReferenceR' → List Found
  target_faults x = (expressions.target variables procedures sizes module_index x).faults

  abbrev pub measured_value : Position → Builtin → ExpressionsR → Expression
  measured_value p b es = (expressions.arguments variables procedures sizes module_index p b es).tree

  abbrev pub argument_value : Position → Builtin → ExpressionR → Expression
  argument_value p b e = (expressions.argument variables procedures sizes module_index p b e).tree

  abbrev pub reference_value : Position → Builtin → ReferenceR' → Expression
  reference_value p b x = (expressions.measured_reference variables procedures sizes module_index p b x).tree

  -- ---- statements

  abbrev pub of_number : Position → ExpressionR → List Found
  of_number p e = (statements.number_in variables procedures sizes module_index p e).faults

  abbrev pub of_count : Position → ExpressionR → List Found
  of_count p e = (statements.count_in variables procedures sizes module_index p e).faults

  abbrev pub of_bound : Option ScalarType → Position → ExpressionR → List Found
  of_bound t p e = (statements.bound_in variables procedures sizes module_index t p e).faults

  abbrev pub target_types : ReferencesR → List (Option ScalarType)
  target_types xs = (statements.typed_targets variables procedures sizes module_index xs).types

  abbrev pub target_trees : ReferencesR → List Target
  target_trees xs = (statements.typed_targets variables procedures sizes module_index xs).trees

  abbrev pub of_targets : ReferencesR → List Found
  of_targets xs = (statements.typed_targets variables procedures sizes module_index xs).faults

  abbrev pub called : Position → ReferenceR' → Expression
  called p x = (statements.typed_call variables procedures sizes module_index p x).tree

  abbrev pub of_call : Position → ReferenceR' → List Found
  of_call p x = (statements.typed_call variables procedures sizes module_index p x).faults

  abbrev pub of_index : Position → Position → Binding → List Found
  of_index p q m = (statements.typed_index variables procedures sizes module_index p q m).faults

  abbrev pub step_for : Option ScalarType → Position → Option ExpressionR → Expression
  step_for t p s = (statements.typed_step variables procedures sizes module_index t p s).tree

  abbrev pub counting_for : Option ScalarType → Position → Option ExpressionR → Counting
  counting_for t p s = (statements.typed_step variables procedures sizes module_index t p s).counting

  abbrev pub of_step : Option ScalarType → Position → Option ExpressionR → List Found
  of_step t p s = (statements.typed_step variables procedures sizes module_index t p s).faults

  abbrev pub statement_for : Around → StatementR → Statement
  statement_for around s = (statements.typed_statement variables procedures sizes module_index around s).tree

  abbrev pub of_statement : Around → StatementR → List Found
  of_statement around s = (statements.typed_statement variables procedures sizes module_index around s).faults

  abbrev pub statements_for : Around → StatementsR → Statements
  statements_for around ss = (statements.typed_statements variables procedures sizes module_index around ss).tree

  abbrev pub of_statements : Around → StatementsR → List Found
  of_statements around ss = (statements.typed_statements variables procedures sizes module_index around ss).faults

-- ---- procedures and main

module _ (variables : List Variable) where
  abbrev pub parameters_for : List ℕ → List Scalar
  parameters_for xs = map (λ x. statements.index_for (slice_get variables x)) xs

  abbrev pub of_parameters : (external : Bool) → ℕ → List ℕ → List Found
  of_parameters external module_index xs = (statements.typed_parameters variables external module_index xs).faults

module _ (variables : List Variable) (procedures : List ProcedureR) (sizes : List ℕ) where
  abbrev pub body_for : ProcedureR → Statements
  body_for p = (statements.typed_body variables procedures sizes p).tree

  abbrev pub of_body : ProcedureR → List Found
  of_body p = (statements.typed_body variables procedures sizes p).faults

  abbrev pub procedure_for : ProcedureR → Procedure
  procedure_for p = (statements.typed_procedure variables procedures sizes p).tree

  abbrev pub of_procedure : ProcedureR → List Found
  of_procedure p = (statements.typed_procedure variables procedures sizes p).faults

  abbrev pub of_procedures : List ProcedureR → List Found
  of_procedures ps = (statements.typed_procedures variables procedures sizes ps).faults

  abbrev pub main_for : MainR → Statements
  main_for m = (statements.typed_main variables procedures sizes m).tree

  abbrev pub of_main : MainR → List Found
  of_main m = (statements.typed_main variables procedures sizes m).faults
