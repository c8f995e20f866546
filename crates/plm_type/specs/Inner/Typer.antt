-- What is known while statements are typed, and what the code has said so far.
use Rattle.std.specs.Prelude.{ℕ, List, [], ◌++◌, map, Option}
use Rattle.plm_syntax.specs.declared.tree.Position.{Position}
use Rattle.plm_decl.specs.declared.builtin.Builtin.{Builtin}
use Rattle.plm_decl.specs.declared.resolved.Binding.{Binding}
use Rattle.plm_decl.specs.declared.layout.ScalarType.{ScalarType}
use Rattle.plm_decl.specs.declared.resolved.Bounds.{Bounds}
use Rattle.plm_decl.specs.declared.names.Variable.{Variable}
use Rattle.plm_decl.specs.declared.found.Found.{Found}
use Rattle.plm_decl.specs.Names.{ProcedureR, procedure_of}
use Rattle.plm_decl.specs.Resolved.{ExpressionR, ExpressionsR, ReferenceR', Use, LocationR', SelectorR, ReferencesR, StatementR, StatementsR}
use Rattle.plm_decl.specs.ResolvedView as resolved
use Rattle.plm_decl.specs.Placement.{sizes_of}
use Rattle.plm_type.specs.declared.typer.Typer.{Typer}
use Rattle.plm_type.specs.declared.typer.Typed as declared
use Rattle.plm_type.specs.declared.typer.TypedList as declared_list
use Rattle.plm_type.specs.declared.references.TypedTarget as declared_target
use Rattle.plm_type.specs.declared.references.Parts as declared_parts
use Rattle.plm_type.specs.declared.program.Expression.{Expression}
use Rattle.plm_type.specs.declared.program.Subscript.{Subscript}
use Rattle.plm_type.specs.declared.statements.TypedTargets as declared_targets
use Rattle.plm_type.specs.declared.statements.Condition as declared_condition
use Rattle.plm_type.specs.declared.statements.Range as declared_range
use Rattle.plm_type.specs.declared.steps.Step as declared_step
use Rattle.plm_type.specs.declared.statements.Around.{Around}
use Rattle.plm_type.specs.Rest as rest
use Rattle.plm_type.specs.Typer.{Typed, TypedTarget, TypedTargets, TypedList, TypedStep, Parts, Noted}
use Rattle.plm_type.specs.Expressions as spec
use Rattle.plm_type.specs.Typing.{variable_type}
use Rattle.plm_type.specs.Statements as statements
use Rattle.plm_type.specs.View.{expression_of, expressions_of, target_of, scalar_of, statements_of}
use Rattle.plm_type.specs.Rest.{Statement, Statements, End, Then}

abbrev pub variables : Typer → List Variable
variables t = t.names.now.variables.items

abbrev pub procedures : Typer → List ProcedureR
procedures t = map procedure_of t.names.now.procedures.items

abbrev pub sizes : Typer → List ℕ
sizes t = sizes_of t.names.now

-- a subscript over elements of this size
abbrev pub with_stride : ℕ → Expression → Subscript
with_stride stride e = record { stride = stride; index = e }

-- ---- what the definition says, after faults that are noted already

abbrev pub after : List Found → Typed → Typed
after noted e = record { tree = e.tree; scalar = e.scalar; numbers = e.numbers; faults = noted ++ e.faults }

abbrev pub target_after : List Found → TypedTarget → TypedTarget
target_after noted x = record { tree = x.tree; scalar = x.scalar; faults = noted ++ x.faults }

abbrev pub list_after : List Found → TypedList → TypedList
list_after noted es = record { trees = es.trees; types = es.types; faults = noted ++ es.faults }

abbrev pub parts_after : List Found → Parts → Parts
parts_after noted es = record {
  subscripts = es.subscripts;
  member = es.member;
  subscript_types = es.subscript_types;
  member_types = es.member_types;
  faults = noted ++ es.faults;
}

abbrev pub targets_after : List Found → TypedTargets → TypedTargets
targets_after noted xs = record { trees = xs.trees; types = xs.types; faults = noted ++ xs.faults }

abbrev pub noted_after : {A : Type 0} → List Found → Noted A → Noted A
noted_after noted x = record { tree = x.tree; faults = noted ++ x.faults }

-- ---- what the code answers, with all faults that are noted then

abbrev pub said : declared.Typed → List Found → Typed
said e noted = record { tree = expression_of e.tree; scalar = e.scalar; numbers = e.numbers; faults = noted }

abbrev pub target_said : declared_target.TypedTarget → List Found → TypedTarget
target_said x noted = record { tree = target_of x.tree; scalar = x.scalar; faults = noted }

abbrev pub list_said : declared_list.TypedList → List Found → TypedList
list_said es noted = record { trees = expressions_of es.trees.items; types = es.types.items; faults = noted }

abbrev pub parts_said : declared_parts.Parts → List Found → Parts
parts_said es noted = record {
  subscripts = expressions_of es.subscripts.trees.items;
  member = expressions_of es.member.trees.items;
  subscript_types = es.subscripts.types.items;
  member_types = es.member.types.items;
  faults = noted;
}

abbrev pub targets_said : declared_targets.TypedTargets → List Found → TypedTargets
targets_said xs noted = record { trees = map target_of xs.trees.items; types = xs.types.items; faults = noted }

abbrev pub noted : {A : Type 0} → A → List Found → Noted A
noted tree faults = record { tree = tree; faults = faults }

-- IF without ELSE
abbrev pub condition_of : declared_condition.Condition → rest.Statement
condition_of c = rest.If (expression_of c.test) (statements_of c.then.items) rest.End

-- a DO with an index, without its statements
abbrev pub range_of : declared_range.Range → rest.Statement
range_of r = rest.Iterate (expression_of r.from) (rest.Count r.step.counting (scalar_of r.index) (expression_of r.bound) (expression_of r.step.tree) rest.End)

abbrev pub step_said : declared_step.Step → List Found → TypedStep
step_said s noted = record { tree = expression_of s.tree; counting = s.counting; faults = noted }

abbrev pub step_after : List Found → TypedStep → TypedStep
step_after noted s = record { tree = s.tree; counting = s.counting; faults = noted ++ s.faults }

-- ---- the definition, with what is known

abbrev pub typed_by : Typer → ExpressionR → Typed
typed_by t e = spec.typed (variables t) (procedures t) (sizes t) t.module e

abbrev pub list_by : Typer → ExpressionsR → TypedList
list_by t es = spec.list (variables t) (procedures t) (sizes t) t.module es

abbrev pub given_by : Typer → List (Option ScalarType) → ExpressionsR → TypedList
given_by t ts es = spec.given (variables t) (procedures t) (sizes t) t.module ts es

abbrev pub selector_by : Typer → SelectorR → TypedList
selector_by t s = spec.selector (variables t) (procedures t) (sizes t) t.module s

abbrev pub parts_by : Typer → ReferenceR' → Parts
parts_by t (Use p m es s) = spec.parts (list_by t es) (selector_by t s)

abbrev pub arguments_by : Typer → Position → Builtin → ExpressionsR → Typed
arguments_by t p b es = spec.arguments (variables t) (procedures t) (sizes t) t.module p b es

abbrev pub argument_by : Typer → Position → Builtin → ExpressionR → Typed
argument_by t p b e = spec.argument (variables t) (procedures t) (sizes t) t.module p b e

abbrev pub value_by : Typer → ReferenceR' → Typed
value_by t x = spec.value (variables t) (procedures t) (sizes t) t.module x

abbrev pub location_by : Typer → LocationR' → Typed
location_by t l = spec.location (variables t) (procedures t) (sizes t) t.module l

abbrev pub target_by : Typer → ReferenceR' → TypedTarget
target_by t x = spec.target (variables t) (procedures t) (sizes t) t.module x

-- ---- of statements

abbrev pub number_by : Typer → Position → ExpressionR → Noted rest.Expression
number_by t p e = statements.number_in (variables t) (procedures t) (sizes t) t.module p e

abbrev pub targets_by : Typer → ReferencesR → TypedTargets
targets_by t xs = statements.typed_targets (variables t) (procedures t) (sizes t) t.module xs

abbrev pub call_by : Typer → Position → ReferenceR' → Noted rest.Expression
call_by t p x = statements.typed_call (variables t) (procedures t) (sizes t) t.module p x

abbrev pub index_by : Typer → Position → Position → Binding → Noted rest.Scalar
index_by t p q m = statements.typed_index (variables t) (procedures t) (sizes t) t.module p q m

abbrev pub bound_by : Typer → Option ScalarType → Position → ExpressionR → Noted rest.Expression
bound_by t scalar p e = statements.bound_in (variables t) (procedures t) (sizes t) t.module scalar p e

abbrev pub count_by : Typer → Position → ExpressionR → Noted rest.Expression
count_by t p e = statements.count_in (variables t) (procedures t) (sizes t) t.module p e

abbrev pub step_by : Typer → Option ScalarType → Position → Option ExpressionR → TypedStep
step_by t scalar p e = statements.typed_step (variables t) (procedures t) (sizes t) t.module scalar p e

abbrev pub assignment_by : Typer → ReferencesR → ExpressionR → Noted rest.Statement
assignment_by t xs e = statements.typed_assignment (variables t) (procedures t) (sizes t) t.module xs e

abbrev pub return_by : Typer → Around → Position → ExpressionR → Noted rest.Expression
return_by t around p e = statements.typed_return (variables t) (procedures t) (sizes t) t.module around p e

abbrev pub statement_by : Typer → Around → StatementR → Noted rest.Statement
statement_by t around s = statements.typed_statement (variables t) (procedures t) (sizes t) t.module around s

abbrev pub statements_by : Typer → Around → StatementsR → Noted rest.Statements
statements_by t around ss = statements.typed_statements (variables t) (procedures t) (sizes t) t.module around ss

abbrev pub condition_by : Typer → Around → Position → ExpressionR → StatementR → Noted rest.Statement
condition_by t around p e s = statements.conditional (number_by t p e) (statement_by t around s)

abbrev pub range_by : Typer → Position → Position → Bounds → Noted rest.Statement
range_by t p q b =
    let scalar = variable_type (statements.variable_meant (variables t) b.binding) in
    statements.iterate (index_by t p q b.binding) (bound_by t scalar p (resolved.expression_of b.from)) (bound_by t scalar p (resolved.expression_of b.to)) (step_by t scalar p (resolved.step_of b.step)) (noted rest.End [])

abbrev pub one : Noted Statement → Noted Statements
one s = record { tree = Then s.tree End; faults = s.faults }
