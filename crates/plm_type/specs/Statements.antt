-- Statements, procedures and main: what is said of each, with names as places.
use Rattle.std.specs.Prelude.{ℕ, Bool, true, false, not, ◌&&◌, ◌||◌, nat_eq, nat_le, cond, List, [], ◌∷◌, ◌++◌, length, map, slice_get, Option, Some, None, is_some}
use Rattle.std.specs.Option.{option_map_or}
use Rattle.std.specs.List.{flat_map}
use Rattle.word86.specs.declared.number.Number.TheVariants.{E401, E403}
use Rattle.word86.specs.declared.width.Width.{Width}
use Rattle.word86.specs.declared.width.Width.TheVariants as width
use Rattle.word86.specs.Access.{In}
use Rattle.plm_syntax.specs.declared.tree.Position.{Position}
use Rattle.plm_decl.specs.declared.layout.ScalarType.{ScalarType}
use Rattle.plm_decl.specs.declared.names.Variable.{Variable}
use Rattle.plm_decl.specs.declared.resolved.Binding.{Binding}
use Rattle.plm_decl.specs.declared.resolved.Binding.TheVariants as binding
use Rattle.plm_decl.specs.declared.found.Found.{Found}
use Rattle.plm_decl.specs.Names.{ProcedureR, DeclaredLocationR, MainR, is_external_linkage}
use Rattle.plm_decl.specs.Resolved.{ExpressionR, ReferenceR', Use, ReferencesR, no_references, references, StatementR, EmptyR, AssignR, CallR, ReturnR, ReturnValueR, EnableR, DisableR, HaltR, IfR, IfElseR, DoR, WhileR, CaseR, IterateR, StatementsR, no_statements, statements}
use Rattle.plm_type.specs.declared.statements.Around.{Around}
use Rattle.plm_type.specs.declared.program.Counting.TheVariants as counting
use Rattle.plm_decl.specs.declared.layout.ScalarType.TheVariants.{Integer}
use Rattle.plm_type.specs.declared.statements.Around.TheVariants as stands
use Rattle.plm_type.specs.Rest.{Expression, Constant, Call, Target, Targets, Only, Also, Scalar, Count, Statement, Empty, Assign, Evaluate, Return, ReturnValue, Enabling, Disabling, Halting, If, Block, While, Case, Iterate, Statements, End, Then, Procedure}
use Rattle.plm_type.specs.Types.{width_of, may_be_number, may_be_integer, may_be_pointer, may_count, is_integer, takes, may_be_numbers, may_be_integers, may_be_pointers, has_integer}
use Rattle.plm_type.specs.Shapes.{form_type, has_room, is_based, scalar_for, scalar_size}
use Rattle.plm_type.specs.Typing.{may_be_assigned, variable_type, parameters_wanted}
use Rattle.plm_type.specs.Faults.{first_place, fault_unless, call_faults}
use Rattle.plm_type.specs.Trees.{entry_of}
use Rattle.plm_type.specs.Typer.{Typed, TypedTargets, TypedStep, Noted}
use Rattle.plm_type.specs.Steps.{signed_step, integer_step, number_step, chosen_step}
use Rattle.plm_type.specs.Expressions.{typed, wanted, given, location, target}

-- RETURN stands in procedures alone, with a value exactly in a typed one
abbrev pub may_return : Around → Bool
may_return stands.Main = false
may_return (stands.Procedure t) = not (is_some t)

abbrev pub wanted_of_return : Around → Option ScalarType
wanted_of_return stands.Main = None
wanted_of_return (stands.Procedure t) = t

abbrev pub may_return_value : Around → Option ScalarType → Bool
may_return_value around v = is_some (wanted_of_return around) && takes (wanted_of_return around) v

abbrev pub returned_width : Around → Width
returned_width around = width_of (wanted_of_return around)

-- a scalar that is not based
abbrev pub is_plain_scalar : Variable → Bool
is_plain_scalar v = is_some (form_type v.form) && (not (is_some v.dimension) && not (is_based v.region))

-- a scalar with room for its bytes where it lies
abbrev pub is_placed_scalar : Variable → Bool
is_placed_scalar v = is_plain_scalar v && has_room (scalar_size (form_type v.form)) v

-- an index is a BYTE, WORD or INTEGER scalar that lies somewhere
abbrev pub is_index : Option Variable → Bool
is_index None = false
is_index (Some v) = is_placed_scalar v && may_count (form_type v.form)

-- a start or a bound of the second type may stand where the index has the first
abbrev pub may_bound : Option ScalarType → Option ScalarType → Bool
may_bound t v = cond (is_integer t) (may_be_integer v) (may_be_number v)

abbrev pub index_for : Option Variable → Scalar
index_for (Some v) = scalar_for v
index_for None = record { width = width.Word; place = In 0 0 }

-- of the types that are known, targets' and value's, no two are of different kinds: all are numbers, all INTEGERs, or all POINTERs
abbrev pub all_take : List (Option ScalarType) → Option ScalarType → Bool
all_take xs t = (may_be_number t && may_be_numbers xs) || ((may_be_integer t && may_be_integers xs) || (may_be_pointer t && may_be_pointers xs))

-- an INTEGER is wanted where some target is one
abbrev pub wanted_among : List (Option ScalarType) → Option ScalarType
wanted_among xs = cond (has_integer xs) (Some Integer) None

abbrev pub first_target : ReferencesR → ExpressionR → Position
first_target no_references e = first_place e
first_target (references (Use p m es s) xs) e = p

abbrev pub targets : Target → List Target → Targets
targets t [] = Only t
targets t (u ∷ us) = Also t (targets u us)

abbrev pub assignment : List Target → Expression → Statement
assignment [] e = Evaluate e
assignment (t ∷ ts) e = Assign (targets t ts) e

module _ (variables : List Variable) where
  abbrev pub variable_meant : Binding → Option Variable
  variable_meant (binding.Variable v) = slice_get variables v
  variable_meant (binding.Procedure q) = None
  variable_meant (binding.Builtin b) = None
  variable_meant binding.Nothing = None

-- ---- statements whose parts are typed

abbrev pub silent : Statement → Noted Statement
silent s = record { tree = s; faults = [] }

abbrev pub before : Noted Statement → Noted Statements → Noted Statements
before s ss = record { tree = Then s.tree ss.tree; faults = s.faults ++ ss.faults }

abbrev pub evaluated : Noted Expression → Noted Statement
evaluated e = record { tree = Evaluate e.tree; faults = e.faults }

abbrev pub return_alone : (module_index : ℕ) → Around → Position → Noted Statement
return_alone module_index around p = record { tree = Return; faults = fault_unless module_index (may_return around) E401 p }

abbrev pub with_value : Around → Noted Expression → Noted Statement
with_value around e = record { tree = ReturnValue (returned_width around) e.tree; faults = e.faults }

abbrev pub conditional : Noted Expression → Noted Statement → Noted Statement
conditional e s = record { tree = If e.tree (Then s.tree End) End; faults = e.faults ++ s.faults }

abbrev pub alternative : Noted Expression → Noted Statement → Noted Statement → Noted Statement
alternative e s t = record { tree = If e.tree (Then s.tree End) (Then t.tree End); faults = e.faults ++ (s.faults ++ t.faults) }

abbrev pub block : Noted Statements → Noted Statement
block ss = record { tree = Block ss.tree; faults = ss.faults }

abbrev pub while_loop : Noted Expression → Noted Statements → Noted Statement
while_loop e ss = record { tree = While e.tree e.tree ss.tree; faults = e.faults ++ ss.faults }

abbrev pub cases : Noted Expression → Noted Statements → Noted Statement
cases e ss = record { tree = Case e.tree ss.tree; faults = e.faults ++ ss.faults }

abbrev pub iterate : Noted Scalar → (from bound : Noted Expression) → TypedStep → Noted Statements → Noted Statement
iterate i a b s ss = record {
  tree = Iterate a.tree (Count s.counting i.tree b.tree s.tree ss.tree);
  faults = i.faults ++ (a.faults ++ (b.faults ++ (s.faults ++ ss.faults)));
}

-- ---- in a program that declares these
module _ (variables : List Variable) (procedures : List ProcedureR) (sizes : List ℕ) (module_index : ℕ) where
  abbrev expression : ExpressionR → Typed
  expression e = typed variables procedures sizes module_index e

  -- a value that stands where it fits
  abbrev pub fitting : Position → Bool → Typed → Noted Expression
  fitting p fits e = record { tree = e.tree; faults = e.faults ++ fault_unless module_index fits E401 p }

  -- a condition, or the step of a DO with a BYTE or WORD index
  abbrev pub number_in : Position → ExpressionR → Noted Expression
  number_in p e = fitting p (may_be_number (expression e).scalar) (expression e)

  -- the value of DO CASE
  abbrev pub count_in : Position → ExpressionR → Noted Expression
  count_in p e = fitting p (may_count (expression e).scalar) (expression e)

  -- the start or the bound of a DO whose index has this type
  abbrev pub bound_in : Option ScalarType → Position → ExpressionR → Noted Expression
  bound_in t p e = let value = wanted module_index t (expression e) in fitting p (may_bound t value.scalar) value

  abbrev pub typed_targets : ReferencesR → TypedTargets
  typed_targets no_references = record { trees = []; types = []; faults = [] }
  typed_targets (references x xs) =
      let first = target variables procedures sizes module_index x in
      let others = typed_targets xs in
      record { trees = first.tree ∷ others.trees; types = first.scalar ∷ others.types; faults = first.faults ++ others.faults }

  abbrev pub uncalled : Position → Noted Expression
  uncalled p = record { tree = Constant 0; faults = fault_unless module_index false E401 p }

  -- CALL names a procedure
  abbrev pub typed_call : Position → ReferenceR' → Noted Expression
  typed_call p (Use q (binding.Procedure n) es s) =
      let procedure = slice_get procedures n in
      let arguments = given variables procedures sizes module_index (parameters_wanted variables procedure) es in
      record { tree = Call (entry_of procedure) arguments.trees; faults = arguments.faults ++ call_faults variables module_index q procedure s arguments.types }
  typed_call p (Use q (binding.Variable v) es s) = uncalled p
  typed_call p (Use q (binding.Builtin b) es s) = uncalled p
  typed_call p (Use q binding.Nothing es s) = uncalled p

  abbrev pub typed_index : Position → Position → Binding → Noted Scalar
  typed_index p q m =
      let variable = variable_meant variables m in
      record { tree = index_for variable; faults = fault_unless module_index (is_index variable) E401 p ++ fault_unless module_index (may_be_assigned variable) E403 q }

  -- the step is 1 if it is missing
  abbrev pub typed_step : Option ScalarType → Position → Option ExpressionR → TypedStep
  typed_step t p None = record { tree = Constant 1; counting = cond (is_integer t) counting.SignedUp counting.Up; faults = [] }
  typed_step t p (Some e) = chosen_step (is_integer t) (integer_step module_index p (signed_step e)) (number_step (number_in p e))

  abbrev pub typed_assignment : ReferencesR → ExpressionR → Noted Statement
  typed_assignment xs e =
      let stored = typed_targets xs in
      let value = wanted module_index (wanted_among stored.types) (expression e) in
      record {
        tree = assignment stored.trees value.tree;
        faults = stored.faults ++ (value.faults ++ fault_unless module_index (all_take stored.types value.scalar) E401 (first_target xs e));
      }

  abbrev pub typed_return : Around → Position → ExpressionR → Noted Expression
  typed_return around p e = let value = wanted module_index (wanted_of_return around) (expression e) in fitting p (may_return_value around value.scalar) value

  -- a DO with an index, up to its statements
  abbrev pub typed_range : Option ScalarType → Noted Scalar → Position → (from to : ExpressionR) → (by : Option ExpressionR) → Noted Statements → Noted Statement
  typed_range t i p a b s ss = iterate i (bound_in t p a) (bound_in t p b) (typed_step t p s) ss

  abbrev mutual
    pub typed_statement : Around → StatementR → Noted Statement
    typed_statement around (EmptyR p) = silent Empty
    typed_statement around (AssignR xs e) = typed_assignment xs e
    typed_statement around (CallR p x) = evaluated (typed_call p x)
    typed_statement around (ReturnR p) = return_alone module_index around p
    typed_statement around (ReturnValueR p e) = with_value around (typed_return around p e)
    typed_statement around (EnableR p) = silent Enabling
    typed_statement around (DisableR p) = silent Disabling
    typed_statement around (HaltR p) = silent Halting
    typed_statement around (IfR p e s) = conditional (number_in p e) (typed_statement around s)
    typed_statement around (IfElseR p e s t) = alternative (number_in p e) (typed_statement around s) (typed_statement around t)
    typed_statement around (DoR p ss) = block (typed_statements around ss)
    typed_statement around (WhileR p e ss) = while_loop (number_in p e) (typed_statements around ss)
    typed_statement around (CaseR p e ss) = cases (count_in p e) (typed_statements around ss)
    typed_statement around (IterateR p q m a b s ss) =
        typed_range (variable_type (variable_meant variables m)) (typed_index p q m) p a b s (typed_statements around ss)

    pub typed_statements : Around → StatementsR → Noted Statements
    typed_statements around no_statements = record { tree = End; faults = [] }
    typed_statements around (statements s ss) = before (typed_statement around s) (typed_statements around ss)

-- ---- procedures and main

-- An EXTERNAL procedure has only its parameters' declarations: what else stands in it is a fault, and it has no body of its own.

-- a parameter is a scalar that is not based; those of an EXTERNAL procedure lie nowhere, as its arguments go to another's
abbrev pub is_parameter : (external : Bool) → Variable → Bool
is_parameter external v = cond external (is_plain_scalar v) (is_placed_scalar v)

abbrev pub of_parameter : (external : Bool) → ℕ → Option Variable → List Found
of_parameter external module_index None = []
of_parameter external module_index (Some v) = fault_unless module_index (is_parameter external v) E401 v.place

-- the parameters of these numbers
module _ (variables : List Variable) where
  abbrev pub typed_parameters : (external : Bool) → (module_index : ℕ) → List ℕ → Noted (List Scalar)
  typed_parameters external module_index xs = record {
    tree = map (λ x. index_for (slice_get variables x)) xs;
    faults = flat_map (λ x. of_parameter external module_index (slice_get variables x)) xs;
  }

-- what a call runs has a body of its own, and as many parameters as the call has arguments
abbrev pub is_entry : ℕ → Option ProcedureR → Bool
is_entry n None = false
is_entry n (Some p) = not (is_external_linkage p.linkage) && nat_eq (length p.parameters) n

-- a call of an EXTERNAL procedure passes its arguments to the PUBLIC one's parameters
abbrev pub of_entry : List ProcedureR → ProcedureR → List Found
of_entry procedures p = fault_unless p.module (is_entry (length p.parameters) (slice_get procedures p.entry)) E401 p.place

abbrev pub of_stray : ℕ → Option Position → List Found
of_stray module_index None = []
of_stray module_index (Some p) = fault_unless module_index false E401 p

-- the number of INTERRUPT is 0 to 255
abbrev pub interrupt_fits : Option ℕ → Bool
interrupt_fits o = option_map_or (λ n. nat_le n 255) o true

module _ (variables : List Variable) (procedures : List ProcedureR) (sizes : List ℕ) where
  -- an EXTERNAL one has none
  abbrev pub typed_body : ProcedureR → Noted Statements
  typed_body p =
      let body = typed_statements variables procedures sizes p.module (stands.Procedure p.returned) p.body in
      record { tree = cond (is_external_linkage p.linkage) End body.tree; faults = cond (is_external_linkage p.linkage) [] body.faults }

  abbrev pub typed_procedure : ProcedureR → Noted Procedure
  typed_procedure p =
      let parameters = typed_parameters variables (is_external_linkage p.linkage) p.module p.parameters in
      let body = typed_body p in
      record {
        tree = record { parameters = parameters.tree; body = body.tree };
        faults = parameters.faults
            ++ (fault_unless p.module (interrupt_fits p.interrupt) E401 p.place ++ (of_entry procedures p ++ (of_stray p.module p.stray ++ body.faults)));
      }

  abbrev pub typed_procedures : List ProcedureR → Noted (List Procedure)
  typed_procedures ps = record { tree = map (λ p. (typed_procedure p).tree) ps; faults = flat_map (λ p. (typed_procedure p).faults) ps }

  abbrev pub of_locations : List DeclaredLocationR → List Found
  of_locations ls = flat_map (λ l. (location variables procedures sizes l.module l.location).faults) ls

  abbrev pub typed_main : MainR → Noted Statements
  typed_main m = typed_statements variables procedures sizes m.module stands.Main m.statements
