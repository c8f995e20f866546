-- Faults of constructs whose parts have their types.
use Rattle.std.specs.Prelude.{ℕ, Bool, true, false, not, ◌&&◌, ◌||◌, nat_eq, nat_le, cond, List, [], ◌∷◌, ◌++◌, length, take, Option, Some, None, is_some}
use Rattle.word86.specs.declared.number.Number.{Number}
use Rattle.word86.specs.declared.number.Number.TheVariants.{E401, E402}
use Rattle.plm_syntax.specs.declared.tree.Position.{Position}
use Rattle.plm_decl.specs.declared.builtin.Builtin.{Builtin}
use Rattle.plm_decl.specs.declared.layout.ScalarType.{ScalarType}
use Rattle.plm_decl.specs.declared.names.Variable.{Variable}
use Rattle.plm_decl.specs.declared.found.Found.{Found}
use Rattle.plm_decl.specs.Names.{ProcedureR}
use Rattle.plm_decl.specs.Resolved.{ExpressionR, NumberR, TextR, ReferenceR, LocationR, ParenthesisedR, EmbeddedR, UnaryR, BinaryR, Use, SelectorR, LocationOf, ConstantsOf}
use Rattle.plm_type.specs.Types.{may_all_count}
use Rattle.plm_type.specs.Shapes.{shape_fits, element_count, element_size}
use Rattle.plm_type.specs.Typing.{is_plain, arity, may_be_arguments, is_target, measured, take_all, parameter_types, returned_type}

-- ---- where an expression begins

abbrev pub first_place : ExpressionR → Position
first_place (NumberR n) = n.place
first_place (TextR p cs) = p
first_place (ReferenceR (Use p m es s)) = p
first_place (LocationR (LocationOf p f x)) = p
first_place (LocationR (ConstantsOf p f k)) = p
first_place (ParenthesisedR p e) = p
first_place (EmbeddedR p x e) = p
first_place (UnaryR p o e) = p
first_place (BinaryR p o a b) = first_place a

-- what is measured is of its shape, and not above 65,535
abbrev pub measure_fits : Builtin → Option Variable → ℕ → SelectorR → Bool
measure_fits b None n s = true
measure_fits b (Some v) n s = not (shape_fits true v n s) || nat_le (measured b (element_count v n s) (element_size v s)) 65535

-- a reference to a variable is of its shape, and no subscript is a POINTER
abbrev pub may_be_used : (part : Bool) → Option Variable → SelectorR → List (Option ScalarType) → List (Option ScalarType) → Bool
may_be_used part None s ts us = false
may_be_used part (Some v) s ts us = shape_fits part v (length ts) s && may_all_count (ts ++ us)

-- ---- faults in the module of this number
module _ (module_index : ℕ) where
  abbrev pub fault_unless : Bool → Number → Position → List Found
  fault_unless holds number place = cond holds [] (record { «module» = module_index; place = place; number = number } ∷ [])

  abbrev pub use_faults : (part : Bool) → Position → Option Variable → SelectorR → List (Option ScalarType) → List (Option ScalarType) → List Found
  use_faults part p v s ts us = fault_unless (may_be_used part v s ts us) E401 p

  -- each argument that has a parameter is taken by it, however many there are
  abbrev pub builtin_faults : Position → Builtin → SelectorR → List (Option ScalarType) → List Found
  builtin_faults p b s ts =
      fault_unless (is_plain s) E401 p
      ++ (fault_unless (nat_eq (length ts) (arity b)) E402 p ++ fault_unless (may_be_arguments b (take (arity b) ts)) E401 p)

  -- ports are targets, and no other built-in is one
  abbrev pub port_faults : Position → Builtin → SelectorR → List (Option ScalarType) → List Found
  port_faults p b s ts = fault_unless (is_target b) E401 p ++ builtin_faults p b s ts

module _ (variables : List Variable) (module_index : ℕ) where
  abbrev pub call_faults : Position → Option ProcedureR → SelectorR → List (Option ScalarType) → List Found
  call_faults p None s ts = fault_unless module_index false E401 p
  call_faults p (Some q) s ts =
      fault_unless module_index (is_plain s) E401 p
      ++ (fault_unless module_index (nat_eq (length q.parameters) (length ts)) E402 p
      ++ fault_unless module_index (take_all (parameter_types variables q.parameters) ts) E401 p)

  -- a procedure as a value is typed
  abbrev pub called_faults : Position → Option ProcedureR → SelectorR → List (Option ScalarType) → List Found
  called_faults p q s ts = call_faults p q s ts ++ fault_unless module_index (is_some (returned_type q)) E401 p
