-- Types of constructs whose parts have their types; what has a fault has none.
use Rattle.std.specs.Prelude.{ℕ, ◌-◌, ◌*◌, Bool, true, false, not, ◌&&◌, ◌||◌, nat_eq, cond, List, [], ◌∷◌, ◌++◌, length, slice_get, Option, Some, None, is_some}
use Rattle.std.specs.Option.{option_map_or}
use Rattle.plm_syntax.specs.declared.tree.LocationForm.{LocationForm}
use Rattle.plm_decl.specs.declared.builtin.Builtin.{Builtin}
use Rattle.plm_decl.specs.declared.builtin.Builtin.TheVariants as builtin
use Rattle.plm_decl.specs.declared.layout.ScalarType.{ScalarType}
use Rattle.plm_decl.specs.declared.layout.ScalarType.TheVariants.{Byte, Word, Integer}
use Rattle.plm_decl.specs.declared.names.Variable.{Variable}
use Rattle.plm_decl.specs.Datum.{location_type}
use Rattle.plm_decl.specs.Names.{ProcedureR}
use Rattle.plm_decl.specs.Layout.{counted}
use Rattle.plm_decl.specs.Resolved.{SelectorR, no_member, member, member_at}
use Rattle.plm_type.specs.Types.{are_known_counts, has_integer, may_be_integers, may_be_numbers, are_known, takes, number_type}
use Rattle.plm_type.specs.Shapes.{shape_fits, designated, form_type, element_count, element_size, is_on_screen}

-- each argument that has a parameter is taken by it
abbrev pub take_all : List (Option ScalarType) → List (Option ScalarType) → Bool
take_all [] [] = true
take_all [] (t ∷ ts) = true
take_all (p ∷ ps) [] = true
take_all (p ∷ ps) (t ∷ ts) = takes p t && take_all ps ts

-- LENGTH, LAST and SIZE of a reference: elements, elements less one, bytes
abbrev pub measured : Builtin → (elements size : ℕ) → ℕ
measured builtin.Length elements size = elements
measured builtin.Last elements size = elements - 1
measured builtin.Size elements size = counted (elements * size)
-- not asked of the others, which measure nothing
measured builtin.Low elements size = counted (elements * size)
measured builtin.High elements size = counted (elements * size)
measured builtin.Double elements size = counted (elements * size)
measured builtin.ShiftLeft elements size = counted (elements * size)
measured builtin.ShiftRight elements size = counted (elements * size)
measured builtin.RotateLeft elements size = counted (elements * size)
measured builtin.RotateRight elements size = counted (elements * size)
measured builtin.Input elements size = counted (elements * size)
measured builtin.InputWord elements size = counted (elements * size)
measured builtin.Output elements size = counted (elements * size)
measured builtin.OutputWord elements size = counted (elements * size)
measured builtin.Signed elements size = counted (elements * size)
measured builtin.Unsigned elements size = counted (elements * size)

abbrev pub first_type : List (Option ScalarType) → Option ScalarType
first_type [] = None
first_type (t ∷ ts) = t

abbrev pub other_types : List (Option ScalarType) → List (Option ScalarType)
other_types [] = []
other_types (t ∷ ts) = ts

-- what is wanted of each argument of a built-in: UNSIGN takes an INTEGER
abbrev pub wanted_arguments : Builtin → List (Option ScalarType)
wanted_arguments builtin.Length = None ∷ []
wanted_arguments builtin.Last = None ∷ []
wanted_arguments builtin.Size = None ∷ []
wanted_arguments builtin.Low = None ∷ []
wanted_arguments builtin.High = None ∷ []
wanted_arguments builtin.Double = None ∷ []
wanted_arguments builtin.ShiftLeft = None ∷ None ∷ []
wanted_arguments builtin.ShiftRight = None ∷ None ∷ []
wanted_arguments builtin.RotateLeft = None ∷ None ∷ []
wanted_arguments builtin.RotateRight = None ∷ None ∷ []
wanted_arguments builtin.Input = None ∷ []
wanted_arguments builtin.InputWord = None ∷ []
wanted_arguments builtin.Output = None ∷ []
wanted_arguments builtin.OutputWord = None ∷ []
wanted_arguments builtin.Signed = None ∷ []
wanted_arguments builtin.Unsigned = Some Integer ∷ []

abbrev pub arity : Builtin → ℕ
arity b = length (wanted_arguments b)

-- the others take numbers
abbrev pub may_be_arguments : Builtin → List (Option ScalarType) → Bool
may_be_arguments b ts = cond (has_integer (wanted_arguments b)) (may_be_integers ts) (may_be_numbers ts)

-- what is measured has the type of its number, and a target no value
abbrev pub builtin_type : Builtin → List (Option ScalarType) → Option ScalarType
builtin_type builtin.Length ts = None
builtin_type builtin.Last ts = None
builtin_type builtin.Size ts = None
builtin_type builtin.Low ts = Some Byte
builtin_type builtin.High ts = Some Byte
builtin_type builtin.Double ts = Some Word
builtin_type builtin.Input ts = Some Byte
builtin_type builtin.InputWord ts = Some Word
builtin_type builtin.Signed ts = Some Integer
builtin_type builtin.Unsigned ts = Some Word
builtin_type builtin.ShiftLeft ts = first_type ts
builtin_type builtin.ShiftRight ts = first_type ts
builtin_type builtin.RotateLeft ts = first_type ts
builtin_type builtin.RotateRight ts = first_type ts
builtin_type builtin.Output ts = None
builtin_type builtin.OutputWord ts = None

-- only a port that is a target has one
abbrev pub port_type : Builtin → Option ScalarType
port_type builtin.Length = None
port_type builtin.Last = None
port_type builtin.Size = None
port_type builtin.Low = None
port_type builtin.High = None
port_type builtin.Double = None
port_type builtin.ShiftLeft = None
port_type builtin.ShiftRight = None
port_type builtin.RotateLeft = None
port_type builtin.RotateRight = None
port_type builtin.Input = None
port_type builtin.InputWord = None
port_type builtin.Output = Some Byte
port_type builtin.OutputWord = Some Word
port_type builtin.Signed = None
port_type builtin.Unsigned = None

-- OUTPUT and OUTWORD are targets alone
abbrev pub is_target : Builtin → Bool
is_target b = is_some (port_type b)

-- LENGTH, LAST and SIZE alone are no targets and have no type by those of their arguments
abbrev pub is_measure : Builtin → Bool
is_measure b = not (is_target b || is_some (builtin_type b (Some Byte ∷ [])))

abbrev pub is_plain : SelectorR → Bool
is_plain no_member = true
is_plain (member p m) = false
is_plain (member_at p m e) = false

abbrev pub variable_type : Option Variable → Option ScalarType
variable_type (Some v) = form_type v.form
variable_type None = None

abbrev pub given_if : {A : Type 0} → Bool → Option A → Option A
given_if holds t = cond holds t None

abbrev pub returned_type : Option ProcedureR → Option ScalarType
returned_type None = None
returned_type (Some p) = p.returned

-- a reference to a variable is of its shape; its subscripts, and that of its member, are no POINTERs
abbrev pub use_fits : (part : Bool) → Option Variable → SelectorR → List (Option ScalarType) → List (Option ScalarType) → Bool
use_fits part None s ts us = false
use_fits part (Some v) s ts us = shape_fits part v (length ts) s && are_known_counts (ts ++ us)

abbrev pub designated_in : Option Variable → SelectorR → Option ScalarType
designated_in None s = None
designated_in (Some v) s = designated v s

abbrev pub use_type : Option Variable → SelectorR → List (Option ScalarType) → List (Option ScalarType) → Option ScalarType
use_type v s ts us = given_if (use_fits false v s ts us) (designated_in v s)

-- LENGTH, LAST and SIZE of one plain reference to a variable
abbrev pub measure : Builtin → Option Variable → ℕ → SelectorR → ℕ
measure b None n s = 0
measure b (Some v) n s = measured b (element_count v n s) (element_size v s)

abbrev pub measure_type : Builtin → Option Variable → SelectorR → List (Option ScalarType) → List (Option ScalarType) → Option ScalarType
measure_type b v s ts us = given_if (use_fits true v s ts us) (number_type (measure b v (length ts) s))

abbrev pub builtin_fits : Builtin → SelectorR → List (Option ScalarType) → Bool
builtin_fits b s ts = is_plain s && (nat_eq (length ts) (arity b) && (are_known ts && may_be_arguments b ts))

-- a location of what is on a page of the screen is refused
abbrev pub may_be_located : Option Variable → Bool
may_be_located o = option_map_or (λ v. not (is_on_screen v.region)) o true

-- DATA may not be assigned; it keeps its type as a target all the same
abbrev pub may_be_assigned : Option Variable → Bool
may_be_assigned o = option_map_or (λ v. not v.is_data) o true

abbrev pub located_type : LocationForm → Option Variable → SelectorR → List (Option ScalarType) → List (Option ScalarType) → Option ScalarType
located_type f v s ts us = given_if (may_be_located v && use_fits true v s ts us) (Some (location_type f))

-- ---- calls, in a program that declares these
module _ (variables : List Variable) where
  abbrev pub parameter_types : List ℕ → List (Option ScalarType)
  parameter_types [] = []
  parameter_types (x ∷ xs) = variable_type (slice_get variables x) ∷ parameter_types xs

  -- what a procedure's arguments are wanted as
  abbrev pub parameters_wanted : Option ProcedureR → List (Option ScalarType)
  parameters_wanted None = []
  parameters_wanted (Some p) = parameter_types p.parameters

  -- a call gives its procedure's type, where its arguments are as many as the parameters and are taken by them
  abbrev pub call_fits : Option ProcedureR → List (Option ScalarType) → Bool
  call_fits None ts = false
  call_fits (Some p) ts = nat_eq (length p.parameters) (length ts) && take_all (parameter_types p.parameters) ts

  abbrev pub called_type : Option ProcedureR → SelectorR → List (Option ScalarType) → Option ScalarType
  called_type q s ts = given_if (is_plain s && (call_fits q ts && are_known ts)) (returned_type q)
