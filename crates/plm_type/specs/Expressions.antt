-- Expressions: what is said of each, with names as places.
use Rattle.std.specs.Prelude.{ℕ, Bool, true, false, not, ◌&&◌, nat_le, cond, List, [], ◌∷◌, ◌++◌, length, slice_get, Option, Some, None, is_some}
use Rattle.word86.specs.declared.width.Width.TheVariants as width
use Rattle.word86.specs.declared.number.Number.{Number}
use Rattle.word86.specs.declared.number.Number.TheVariants.{E401, E402, E403}
use Rattle.plm_syntax.specs.declared.tree.Position.{Position}
use Rattle.plm_syntax.specs.declared.tree.LocationForm.{LocationForm}
use Rattle.plm_syntax.specs.declared.tree.UnaryOperator.{UnaryOperator}
use Rattle.plm_syntax.specs.declared.tree.BinaryOperator.{BinaryOperator}
use Rattle.plm_decl.specs.declared.builtin.Builtin.{Builtin}
use Rattle.plm_decl.specs.declared.layout.ScalarType.{ScalarType}
use Rattle.plm_decl.specs.declared.layout.ScalarType.TheVariants.{Integer}
use Rattle.plm_decl.specs.declared.names.Variable.{Variable}
use Rattle.plm_decl.specs.declared.found.Found.{Found}
use Rattle.plm_decl.specs.declared.resolved.Binding.TheVariants as binding
use Rattle.plm_decl.specs.Datum.{location_type}
use Rattle.plm_decl.specs.Names.{ProcedureR}
use Rattle.plm_decl.specs.Resolved.{ExpressionR, NumberR, TextR, ReferenceR, LocationR, ParenthesisedR, EmbeddedR, UnaryR, BinaryR, ReferenceR', Use, ExpressionsR, no_expressions, expressions, SelectorR, no_member, member, member_at, LocationR', LocationOf, ConstantsOf}
use Rattle.plm_type.specs.Rest.{Expression, Constant, Location, Unary, Binary, Embedded, Call, NoMore, More, ToPort}
use Rattle.plm_type.specs.declared.numbers.Numbers.{Numbers}
use Rattle.plm_type.specs.declared.numbers.Numbers.TheVariants.{Other}
use Rattle.plm_type.specs.Numbers.{of_number, settled, signed_by, fits, both_numbers, integer_of, turns, range_faults}
use Rattle.plm_type.specs.Typer.{Typed, TypedTarget, TypedList, Parts}
use Rattle.plm_type.specs.Types.{width_of, takes, is_bitwise, unary_fits, operands_fit, number_type, text_type, unary_type, binary_type, unary_operation, operation_on}
use Rattle.plm_type.specs.Typing.{given_if, is_plain, is_measure, is_target, first_type, other_types, wanted_arguments, parameters_wanted, builtin_type, port_type, builtin_fits, use_type, measure, measure_type, may_be_located, may_be_assigned, located_type, called_type}
use Rattle.plm_type.specs.Faults.{first_place, fault_unless, measure_fits, use_faults, builtin_faults, port_faults, called_faults}
use Rattle.plm_type.specs.Trees.{constant, text_value, builtin_value, to_port, entry_of, object_size, use_read, use_stored, constants_at, refer}

-- ---- lists

abbrev pub none : TypedList
none = record { trees = NoMore; types = []; faults = [] }

abbrev pub alone : Typed → TypedList
alone e = record { trees = More e.tree NoMore; types = e.scalar ∷ []; faults = e.faults }

abbrev pub before : Typed → TypedList → TypedList
before e es = record { trees = More e.tree es.trees; types = e.scalar ∷ es.types; faults = e.faults ++ es.faults }

abbrev pub parts : TypedList → TypedList → Parts
parts es us = record {
  subscripts = es.trees;
  member = us.trees;
  subscript_types = es.types;
  member_types = us.types;
  faults = es.faults ++ us.faults;
}

abbrev pub chosen : Bool → Typed → Typed → Typed
chosen c a b = record { tree = cond c a.tree b.tree; scalar = cond c a.scalar b.scalar; numbers = cond c a.numbers b.numbers; faults = cond c a.faults b.faults }

-- with faults that are found before
abbrev pub preceded : List Found → Typed → Typed
preceded before e = record { tree = e.tree; scalar = e.scalar; numbers = e.numbers; faults = before ++ e.faults }

-- what is wanted of an operand beside one of this type: AND, OR and XOR turn none INTEGER
abbrev pub wanted_beside : BinaryOperator → Option ScalarType → Option ScalarType
wanted_beside o t = cond (is_bitwise o) None t

-- what is no number expression
abbrev pub no_number : Expression → Option ScalarType → List Found → Typed
no_number tree scalar faults = record { tree = tree; scalar = scalar; numbers = Other; faults = faults }

abbrev pub parenthesised : Typed → Typed
parenthesised e = record { tree = e.tree; scalar = e.scalar; numbers = settled e.numbers; faults = e.faults }

-- ---- constructs whose parts are typed, in the module of this number
module _ (module_index : ℕ) where
  abbrev pub number : (value : ℕ) → Position → Typed
  number n p = record {
    tree = constant n;
    scalar = number_type n;
    numbers = of_number n p;
    faults = fault_unless module_index (nat_le n 65535) E401 p;
  }

  abbrev pub text : Position → List ℕ → Typed
  text p cs = no_number (constant (text_value cs)) (text_type cs) (fault_unless module_index (is_some (text_type cs)) E401 p)

  -- what has no value
  abbrev pub refused : Number → Position → Typed
  refused n p = no_number (Constant 0) None (fault_unless module_index false n p)

  -- what stands where a value of a type is wanted: a number expression is INTEGER where INTEGER is
  abbrev pub as_wanted : Option ScalarType → Typed → Typed
  as_wanted t e = record {
    tree = cond (turns t e.numbers) (integer_of e.tree) e.tree;
    scalar = cond (turns t e.numbers) (given_if (fits e.numbers) (Some Integer)) e.scalar;
    numbers = cond (turns t e.numbers) Other e.numbers;
    faults = cond (turns t e.numbers) (range_faults module_index e.numbers) [];
  }

  -- its own faults come first
  abbrev pub wanted : Option ScalarType → Typed → Typed
  wanted t e = preceded e.faults (as_wanted t e)

  abbrev pub assigned : Position → TypedTarget → Typed → Typed
  assigned p x e =
      no_number (Embedded x.tree e.tree) (given_if (is_some x.scalar && takes x.scalar e.scalar) e.scalar)
      (x.faults ++ (e.faults ++ fault_unless module_index (takes x.scalar e.scalar) E401 p))

  abbrev pub embedded : Position → TypedTarget → Typed → Typed
  embedded p x e = assigned p x (wanted x.scalar e)

  abbrev pub unary : Position → UnaryOperator → Typed → Typed
  unary p o e = record {
    tree = Unary (unary_operation o) (width_of e.scalar) e.tree;
    scalar = unary_type o e.scalar;
    numbers = signed_by o e.numbers;
    faults = e.faults ++ fault_unless module_index (unary_fits o e.scalar) E401 p;
  }

  -- operands of which the first begins at the second place
  abbrev pub operated_on : Position → BinaryOperator → (first : Position) → Numbers → Typed → Typed → Typed
  operated_on p o first numbers a b = record {
    tree = Binary module_index p.line (operation_on a.scalar o) (width_of (binary_type o a.scalar b.scalar)) a.tree b.tree;
    scalar = binary_type o a.scalar b.scalar;
    numbers = numbers;
    faults = a.faults ++ (b.faults ++ fault_unless module_index (operands_fit o a.scalar b.scalar) E401 first);
  }

  -- each operand as it is beside the other's type
  abbrev pub binary : Position → BinaryOperator → (first : Position) → Typed → Typed → Typed
  binary p o first a b =
      preceded a.faults (preceded b.faults (operated_on p o first (both_numbers o a.numbers b.numbers) (as_wanted (wanted_beside o b.scalar) a) (as_wanted (wanted_beside o a.scalar) b)))

  -- constant bytes: the object of this number, with its size
  abbrev pub constants : Position → LocationForm → (object : ℕ) → (sizes : List ℕ) → Typed
  constants p f k sizes =
      no_number (Location (constants_at module_index p.line k (object_size (slice_get sizes k)))) (Some (location_type f)) []

  -- a built-in as a value, but LENGTH, LAST and SIZE
  abbrev pub operated : Position → Builtin → SelectorR → TypedList → Typed
  operated p b s es =
      no_number (builtin_value module_index p.line b (width_of (first_type es.types)) es.trees) (given_if (builtin_fits b s es.types) (builtin_type b es.types))
      (es.faults ++ builtin_faults module_index p b s es.types)

  -- OUTPUT and OUTWORD, or another built-in, as a target
  abbrev pub port : Position → Builtin → SelectorR → TypedList → TypedTarget
  port p b s es = record {
    tree = to_port b es.trees;
    scalar = given_if (builtin_fits b s es.types) (port_type b);
    faults = es.faults ++ port_faults module_index p b s es.types;
  }

  -- no built-in that is a target alone is a value
  abbrev pub as_value : Position → Builtin → Typed → Typed
  as_value p b e = preceded (fault_unless module_index (not (is_target b)) E401 p) e

  -- LENGTH, LAST or SIZE of a variable: the place of the built-in, and that of the reference
  abbrev pub measured : Position → Builtin → Position → Option Variable → SelectorR → Parts → Typed
  measured p b q v s es =
      no_number (constant (measure b v (length es.subscript_types) s)) (measure_type b v s es.subscript_types es.member_types)
      (es.faults ++ (use_faults module_index true q v s es.subscript_types es.member_types ++ fault_unless module_index (measure_fits b v (length es.subscript_types) s) E401 p))

  -- no member follows LENGTH, LAST or SIZE
  abbrev pub plainly : Position → SelectorR → Typed → Typed
  plainly p s e = record {
    tree = e.tree;
    scalar = given_if (is_plain s) e.scalar;
    numbers = e.numbers;
    faults = fault_unless module_index (is_plain s) E401 p ++ e.faults;
  }

  -- of several arguments the first is judged all the same
  abbrev pub miscounted : Position → Typed → Typed
  miscounted p e = no_number (Constant 0) None (e.faults ++ fault_unless module_index false E402 p)

  abbrev pub no_target : Position → TypedTarget
  no_target p = record { tree = ToPort width.Word (Constant 0); scalar = None; faults = fault_unless module_index false E401 p }

-- ---- references to variables, and calls
module _ (variables : List Variable) (module_index : ℕ) where
  abbrev pub read : Position → Option Variable → SelectorR → Parts → Typed
  read p v s es =
      no_number (use_read v s (refer variables module_index p.line v s es.subscripts es.member)) (use_type v s es.subscript_types es.member_types)
      (es.faults ++ use_faults module_index false p v s es.subscript_types es.member_types)

  -- a variable of DATA is a fault of its own
  abbrev pub stored : Position → Option Variable → SelectorR → Parts → TypedTarget
  stored p v s es = record {
    tree = use_stored v s (refer variables module_index p.line v s es.subscripts es.member);
    scalar = use_type v s es.subscript_types es.member_types;
    faults = es.faults
        ++ (use_faults module_index false p v s es.subscript_types es.member_types
        ++ fault_unless module_index (may_be_assigned v) E403 p);
  }

  -- the place of the operator, and that of the reference
  abbrev pub located : Position → LocationForm → Position → Option Variable → SelectorR → Parts → Typed
  located p f q v s es =
      no_number (Location (refer variables module_index q.line v s es.subscripts es.member)) (located_type f v s es.subscript_types es.member_types)
      (es.faults ++ (fault_unless module_index (may_be_located v) E401 p ++ use_faults module_index true q v s es.subscript_types es.member_types))

  abbrev pub called : Position → Option ProcedureR → SelectorR → TypedList → Typed
  called p q s es =
      no_number (Call (entry_of q) es.trees) (called_type variables q s es.types)
      (es.faults ++ called_faults variables module_index p q s es.types)

-- ---- expressions, in a program that declares these; its objects have these sizes
module _ (variables : List Variable) (procedures : List ProcedureR) (sizes : List ℕ) (module_index : ℕ) where
  abbrev mutual
    pub typed : ExpressionR → Typed
    typed (NumberR n) = number module_index n.value n.place
    typed (TextR p cs) = text module_index p cs
    typed (ReferenceR x) = value x
    typed (LocationR l) = location l
    typed (ParenthesisedR p e) = parenthesised (typed e)
    typed (EmbeddedR p x e) = embedded module_index p (target x) (typed e)
    typed (UnaryR p o e) = unary module_index p o (typed e)
    typed (BinaryR p o a b) = binary module_index p o (first_place a) (typed a) (typed b)

    pub list : ExpressionsR → TypedList
    list no_expressions = none
    list (expressions e es) = before (typed e) (list es)

    -- arguments, where values of these types are wanted
    pub given : List (Option ScalarType) → ExpressionsR → TypedList
    given ts no_expressions = none
    given ts (expressions e es) = before (wanted module_index (first_type ts) (typed e)) (given (other_types ts) es)

    -- a member's subscript
    pub selector : SelectorR → TypedList
    selector no_member = none
    selector (member p m) = none
    selector (member_at p m e) = alone (typed e)

    pub value : ReferenceR' → Typed
    value (Use p (binding.Variable v) es s) = read variables module_index p (slice_get variables v) s (parts (list es) (selector s))
    value (Use p (binding.Procedure q) es s) = called variables module_index p (slice_get procedures q) s (given (parameters_wanted variables (slice_get procedures q)) es)
    value (Use p (binding.Builtin b) es s) =
        as_value module_index p b (chosen (is_measure b) (plainly module_index p s (arguments p b es)) (operated module_index p b s (given (wanted_arguments b) es)))
    value (Use p binding.Nothing es s) = refused module_index E401 p

    -- LENGTH, LAST and SIZE of one argument
    pub arguments : Position → Builtin → ExpressionsR → Typed
    arguments p b no_expressions = refused module_index E402 p
    arguments p b (expressions e no_expressions) = argument p b e
    arguments p b (expressions e (expressions d es)) = miscounted module_index p (argument p b e)

    -- a plain reference to a variable, whose subscripts may be missing
    pub argument : Position → Builtin → ExpressionR → Typed
    argument p b (ReferenceR x) = measured_reference p b x
    argument p b (NumberR n) = refused module_index E401 p
    argument p b (TextR q cs) = refused module_index E401 p
    argument p b (LocationR l) = refused module_index E401 p
    argument p b (ParenthesisedR q e) = refused module_index E401 p
    argument p b (EmbeddedR q x e) = refused module_index E401 p
    argument p b (UnaryR q o e) = refused module_index E401 p
    argument p b (BinaryR q o c d) = refused module_index E401 p

    pub measured_reference : Position → Builtin → ReferenceR' → Typed
    measured_reference p b (Use q (binding.Variable v) es s) = measured module_index p b q (slice_get variables v) s (parts (list es) (selector s))
    measured_reference p b (Use q (binding.Procedure n) es s) = refused module_index E401 p
    measured_reference p b (Use q (binding.Builtin k) es s) = refused module_index E401 p
    measured_reference p b (Use q binding.Nothing es s) = refused module_index E401 p

    pub location : LocationR' → Typed
    location (LocationOf p f (Use q (binding.Variable v) es s)) = located variables module_index p f q (slice_get variables v) s (parts (list es) (selector s))
    location (LocationOf p f (Use q (binding.Procedure n) es s)) = refused module_index E401 p
    location (LocationOf p f (Use q (binding.Builtin b) es s)) = refused module_index E401 p
    location (LocationOf p f (Use q binding.Nothing es s)) = refused module_index E401 p
    location (ConstantsOf p f k) = constants module_index p f k sizes

    pub target : ReferenceR' → TypedTarget
    target (Use p (binding.Variable v) es s) = stored variables module_index p (slice_get variables v) s (parts (list es) (selector s))
    target (Use p (binding.Builtin b) es s) = port module_index p b s (list es)
    target (Use p (binding.Procedure n) es s) = no_target module_index p
    target (Use p binding.Nothing es s) = no_target module_index p
