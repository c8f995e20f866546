-- What a context does next: the first part of its rest that can be rewritten. Silent steps are a constant or a location taken as a
-- value, an operator or a built-in on values, a test, the empty statement, entering and leaving a DO block, the comparison, the
-- sum and the end test of a DO with an index, a case dropped or taken, RETURN, and the start and the end of a call.
use Rattle.std.specs.Prelude.{ℕ, zero, suc, ◌+◌, ◌*◌, ◌%◌, Bool, not, ◌+ℤ◌, nat_eq, nat_lt, if◌then◌else◌, List, [], ◌∷◌, Option, Some, None, slice_get}
use Rattle.word86.specs.declared.width.Width.{Width}
use Rattle.word86.specs.declared.width.Width.TheVariants as widths
use Rattle.word86.specs.declared.operation.UnaryOperation.{UnaryOperation}
use Rattle.word86.specs.declared.operation.BinaryOperation.{BinaryOperation}
use Rattle.word86.specs.Access.{Access, Read, Write, Input, Output, values, Where}
use Rattle.word86.specs.Action.{Action, Silent, Touch, Enable, Disable, Halt, Over, Bad, map_action}
use Rattle.word86.specs.Arithmetic.{low}
use Rattle.word86.specs.Operation.{unary_value, binary_value}
use Rattle.word86.specs.Signed.{signed, in_range, signed_less}
use Rattle.plm_type.specs.declared.program.Counting.{Counting}
use Rattle.plm_type.specs.declared.program.Counting.TheVariants as counting
use Rattle.plm_type.specs.Rest.{Anchor, InObject, OnScreen, Behind, There, Scalar, Expression, Constant, Plain, Variable, Location, Unary, Binary, Embedded, Call, Value, Passing, Running, Expressions, NoMore, More, Reference, Refer, Subscripts, NoSubscripts, Subscript, Target, ToPlain, ToVariable, ToPort, Targets, Only, Also, Loop, Count, Statement, Empty, Assign, Evaluate, Return, ReturnValue, Enabling, Disabling, Halting, If, Block, While, Case, Iterate, Leaving, Round, Comparing, Stepping, Adding, Storing, Ending, Statements, End, Then, Returned, Procedure, Rest, Main, Handler}
use Rattle.plm_type.specs.Rest as rest
use Rattle.plm_type.specs.Places.{anchored, placed}

-- ---- values

abbrev pub value_of : Expression → Option ℕ
value_of (Constant k) = None
value_of (Plain w x) = None
value_of (Variable w r) = None
value_of (Location r) = None
value_of (Unary o w e) = None
value_of (Binary module_index line o w a b) = None
value_of (Embedded t e) = None
value_of (rest.Input w e) = None
value_of (Call p es) = None
value_of (Value v) = Some v
value_of (Passing p xs vs) = None
value_of (Running ss) = None

abbrev pub and_value : Option ℕ → Option (List ℕ) → Option (List ℕ)
and_value (Some v) (Some vs) = Some (v ∷ vs)
and_value (Some v) None = None
and_value None vs = None

-- the arguments' values, once all are evaluated
abbrev pub values_of : Expressions → Option (List ℕ)
values_of NoMore = Some []
values_of (More e es) = and_value (value_of e) (values_of es)

-- addresses are modulo 65,536
abbrev pub address_at : Option ℕ → (offset : ℕ) → Option ℕ
address_at (Some a) offset = Some ((a + offset) % 65536)
address_at None offset = None

abbrev pub is_odd : ℕ → Bool
is_odd v = nat_eq (v % 2) 1

-- ---- statements one after the other

abbrev pub behind : Statements → Statements → Statements
behind End later = later
behind (Then s more) later = Then s (behind more later)
behind (Returned v) later = Returned v

-- what a running body has come to: 0 at its end
abbrev pub returned : Statements → Option ℕ
returned End = Some 0
returned (Then s later) = None
returned (Returned v) = Some v

abbrev pub scalar_read : {R : Type 0} → Scalar → (ℕ → R) → Action Access R
scalar_read x k = Touch (Read x.width x.place) k

abbrev pub scalar_written : {R : Type 0} → Scalar → ℕ → R → Action Access R
scalar_written x v r = Touch (Write x.width x.place (low x.width v)) (λ _. r)

-- a procedure that there is not has no parameters and does nothing
abbrev pub parameters_of : Option Procedure → List Scalar
parameters_of (Some p) = p.parameters
parameters_of None = []

abbrev pub body_of : Option Procedure → Statements
body_of (Some p) = p.body
body_of None = End

-- ---- operators

abbrev pub operated : (module_index line : ℕ) → Option ℕ → Action Access Expression
operated module_index line (Some v) = Silent (Value v)
operated module_index line None = Bad module_index line

abbrev pub next_unary : UnaryOperation → Width → Option ℕ → Action Access Expression → Action Access Expression
next_unary o width None operand = map_action (Unary o width) operand
next_unary o width (Some v) operand = Silent (Value (unary_value o width v))

-- of two operands, the left one comes first
abbrev pub next_binary : (module_index line : ℕ) → BinaryOperation → Width → Option ℕ → Option ℕ → Expression → Expression → Action Access Expression → Action Access Expression → Action Access Expression
next_binary module_index line o width None y a b left right = map_action (λ r. Binary module_index line o width r b) left
next_binary module_index line o width (Some x) None a b left right = map_action (λ r. Binary module_index line o width a r) right
next_binary module_index line o width (Some x) (Some y) a b left right = operated module_index line (binary_value o width x y)

abbrev pub next_input : Width → Option ℕ → Action Access Expression → Action Access Expression
next_input width None port = map_action (rest.Input width) port
next_input width (Some p) port = Touch (Input width p) Value

-- ---- subscripts from left to right, then the base

-- a subscript that has its value moves the offset on by its stride for each element
abbrev pub indexed : (module_index line : ℕ) → Anchor → (offset stride : ℕ) → Option ℕ → Expression → Subscripts → Reference
indexed module_index line anchor offset stride (Some v) e more = Refer module_index line anchor ((offset + stride * v) % 65536) more
indexed module_index line anchor offset stride None e more = Refer module_index line anchor offset (Subscript stride e more)

abbrev pub next_anchor : (module_index line : ℕ) → Anchor → (offset : ℕ) → Action Access Reference
next_anchor module_index line (Behind base) offset = Touch (Read widths.Word base) (λ v. Refer module_index line (There v) offset NoSubscripts)
next_anchor module_index line (InObject k start size) offset = Over
next_anchor module_index line (OnScreen page start size) offset = Over
next_anchor module_index line (There address) offset = Over

-- ---- an access at a place, or a Bad step

abbrev pub read_at : Width → Reference → Option Where → Action Access Expression
read_at width r (Some x) = Touch (Read width x) Value
read_at width (Refer module_index line anchor offset s) None = Bad module_index line

-- a target that has its value is left out
abbrev pub written_at : Width → Reference → Option Where → ℕ → Action Access (Option Target)
written_at width r (Some x) v = Touch (Write width x (low width v)) (λ _. None)
written_at width (Refer module_index line anchor offset s) None v = Bad module_index line

abbrev pub next_port : Width → Option ℕ → ℕ → Action Access Expression → Action Access (Option Target)
next_port width None v port = map_action (λ r. Some (ToPort width r)) port
next_port width (Some p) v port = Touch (Output width p (low width v)) (λ _. None)

-- ---- embedded assignments and calls

abbrev pub embedded_after : ℕ → Option Target → Expression
embedded_after v (Some t) = Embedded t (Value v)
embedded_after v None = Value v

abbrev pub next_embedded : Target → Option ℕ → (ℕ → Action Access (Option Target)) → Action Access Expression → Action Access Expression
next_embedded t None target value = map_action (Embedded t) value
next_embedded t (Some v) target value = map_action (embedded_after v) (target v)

abbrev pub next_argument : Option ℕ → Expression → Expressions → Action Access Expression → Action Access Expressions → Action Access Expressions
next_argument None e es first others = map_action (λ r. More r es) first
next_argument (Some v) e es first others = map_action (More e) others

-- the parameters get the values from left to right, then the body runs
abbrev pub next_passing : ℕ → List Scalar → List ℕ → Statements → Action Access Expression
next_passing p (x ∷ xs) (v ∷ vs) body = scalar_written x v (Passing p xs vs)
next_passing p [] vs body = Silent (Running body)
next_passing p (x ∷ xs) [] body = Silent (Running body)

abbrev pub next_call : ℕ → Option (List ℕ) → Option Procedure → Action Access Expressions → Action Access Expression
next_call p None procedure arguments = map_action (Call p) arguments
next_call p (Some vs) procedure arguments = next_passing p (parameters_of procedure) vs (body_of procedure)

abbrev pub next_running : Option ℕ → Action Access Statements → Action Access Expression
next_running (Some v) body = Silent (Value v)
next_running None body = map_action Running body

-- ---- statements

-- what is left of an assignment of a value once its first target has stepped
abbrev pub assigned : Targets → ℕ → Statements → Option Target → Statements
assigned (Only t) v later None = later
assigned (Also t ts) v later None = Then (Assign ts (Value v)) later
assigned (Only t) v later (Some r) = Then (Assign (Only r) (Value v)) later
assigned (Also t ts) v later (Some r) = Then (Assign (Also r ts) (Value v)) later

-- the value comes first, then each target from left to right
abbrev pub next_assign : Targets → Option ℕ → Statements → (ℕ → Action Access (Option Target)) → Action Access Expression → Action Access Statements
next_assign ts None later target value = map_action (λ r. Then (Assign ts r) later) value
next_assign ts (Some v) later target value = map_action (assigned ts v later) (target v)

-- a value is dropped
abbrev pub evaluated : Option ℕ → Expression → Statements → Statements
evaluated (Some v) r later = later
evaluated None r later = Then (Evaluate r) later

abbrev pub next_return : Width → Option ℕ → Statements → Action Access Expression → Action Access Statements
next_return width None later value = map_action (λ r. Then (ReturnValue width r) later) value
next_return width (Some v) later value = Silent (Returned (low width v))

abbrev pub next_if : Option ℕ → (arm other later : Statements) → Action Access Expression → Action Access Statements
next_if None arm other later condition = map_action (λ r. Then (If r arm other) later) condition
next_if (Some v) arm other later condition = Silent (behind (if is_odd v then arm else other) later)

abbrev pub next_while : Option ℕ → Expression → (body later : Statements) → Action Access Expression → Action Access Statements
next_while None c body later condition = map_action (λ r. Then (While r c body) later) condition
next_while (Some v) c body later condition = Silent (if is_odd v then behind body (Then (While c c body) later) else later)

-- one case is dropped with each step
abbrev pub next_case : Option ℕ → (cases later : Statements) → Action Access Expression → Action Access Statements
next_case None cases later value = map_action (λ r. Then (Case r cases) later) value
next_case (Some v) End later value = Silent later
next_case (Some v) (Returned x) later value = Silent later
next_case (Some zero) (Then s cases) later value = Silent (Then s later)
next_case (Some (suc v)) (Then s cases) later value = Silent (Then (Case (Value v) cases) later)

abbrev pub index_of : Loop → Scalar
index_of (Count o x bound step body) = x

abbrev pub counting_of : Loop → Counting
counting_of (Count o x bound step body) = o

abbrev pub bound_of : Loop → Expression
bound_of (Count o x bound step body) = bound

abbrev pub step_of : Loop → Expression
step_of (Count o x bound step body) = step

abbrev pub rounds_of : Loop → Statements
rounds_of (Count o x bound step body) = body

abbrev pub next_iterate : Option ℕ → Loop → Statements → Action Access Expression → Action Access Statements
next_iterate None l later first = map_action (λ r. Then (Iterate r l) later) first
next_iterate (Some v) l later first = scalar_written (index_of l) v (Then (Round l) later)

-- whether an index is behind the bound
abbrev pub has_passed : Counting → (index bound : ℕ) → Bool
has_passed counting.Up i b = nat_lt b i
has_passed counting.SignedUp i b = signed_less b i
has_passed counting.SignedDown i b = signed_less i b

-- whether an index and a step have a sum outside the range of the index
abbrev pub leaves : Counting → Width → (index step : ℕ) → Bool
leaves counting.Up width i s = not (nat_lt (i + s) (values width))
leaves counting.SignedUp width i s = not (in_range 65536 (signed 65536 i +ℤ signed 65536 s))
leaves counting.SignedDown width i s = not (in_range 65536 (signed 65536 i +ℤ signed 65536 s))

abbrev pub next_comparing : (index : ℕ) → Option ℕ → Loop → Statements → Action Access Expression → Action Access Statements
next_comparing i None l later bound = map_action (λ r. Then (Comparing i r l) later) bound
next_comparing i (Some b) l later bound = Silent (if has_passed (counting_of l) i b then later else behind (rounds_of l) (Then (Stepping (step_of l) l) later))

abbrev pub next_stepping : Option ℕ → Loop → Statements → Action Access Expression → Action Access Statements
next_stepping None l later step = map_action (λ r. Then (Stepping r l) later) step
next_stepping (Some s) l later step = scalar_read (index_of l) (λ i. Then (Adding i s l) later)

-- the loop ends where the sum leaves the range of the index
abbrev pub next_ending : (leaves : Bool) → Loop → Statements → Action Access Statements
next_ending leaves l later = Silent (if leaves then later else Then (Round l) later)

-- ---- what comes next

-- the objects' offsets and sizes, and the procedures
module _ (offsets sizes : List ℕ) (procedures : List Procedure) where
  -- a reference's address, once its subscripts have their values and its base is read
  abbrev pub address_of : Reference → Option ℕ
  address_of (Refer module_index line anchor offset NoSubscripts) = address_at (anchored offsets sizes anchor) offset
  address_of (Refer module_index line anchor offset (Subscript stride e more)) = None

  abbrev pub place_of : Width → Reference → ℕ → Option Where
  place_of width (Refer module_index line anchor offset s) address = placed offsets sizes width anchor address

  abbrev pub next_variable : Width → Reference → Option ℕ → Action Access Reference → Action Access Expression
  next_variable width r None part = map_action (Variable width) part
  next_variable width r (Some a) part = read_at width r (place_of width r a)

  abbrev pub next_location : Option ℕ → Action Access Reference → Action Access Expression
  next_location None part = map_action Location part
  next_location (Some a) part = Silent (Value a)

  abbrev pub next_written : Width → Reference → Option ℕ → ℕ → Action Access Reference → Action Access (Option Target)
  next_written width r None v part = map_action (λ q. Some (ToVariable width q)) part
  next_written width r (Some a) v part = written_at width r (place_of width r a) v

  abbrev mutual
    pub next_expression : Expression → Action Access Expression
    next_expression (Constant k) = Silent (Value k)
    next_expression (Plain width place) = Touch (Read width place) Value
    next_expression (Variable width r) = next_variable width r (address_of r) (next_reference r)
    next_expression (Location r) = next_location (address_of r) (next_reference r)
    next_expression (Unary o width e) = next_unary o width (value_of e) (next_expression e)
    next_expression (Binary module_index line o width a b) = next_binary module_index line o width (value_of a) (value_of b) a b (next_expression a) (next_expression b)
    next_expression (Embedded t e) = next_embedded t (value_of e) (next_target t) (next_expression e)
    next_expression (rest.Input width p) = next_input width (value_of p) (next_expression p)
    next_expression (Call p es) = next_call p (values_of es) (slice_get procedures p) (next_expressions es)
    next_expression (Value v) = Over
    next_expression (Passing p xs vs) = next_passing p xs vs (body_of (slice_get procedures p))
    next_expression (Running ss) = next_running (returned ss) (next_statements ss)

    pub next_expressions : Expressions → Action Access Expressions
    next_expressions NoMore = Over
    next_expressions (More e es) = next_argument (value_of e) e es (next_expression e) (next_expressions es)

    pub next_reference : Reference → Action Access Reference
    next_reference (Refer module_index line anchor offset NoSubscripts) = next_anchor module_index line anchor offset
    next_reference (Refer module_index line anchor offset (Subscript stride e more)) =
        map_action (λ r. indexed module_index line anchor offset stride (value_of r) r more) (next_expression e)

    -- the target gets this value, of which the low bits are stored
    pub next_target : Target → ℕ → Action Access (Option Target)
    next_target (ToPlain width place) v = Touch (Write width place (low width v)) (λ _. None)
    next_target (ToVariable width r) v = next_written width r (address_of r) v (next_reference r)
    next_target (ToPort width p) v = next_port width (value_of p) v (next_expression p)

    pub next_first : Targets → ℕ → Action Access (Option Target)
    next_first (Only t) = next_target t
    next_first (Also t ts) = next_target t

    pub next_statement : Statement → Statements → Action Access Statements
    next_statement Empty later = Silent later
    next_statement (Assign ts e) later = next_assign ts (value_of e) later (next_first ts) (next_expression e)
    next_statement (Evaluate e) later = map_action (λ r. evaluated (value_of r) r later) (next_expression e)
    next_statement Return later = Silent (Returned 0)
    next_statement (ReturnValue width e) later = next_return width (value_of e) later (next_expression e)
    next_statement Enabling later = Enable later
    next_statement Disabling later = Disable later
    next_statement Halting later = Halt later
    next_statement (If c arm other) later = next_if (value_of c) arm other later (next_expression c)
    next_statement (Block ss) later = Silent (behind ss (Then Leaving later))
    next_statement (While r c ss) later = next_while (value_of r) c ss later (next_expression r)
    next_statement (Case e ss) later = next_case (value_of e) ss later (next_expression e)
    next_statement (Iterate a l) later = next_iterate (value_of a) l later (next_expression a)
    next_statement Leaving later = Silent later
    next_statement (Round l) later = scalar_read (index_of l) (λ i. Then (Comparing i (bound_of l) l) later)
    next_statement (Comparing i r l) later = next_comparing i (value_of r) l later (next_expression r)
    next_statement (Stepping r l) later = next_stepping (value_of r) l later (next_expression r)
    next_statement (Adding i s l) later = Silent (Then (Storing (i + s) (leaves (counting_of l) (index_of l).width i s) l) later)
    next_statement (Storing sum leaves l) later = scalar_written (index_of l) sum (Then (Ending leaves l) later)
    next_statement (Ending leaves l) later = next_ending leaves l later

    pub next_statements : Statements → Action Access Statements
    next_statements End = Over
    next_statements (Then s later) = next_statement s later
    next_statements (Returned v) = Over

  -- after main's last statement it halts again and again
  abbrev pub next_main : Statements → Action Access Statements → Action Access Rest
  next_main End body = Halt (Main End)
  next_main (Then s later) body = map_action Main body
  next_main (Returned v) body = Over

  -- an interrupt procedure is used up at its end, or by RETURN
  abbrev pub next_handler : Option ℕ → Action Access Statements → Action Access Rest
  next_handler (Some v) body = Over
  next_handler None body = map_action Handler body

  abbrev pub next : Rest → Action Access Rest
  next (Main ss) = next_main ss (next_statements ss)
  next (Handler ss) = next_handler (returned ss) (next_statements ss)
