-- The code of statements, and of a routine.
use Rattle.std.specs.Prelude.{ℕ, ◌+◌, ◌%◌, Bool, true, false, ◌&&◌, List, [], ◌∷◌, ◌++◌, length, Option, Some, None}
use Rattle.word86.specs.declared.width.Width.{Width}
use Rattle.word86.specs.declared.width.Width.TheVariants as widths
use Rattle.word86.specs.declared.operation.UnaryOperation.TheVariants as unary
use Rattle.word86.specs.declared.operation.BinaryOperation.TheVariants as binary
use Rattle.plm_type.specs.declared.program.Counting.{Counting}
use Rattle.plm_type.specs.declared.program.Counting.TheVariants as counting
use Rattle.plm_type.specs.Rest.{Anchor, InObject, OnScreen, Behind, There, Subscripts, NoSubscripts, Subscript, Refer, Target, ToPlain, ToVariable, ToPort, Targets, Only, Also, Expression, Scalar, Count, Statement, Empty, Assign, Evaluate, Return, ReturnValue, Enabling, Disabling, Halting, If, Block, While, Case, Iterate, Leaving, Round, Comparing, Stepping, Adding, Storing, Ending, Statements, End, Then, Returned, Procedure}
use Rattle.icode.specs.declared.instruction.Instruction.{Instruction}
use Rattle.icode.specs.declared.instruction.Instruction.TheVariants as op
use Rattle.icode.specs.declared.instruction.LowByte.TheVariants as lows
use Rattle.icode.specs.declared.instruction.High.TheVariants as highs
use Rattle.icode.specs.declared.instruction.Relation.{Relation}
use Rattle.icode.specs.declared.instruction.Relation.TheVariants as relation
use Rattle.icode.specs.declared.instruction.Test.{Test}
use Rattle.icode.specs.declared.instruction.Test.TheVariants as test
pub use Rattle.lower.specs.declared.kind.Kind.{Kind}
pub use Rattle.lower.specs.declared.kind.Kind.TheVariants.{OfMain, Called, Giving, Serving}
use Rattle.lower.specs.Expressions.{Computed, Name, Number, Operand, anchor_place, beside, dropped_code, expression_code, folded, leads_to, operand_of, place_of, subscripts_code, targets_code}
use Rattle.lower.specs.LowBytes.{given_code, returned_code, low_code, low_load, is_narrow, is_byte}
use Rattle.lower.specs.Conditions.{condition_code, test_of, always, compared, named, unless_named, compared_by}

-- ---- statements

-- what RETURN is in a routine: one that gives a value elsewhere gives 0
abbrev pub returning : Kind → List Instruction
returning OfMain = []
returning Called = op.Leave ∷ []
returning Giving = op.Constant 0 ∷ op.Leave ∷ []
returning Serving = op.Finish ∷ []

abbrev pub narrowed : Width → List Instruction
narrowed widths.Byte = op.Unary unary.Low widths.Word ∷ []
narrowed widths.Word = []

-- a round begins where the index stands in this relation to the bound
abbrev pub within : Counting → Relation
within counting.Up = relation.LessEqual
within counting.SignedUp = relation.LessEqualSigned
within counting.SignedDown = relation.GreaterEqualSigned

-- The end of a round: the step is added, and unless the sum left the range of the index a next round begins `before` instructions back.
-- A constant step is an operand, as each one of an INTEGER is; every other one is pushed twice.

-- of an INTEGER, whose sum left its range where it stands in this relation to this number
abbrev pub next_with_sign : (left : Relation) (from : ℕ) → Scalar → (step before : ℕ) → List Instruction
next_with_sign left from x s before =
    op.Load x.width (place_of x.place) ∷ op.BinaryConstant binary.Add x.width s ∷ op.Store x.width (place_of x.place)
    ∷ op.BackUnless (test.Constant left from) (before + 4) ∷ []

-- A BYTE or WORD has one instruction for it. An INTEGER left its range by a step of s where the sum is below s - 32,768, or, where s is
-- negative, above s + 32,767.
abbrev pub next_by_number : Counting → Scalar → (step before : ℕ) → List Instruction
next_by_number counting.Up x s before = low_load x.width (place_of x.place) ∷ op.Next x.width (place_of x.place) s (before + 2) ∷ []
next_by_number counting.SignedUp x s before = next_with_sign relation.LessSigned ((s + 32768) % 65536) x s before
next_by_number counting.SignedDown x s before = next_with_sign relation.GreaterSigned ((s + 32767) % 65536) x s before

abbrev pub add_pushed : Scalar → (before : ℕ) → List Instruction
add_pushed x before =
    op.Push ∷ op.Push ∷ op.Load x.width (place_of x.place) ∷ op.Binary binary.Add x.width ∷ op.Store x.width (place_of x.place)
    ∷ op.BackUnless (test.Top relation.Greater) (before + 6) ∷ []

abbrev pub next_round : Counting → Scalar → Operand → List Instruction → (before : ℕ) → List Instruction
next_round o x (Number s) code before = next_by_number o x s before
next_round o x (Name read y) code before = code ++ add_pushed x (before + length code)
next_round o x Computed code before = code ++ add_pushed x (before + length code)

-- whether a BYTE index is compared with a byte
abbrev pub counts_bytes : Scalar → (bound : Expression) → Bool
counts_bytes x bound = is_narrow x.width && is_byte bound

-- the index, before it is compared
abbrev pub index_read : (bytes : Bool) → Scalar → Instruction
index_read true x = op.Low (lows.Load (place_of x.place)) highs.Kept
index_read false x = op.Load x.width (place_of x.place)

-- A constant for a variable with subscripts that are not known: they alone are computed, and the store has the constant. A variable behind a
-- base, and one without subscripts, get it from the accumulator.
abbrev pub constant_store : Width → Anchor → (offset : ℕ) → Subscripts → (k : ℕ) → Option Instruction
constant_store width (InObject j start size) offset (Subscript stride e more) k = Some (op.StoreConstantAt width (anchor_place (InObject j start size) offset) k)
constant_store width (OnScreen page start size) offset (Subscript stride e more) k = Some (op.StoreConstantAt width (anchor_place (OnScreen page start size) offset) k)
constant_store width (InObject j start size) offset NoSubscripts k = None
constant_store width (OnScreen page start size) offset NoSubscripts k = None
constant_store width (Behind base) offset ss k = None
constant_store width (There address) offset ss k = None

abbrev pub unless_known_place : Option ℕ → Option Instruction → Option Instruction
unless_known_place (Some offset) store = None
unless_known_place None store = store

-- the store of a constant to a target
abbrev pub store_in : Target → (k : ℕ) → Option Instruction
store_in (ToPlain width x) k = None
store_in (ToVariable width (Refer module_index line anchor offset ss)) k = unless_known_place (leads_to (Some offset) ss) (constant_store width anchor offset ss k)
store_in (ToPort width port) k = None

-- the store of a value, of which this is known before any run, to one target
abbrev pub known_store : Targets → (value : Option ℕ) → Option Instruction
known_store (Only t) (Some k) = store_in t k
known_store (Only t) None = None
known_store (Also t ts) value = None

-- the subscripts of a target's variable
abbrev pub target_subscripts : Targets → Subscripts
target_subscripts (Only (ToPlain width x)) = NoSubscripts
target_subscripts (Only (ToVariable width (Refer module_index line anchor offset ss))) = ss
target_subscripts (Only (ToPort width port)) = NoSubscripts
target_subscripts (Also t ts) = NoSubscripts

-- by a store of a constant, if there is one for it
abbrev pub by_store : Option Instruction → (subscripts otherwise : List Instruction) → List Instruction
by_store (Some store) subscripts otherwise = subscripts ++ store ∷ []
by_store None subscripts otherwise = otherwise

-- a statement without code: nothing stands for the empty one, nor for a block of such
abbrev mutual
  pub is_silent : Statement → Bool
  is_silent Empty = true
  is_silent (Block ss) = are_silent ss
  is_silent (Assign ts e) = false
  is_silent (Evaluate e) = false
  is_silent Return = false
  is_silent (ReturnValue width e) = false
  is_silent Enabling = false
  is_silent Disabling = false
  is_silent Halting = false
  is_silent (If c arm other) = false
  is_silent (While c d ss) = false
  is_silent (Case e ss) = false
  is_silent (Iterate a l) = false
  is_silent Leaving = false
  is_silent (Round l) = false
  is_silent (Comparing i e l) = false
  is_silent (Stepping e l) = false
  is_silent (Adding i s l) = false
  is_silent (Storing s leaves l) = false
  is_silent (Ending leaves l) = false

  pub are_silent : Statements → Bool
  are_silent End = true
  are_silent (Then s later) = is_silent s && are_silent later
  are_silent (Returned v) = false

-- DO WHILE, without a test where its condition always holds
abbrev pub while_loop : (always : Bool) (condition : List Instruction) → Test → (body : List Instruction) (exit : ℕ) → List Instruction
while_loop true condition t body exit = body ++ op.Back (length body + 1) ∷ []
while_loop false condition t body exit = condition ++ (op.AheadUnless t (length body + 1 + exit) ∷ (body ++ op.Back (length condition + length body + 2) ∷ []))

-- after an arm, a jump over what is done otherwise, if anything is
abbrev pub over : (silent : Bool) (otherwise : List Instruction) (exit : ℕ) → List Instruction
over true otherwise exit = []
over false otherwise exit = op.Ahead (length otherwise + exit) ∷ []

-- Where a test fails, control goes on at what is done otherwise; if that is nothing, at the exit.
abbrev pub failing : (silent : Bool) (arm : List Instruction) (exit : ℕ) → ℕ
failing true arm exit = length arm + exit
failing false arm exit = length arm + 1

-- a condition, its test, what is done where it holds, and what is done otherwise, if anything is
abbrev pub choosing : (condition : List Instruction) → Test → (arm : List Instruction) (silent : Bool) (otherwise : List Instruction) (exit : ℕ) → List Instruction
choosing condition t arm silent otherwise exit = condition ++ (op.AheadUnless t (failing silent arm exit) ∷ (arm ++ (over silent otherwise exit ++ otherwise)))

abbrev pub all_of : List (List Instruction) → List Instruction
all_of [] = []
all_of (c ∷ cs) = c ++ all_of cs

-- For each case, how far it lies from the end of its entry: over the other entries, a jump, and the cases before it, which have this
-- number of instructions.
abbrev pub entries : (before : ℕ) → List (List Instruction) → List Instruction
entries before [] = []
entries before (c ∷ cs) = op.Case (length cs + 1 + before) ∷ entries (before + length c) cs

-- after the entries stands the jump for a value that has no case
abbrev pub switching : List (List Instruction) → (exit : ℕ) → List Instruction
switching cases exit = op.Switch (length cases) ∷ (entries 0 cases ++ (op.Ahead (length (all_of cases) + exit) ∷ all_of cases))

-- where control goes on after a statement: at what comes next, if that has code
abbrev pub exit_before : (silent : Bool) (exit : ℕ) → ℕ
exit_before true exit = exit
exit_before false exit = 0

module _ (procedures : List Procedure) (around : Kind) where
  -- Of a statement after which control goes on at an exit: this number of instructions after its own end, where a jump that stands
  -- there leads. So the ends of arms in arms are no chain of jumps.
  abbrev mutual
    pub statement_code : (exit : ℕ) → Statement → List Instruction
    statement_code exit Empty = []
    statement_code exit (Assign ts e) = by_store (known_store ts (folded e)) (subscripts_code procedures (target_subscripts ts)) (given_code procedures ts e ++ targets_code procedures ts)
    statement_code exit (Evaluate e) = dropped_code procedures e
    statement_code exit Return = returning around
    statement_code exit (ReturnValue width e) = returned_code procedures width e ++ (narrowed width ++ op.Leave ∷ [])
    statement_code exit Enabling = op.Enable ∷ []
    statement_code exit Disabling = op.Disable ∷ []
    statement_code exit Halting = op.Halt ∷ []
    statement_code exit (If c arm other) =
        let otherwise = statements_code exit other in
        let arm_exit = length (over (are_silent other) otherwise exit) + length otherwise + exit in
        choosing (condition_code procedures c) (test_of c) (statements_code arm_exit arm) (are_silent other) otherwise exit
    statement_code exit (Block ss) = statements_code exit ss
    statement_code exit (While c d ss) = while_loop (always d) (condition_code procedures d) (test_of d) (statements_code 0 ss) exit
    statement_code exit (Case e ss) = expression_code procedures e ++ switching (cases_code exit ss) exit
    statement_code exit (Iterate a (Count o x bound step ss)) =
        let bytes = counts_bytes x bound in
        let comparison = compared bytes (beside (operand_of bound) (low_code procedures bound)) (beside (operand_of bound) (expression_code procedures bound)) in
        let index = Name x.width (place_of x.place) in
        let asked = unless_named (named bytes (within o) index (operand_of bound)) (index_read bytes x ∷ comparison) in
        let body = statements_code 0 ss in
        let again = next_round o x (operand_of step) (expression_code procedures step) (length asked + length body + 1) in
        returned_code procedures x.width a
        ++ (op.Store x.width (place_of x.place)
        ∷ (asked ++ (op.AheadUnless (compared_by bytes (within o) index (operand_of bound)) (length body + length again + exit) ∷ (body ++ again))))
    statement_code exit Leaving = []
    statement_code exit (Round l) = []
    statement_code exit (Comparing i e l) = []
    statement_code exit (Stepping e l) = []
    statement_code exit (Adding i s l) = []
    statement_code exit (Storing s leaves l) = []
    statement_code exit (Ending leaves l) = []

    -- the last one has the exit of all
    pub statements_code : (exit : ℕ) → Statements → List Instruction
    statements_code exit End = []
    statements_code exit (Then s later) = statement_code (exit_before (are_silent later) exit) s ++ statements_code exit later
    statements_code exit (Returned v) = []

    -- each case goes on at the exit of all, over those after it
    pub cases_code : (exit : ℕ) → Statements → List (List Instruction)
    cases_code exit End = []
    cases_code exit (Then s later) =
        let others = cases_code exit later in
        let behind = length (all_of others) + exit in
        (statement_code (1 + behind) s ++ op.Ahead behind ∷ []) ∷ others
    cases_code exit (Returned v) = []

-- what stands at the end of a routine's statements: main halts there again and again
abbrev pub ending : Kind → List Instruction
ending OfMain = op.Halt ∷ op.Back 2 ∷ []
ending Called = returning Called
ending Giving = returning Giving
ending Serving = returning Serving

-- whether control never comes to the end of statements: the last one is a RETURN with a value, or goes on for ever
abbrev pub stays : Statement → Bool
stays (ReturnValue width e) = true
stays (While c d ss) = always d
stays Empty = false
stays (Assign ts e) = false
stays (Evaluate e) = false
stays Return = false
stays Enabling = false
stays Disabling = false
stays Halting = false
stays (If c arm other) = false
stays (Block ss) = false
stays (Case e ss) = false
stays (Iterate a l) = false
stays Leaving = false
stays (Round l) = false
stays (Comparing i e l) = false
stays (Stepping e l) = false
stays (Adding i s l) = false
stays (Storing s leaves l) = false
stays (Ending leaves l) = false

abbrev pub all_stay : Statements → Bool
all_stay End = false
all_stay (Then s End) = stays s
all_stay (Then s (Then t later)) = all_stay (Then t later)
all_stay (Then s (Returned v)) = false
all_stay (Returned v) = false

abbrev pub ended_by : (stays : Bool) → Kind → List Instruction
ended_by true around = []
ended_by false around = ending around

abbrev pub routine_code : List Procedure → Kind → Statements → List Instruction
routine_code procedures around ss = statements_code procedures around 0 ss ++ ended_by (all_stay ss) around
