-- What intermediate code means: a machine with an accumulator and a stack of words, as the 8086 has them. An instruction makes at
-- most one access. What no compiled program does (an access outside the objects and the screen, a quotient that there is not, a word of
-- the wrong kind on top) is Bad.
use Rattle.std.specs.Prelude.{ℕ, suc, ◌+◌, ◌-◌, ◌*◌, ◌/◌, ◌%◌, Bool, not, nat_eq, nat_lt, nat_le, if◌then◌else◌, List, [], ◌∷◌, drop, length, Option, Some, None, slice_get, slice_index}
use Rattle.std.specs.Int.Bits.{bit_and, bit_or, bit_xor}
use Rattle.word86.specs.declared.width.Width.{Width}
use Rattle.word86.specs.declared.width.Width.TheVariants as widths
use Rattle.word86.specs.declared.place.Place.{Place}
use Rattle.word86.specs.declared.place.Place.TheVariants as place
use Rattle.word86.specs.Access.{Access, Read, Write, Input, Output, Where}
use Rattle.word86.specs.Access as access
use Rattle.word86.specs.Action.{Action, Silent, Touch, Enable, Disable, Halt, Over, Bad}
use Rattle.word86.specs.Arithmetic.{low}
use Rattle.word86.specs.Operation.{unary_value, binary_value}
use Rattle.word86.specs.Signed.{signed_less}
use Rattle.word86.specs.Page.{page_begins, page_size}
use Rattle.word86.specs.Place.{bytes, covers, held}
use Rattle.icode.specs.declared.instruction.Instruction.{Instruction}
use Rattle.icode.specs.declared.instruction.Instruction.TheVariants as op
use Rattle.icode.specs.declared.instruction.Relation.{Relation}
use Rattle.icode.specs.declared.instruction.Relation.TheVariants as relation
use Rattle.icode.specs.declared.instruction.Test.{Test}
use Rattle.icode.specs.declared.instruction.Test.TheVariants as test
use Rattle.icode.specs.declared.instruction.LowByte.{LowByte}
use Rattle.icode.specs.declared.instruction.LowByte.TheVariants as lows
use Rattle.icode.specs.declared.instruction.High.{High}
use Rattle.icode.specs.declared.instruction.High.TheVariants as highs
use Rattle.icode.specs.declared.instruction.Right.{Right}
use Rattle.icode.specs.declared.instruction.Right.TheVariants as rights
use Rattle.icode.specs.declared.instruction.Direct.{Direct}
use Rattle.icode.specs.declared.instruction.Direct.TheVariants as directs
use Rattle.icode.specs.declared.code.Routine.{Routine}
use Rattle.icode.specs.declared.code.Routine.TheVariants.{Procedure, Nowhere}
use Rattle.icode.specs.declared.code.Position.{Position}
use Rattle.icode.specs.declared.code.Word.{Word}
use Rattle.icode.specs.declared.code.Word.TheVariants.{Value, Return}

-- a context: the place of its next instruction, the accumulator, and the words that it pushed, the newest first
pub data Context : Type 0 where
  At : Routine → (index accumulator : ℕ) → (words : List Word) → Context

abbrev pub is_odd : ℕ → Bool
is_odd v = nat_eq (v % 2) 1

abbrev pub stands : Relation → ℕ → ℕ → Bool
stands relation.Equal x y = nat_eq x y
stands relation.NotEqual x y = not (nat_eq x y)
stands relation.Less x y = nat_lt x y
stands relation.LessEqual x y = nat_le x y
stands relation.Greater x y = nat_lt y x
stands relation.GreaterEqual x y = nat_le y x
stands relation.LessSigned x y = signed_less x y
stands relation.LessEqualSigned x y = not (signed_less y x)
stands relation.GreaterSigned x y = signed_less y x
stands relation.GreaterEqualSigned x y = not (signed_less x y)

-- ---- low bytes

-- a word's high byte, or 0, and a low byte
abbrev pub settled : High → (word byte : ℕ) → ℕ
settled highs.Kept a v = a / 256 * 256 + v
settled highs.Cleared a v = v

-- operators on bytes
abbrev pub direct_value : Direct → ℕ → ℕ → ℕ
direct_value directs.Add x y = (x + y) % 256
direct_value directs.Subtract x y = (x + 256 - y) % 256
direct_value directs.And x y = bit_and x y
direct_value directs.Or x y = bit_or x y
direct_value directs.ExclusiveOr x y = bit_xor x y

-- an operator on a word's low byte and a byte
abbrev pub of_bytes : Direct → High → (word byte : ℕ) → ℕ
of_bytes o high x y = settled high x (direct_value o (x % 256) y)

-- ---- what needs a value, a word of the right kind, or a place

abbrev pub operated : Option ℕ → (ℕ → Context) → Action Access Context
operated (Some v) k = Silent (k v)
operated None k = Bad 0 0

-- the value at what was read; nothing goes on where there is none
abbrev pub computed : Option ℕ → Routine → (next : ℕ) → List Word → Context
computed (Some x) r p ws = At r p x ws
computed None r p ws = At Nowhere 0 0 ws

abbrev pub value_in : Option Word → Option ℕ
value_in (Some (Value v)) = Some v
value_in (Some (Return p)) = None
value_in None = None

-- the word on top, if it is a value; if it is where a call goes on
abbrev pub value_on_top : List Word → Option ℕ
value_on_top (Value v ∷ ws) = Some v
value_on_top (Return p ∷ ws) = None
value_on_top [] = None

abbrev pub return_on_top : List Word → Option Position
return_on_top (Return p ∷ ws) = Some p
return_on_top (Value v ∷ ws) = None
return_on_top [] = None

abbrev pub with_value : Option ℕ → (ℕ → Action Access Context) → Action Access Context
with_value (Some v) k = k v
with_value None k = Bad 0 0

abbrev pub loaded : Width → Option Where → (ℕ → Context) → Action Access Context
loaded width (Some x) k = Touch (Read width x) k
loaded width None k = Bad 0 0

abbrev pub stored : Width → Option Where → ℕ → Context → Action Access Context
stored width (Some x) v c = Touch (Write width x (low width v)) (λ _. c)
stored width None v c = Bad 0 0

-- a word whose low bits of this width are those of a value
abbrev pub with_low : Width → (word value : ℕ) → ℕ
with_low widths.Byte a v = a / 256 * 256 + v % 256
with_low widths.Word a v = v % 65536

-- a step is added, and the sum written; back to q unless it is below the step, as it is where it left the range of the width
abbrev pub stepped : Width → Option Where → (step : ℕ) → Routine → (p q accumulator : ℕ) → List Word → Action Access Context
stepped width x s r p q a ws = stored width x (a + s) (At r (if nat_lt (low width (a + s)) s then p else q) (with_low width a (a + s)) ws)

abbrev pub left : Option Position → ℕ → List Word → Action Access Context
left (Some p) a ws = Silent (At p.routine p.index a ws)
left None a ws = Bad 0 0

-- a context without its n newest words, if it has as many
abbrev pub dropped : (n : ℕ) → Routine → (next accumulator : ℕ) → List Word → Action Access Context
dropped n r p a ws = if nat_le n (length ws) then Silent (At r p a (drop n ws)) else Bad 0 0

abbrev pub finished : List Word → Action Access Context
finished [] = Over
finished (w ∷ ws) = Bad 0 0

-- how far a case leads on
abbrev pub case_of : Instruction → Option ℕ
case_of (op.Constant k) = None
case_of (op.Locate x) = None
case_of (op.LocateAt x) = None
case_of (op.Load width x) = None
case_of (op.LoadAt width x) = None
case_of (op.LoadThere width) = None
case_of (op.Low low high) = None
case_of op.Push = None
case_of (op.Pick n) = None
case_of (op.Drop n) = None
case_of (op.Unary o width) = None
case_of (op.Binary o width) = None
case_of (op.BinaryConstant o width k) = None
case_of (op.BinaryPlain o width read x) = None
case_of (op.Store width x) = None
case_of (op.StoreAt width x) = None
case_of (op.StoreThere width) = None
case_of (op.StoreTop width x) = None
case_of (op.StoreConstantAt width x k) = None
case_of (op.Send width) = None
case_of (op.SendTo width port) = None
case_of (op.Receive width) = None
case_of (op.ReceiveFrom width port) = None
case_of (op.Ahead n) = None
case_of (op.AheadUnless t n) = None
case_of (op.Back n) = None
case_of (op.BackUnless t n) = None
case_of (op.Next width x s n) = None
case_of (op.Switch n) = None
case_of (op.Case n) = Some n
case_of (op.Invoke q) = None
case_of op.Leave = None
case_of op.Enable = None
case_of op.Disable = None
case_of op.Halt = None
case_of op.Finish = None

abbrev pub at_case : Option ℕ → Routine → (behind accumulator : ℕ) → List Word → Action Access Context
at_case (Some n) r p a ws = Silent (At r (p + n) a ws)
at_case None r p a ws = Bad 0 0

abbrev pub case_in : Option Instruction → Option ℕ
case_in (Some i) = case_of i
case_in None = None

-- on at a case, if there is one
abbrev pub switched : Option Instruction → Routine → (behind accumulator : ℕ) → List Word → Action Access Context
switched i r p a ws = at_case (case_in i) r p a ws

-- the objects' offsets and sizes
module _ (offsets sizes : List ℕ) where
  -- the address this number of bytes after a place, in the segment of the objects or in the screen's
  abbrev pub address : Place → ℕ → ℕ
  address (place.Ram k i) more = (slice_index offsets k + i + more) % 65536
  address (place.Screen page i) more = (page_begins page + i + more) % 65536

  -- what lies at an address: in an object or, for a place on the screen, in the page of that place
  abbrev pub found : Width → Place → ℕ → Option Where
  found width (place.Ram k i) a = held 0 offsets sizes a (bytes width)
  found width (place.Screen page i) a = if covers (page_begins page) page_size a (bytes width) then Some (access.Screen page (a - page_begins page)) else None

  -- what the byte read this many bytes after a place leads to
  abbrev pub byte_at : Place → (more : ℕ) → (ℕ → Context) → Action Access Context
  byte_at x more k = loaded widths.Byte (found widths.Byte x (address x more)) k

  -- an operator on low bytes
  abbrev pub by_right : Direct → Right → High → Routine → (next accumulator : ℕ) → List Word → Action Access Context
  by_right o (rights.Constant k) high r p a ws = Silent (At r p (of_bytes o high a (k % 256)) ws)
  by_right o (rights.Plain x) high r p a ws = byte_at x 0 (λ v. At r p (of_bytes o high a v) ws)
  by_right o rights.Top high r p a ws = with_value (value_on_top ws) (λ v. Silent (At r p (of_bytes o high v (a % 256)) (drop 1 ws)))

  -- the low byte of the accumulator gets something
  abbrev pub run_low : LowByte → High → Routine → (next accumulator : ℕ) → List Word → Action Access Context
  run_low (lows.Constant k) high r p a ws = Silent (At r p (settled high a (k % 256)) ws)
  run_low (lows.Load x) high r p a ws = byte_at x 0 (λ v. At r p (settled high a v) ws)
  run_low (lows.LoadAt x) high r p a ws = byte_at x a (λ v. At r p (settled high a v) ws)
  run_low lows.LoadThere high r p a ws = loaded widths.Byte (held 0 offsets sizes a 1) (λ v. At r p (settled high a v) ws)
  run_low lows.Receive high r p a ws = Touch (Input widths.Byte a) (λ v. At r p (settled high a v) ws)
  run_low (lows.ReceiveFrom port) high r p a ws = Touch (Input widths.Byte port) (λ v. At r p (settled high a v) ws)
  run_low lows.High high r p a ws = Silent (At r p (settled high a (a / 256)) ws)
  run_low (lows.Operate o x) high r p a ws = by_right o x high r p a ws

  -- a jump to q unless low bytes stand in a relation, else on at p
  abbrev pub jumped_low : Relation → Right → Routine → (p q accumulator : ℕ) → List Word → Action Access Context
  jumped_low o (rights.Constant k) r p q a ws = Silent (At r (if stands o (a % 256) (k % 256) then p else q) a ws)
  jumped_low o (rights.Plain x) r p q a ws = byte_at x 0 (λ v. At r (if stands o (a % 256) v then p else q) a ws)
  jumped_low o rights.Top r p q a ws = with_value (value_on_top ws) (λ v. Silent (At r (if stands o (v % 256) (a % 256) then p else q) a (drop 1 ws)))

  -- a jump to q unless the test holds, else on at p
  abbrev pub jumped : Test → Routine → (p q accumulator : ℕ) → List Word → Action Access Context
  jumped test.Odd r p q a ws = Silent (At r (if is_odd a then p else q) a ws)
  jumped (test.Constant o k) r p q a ws = Silent (At r (if stands o a k then p else q) a ws)
  jumped (test.Plain o read x) r p q a ws = loaded read (found read x (address x 0)) (λ v. At r (if stands o a v then p else q) a ws)
  jumped (test.Top o) r p q a ws = with_value (value_on_top ws) (λ v. Silent (At r (if stands o v a then p else q) a (drop 1 ws)))
  jumped (test.Low o x) r p q a ws = jumped_low o x r p q a ws
  jumped (test.Named o read x k) r p q a ws = loaded read (found read x (address x 0)) (λ v. At r (if stands o v (low read k) then p else q) a ws)
  jumped (test.OddNamed x) r p q a ws = byte_at x 0 (λ v. At r (if is_odd v then p else q) a ws)

  -- an instruction among those of its routine; the index of the instruction after it; the accumulator; the words
  module _ (all : List Instruction) where
    abbrev pub run : Instruction → Routine → (next accumulator : ℕ) → List Word → Action Access Context
    run (op.Constant k) r p a ws = Silent (At r p k ws)
    run (op.Locate x) r p a ws = Silent (At r p (address x 0) ws)
    run (op.LocateAt x) r p a ws = Silent (At r p (address x a) ws)
    run (op.Load width x) r p a ws = loaded width (found width x (address x 0)) (λ v. At r p v ws)
    run (op.LoadAt width x) r p a ws = loaded width (found width x (address x a)) (λ v. At r p v ws)
    run (op.LoadThere width) r p a ws = loaded width (held 0 offsets sizes a (bytes width)) (λ v. At r p v ws)
    run (op.Low low high) r p a ws = run_low low high r p a ws
    run op.Push r p a ws = Silent (At r p a (Value a ∷ ws))
    run (op.Pick n) r p a ws = with_value (value_in (slice_get ws n)) (λ v. Silent (At r p v ws))
    run (op.Drop n) r p a ws = dropped n r p a ws
    run (op.Unary o width) r p a ws = Silent (At r p (unary_value o width a) ws)
    run (op.Binary o width) r p a ws = with_value (value_on_top ws) (λ v. operated (binary_value o width v a) (λ x. At r p x (drop 1 ws)))
    run (op.BinaryConstant o width k) r p a ws = operated (binary_value o width a k) (λ x. At r p x ws)
    run (op.BinaryPlain o width read x) r p a ws = loaded read (found read x (address x 0)) (λ v. computed (binary_value o width a v) r p ws)
    run (op.Store width x) r p a ws = stored width (found width x (address x 0)) a (At r p a ws)
    run (op.StoreAt width x) r p a ws = with_value (value_on_top ws) (λ v. stored width (found width x (address x a)) v (At r p v (drop 1 ws)))
    run (op.StoreThere width) r p a ws = with_value (value_on_top ws) (λ v. stored width (held 0 offsets sizes a (bytes width)) v (At r p v (drop 1 ws)))
    run (op.StoreTop width x) r p a ws = with_value (value_on_top ws) (λ v. stored width (found width x (address x 0)) v (At r p a (drop 1 ws)))
    run (op.StoreConstantAt width x k) r p a ws = stored width (found width x (address x a)) k (At r p k ws)
    run (op.Send width) r p a ws = with_value (value_on_top ws) (λ v. Touch (Output width a (low width v)) (λ _. At r p v (drop 1 ws)))
    run (op.SendTo width port) r p a ws = Touch (Output width port (low width a)) (λ _. At r p a ws)
    run (op.Receive width) r p a ws = Touch (Input width a) (λ v. At r p v ws)
    run (op.ReceiveFrom width port) r p a ws = Touch (Input width port) (λ v. At r p v ws)
    run (op.Ahead n) r p a ws = Silent (At r (p + n) a ws)
    run (op.AheadUnless t n) r p a ws = jumped t r p (p + n) a ws
    run (op.Back n) r p a ws = Silent (At r (p - n) a ws)
    run (op.BackUnless t n) r p a ws = jumped t r p (p - n) a ws
    run (op.Next width x s n) r p a ws = stepped width (found width x (address x 0)) s r p (p - n) a ws
    run (op.Switch n) r p a ws = if nat_lt a n then switched (slice_get all (p + a)) r (p + suc a) a ws else Silent (At r (p + n) a ws)
    run (op.Case n) r p a ws = Bad 0 0
    run (op.Invoke q) r p a ws = Silent (At (Procedure q) 0 a (Return (record { routine = r; index = p }) ∷ ws))
    run op.Leave r p a ws = left (return_on_top ws) a (drop 1 ws)
    run op.Enable r p a ws = Enable (At r p a ws)
    run op.Disable r p a ws = Disable (At r p a ws)
    run op.Halt r p a ws = Halt (At r p a ws)
    run op.Finish r p a ws = finished ws

    abbrev pub run_at : Option Instruction → Routine → (next accumulator : ℕ) → List Word → Action Access Context
    run_at (Some i) r p a ws = run i r p a ws
    run_at None r p a ws = Bad 0 0

  -- the instructions of each routine
  module _ (code : Routine → List Instruction) where
    -- what a context does next
    abbrev pub does : Context → Action Access Context
    does (At r p a ws) = run_at (code r) (slice_get (code r) p) r (p + 1) a ws
