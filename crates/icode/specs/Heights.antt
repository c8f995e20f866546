-- Code of which one can tell, without running it, how many values are pushed at each place, and in which order procedures call.
use Rattle.std.specs.Prelude.{◌≡◌, ℕ, suc, ◌+◌, ◌-◌, ◌<◌, ◌≤◌, nat_eq, List, [], ◌∷◌, take, length, Option, Some, None, slice_get, cond}
use Rattle.icode.specs.declared.instruction.Instruction.{Instruction}
use Rattle.icode.specs.declared.instruction.Instruction.TheVariants as op
use Rattle.icode.specs.declared.instruction.Test.{Test}
use Rattle.icode.specs.declared.instruction.Test.TheVariants as test
use Rattle.icode.specs.declared.instruction.LowByte.{LowByte}
use Rattle.icode.specs.declared.instruction.LowByte.TheVariants as lows
use Rattle.icode.specs.declared.instruction.Right.{Right}
use Rattle.icode.specs.declared.instruction.Right.TheVariants as rights
use Rattle.icode.specs.declared.code.Procedure.{Procedure}

-- ---- heights

abbrev pub popped : Test → ℕ
popped test.Odd = 0
popped (test.Constant o k) = 0
popped (test.Plain o read x) = 0
popped (test.Top o) = 1
popped (test.Low o (rights.Constant k)) = 0
popped (test.Low o (rights.Plain x)) = 0
popped (test.Low o rights.Top) = 1
popped (test.Named o read x k) = 0
popped (test.OddNamed x) = 0

-- how many values of this number are left once an operator has its right operand
abbrev pub after_right : Right → ℕ → ℕ
after_right (rights.Constant k) h = h
after_right (rights.Plain x) h = h
after_right rights.Top h = h - 1

abbrev pub after_low : LowByte → ℕ → ℕ
after_low (lows.Constant k) h = h
after_low (lows.Load x) h = h
after_low (lows.LoadAt x) h = h
after_low lows.LoadThere h = h
after_low lows.Receive h = h
after_low (lows.ReceiveFrom port) h = h
after_low lows.High h = h
after_low (lows.Operate o x) h = after_right x h

-- how many values a routine has pushed after an instruction, of this number before it
abbrev pub after : Instruction → ℕ → ℕ
after (op.Constant k) h = h
after (op.Locate x) h = h
after (op.LocateAt x) h = h
after (op.Load width x) h = h
after (op.LoadAt width x) h = h
after (op.LoadThere width) h = h
after (op.Low low high) h = after_low low h
after op.Push h = suc h
after (op.Pick n) h = h
after (op.Drop n) h = h - n
after (op.Unary o width) h = h
after (op.Binary o width) h = h - 1
after (op.BinaryConstant o width k) h = h
after (op.BinaryPlain o width read x) h = h
after (op.Store width x) h = h
after (op.StoreAt width x) h = h - 1
after (op.StoreThere width) h = h - 1
after (op.StoreTop width x) h = h - 1
after (op.StoreConstantAt width x k) h = h
after (op.Send width) h = h - 1
after (op.SendTo width port) h = h
after (op.Receive width) h = h
after (op.ReceiveFrom width port) h = h
after (op.Ahead n) h = h
after (op.AheadUnless t n) h = h - popped t
after (op.Back n) h = h
after (op.BackUnless t n) h = h - popped t
after (op.Next width x s n) h = h
after (op.Switch n) h = h
after (op.Case n) h = h
after (op.Invoke q) h = h
after op.Leave h = h
after op.Enable h = h
after op.Disable h = h
after op.Halt h = h
after op.Finish h = h

abbrev pub behind : ℕ → List Instruction → ℕ
behind h [] = h
behind h (x ∷ xs) = behind (after x h) xs

-- how many values a routine has pushed at an index, counted along its instructions
abbrev pub height : List Instruction → ℕ → ℕ
height all k = behind 0 (take k all)

-- where a jump leads, where p is the index after it
abbrev pub target : Instruction → (p : ℕ) → Option ℕ
target (op.Constant k) p = None
target (op.Locate x) p = None
target (op.LocateAt x) p = None
target (op.Load width x) p = None
target (op.LoadAt width x) p = None
target (op.LoadThere width) p = None
target (op.Low low high) p = None
target op.Push p = None
target (op.Pick n) p = None
target (op.Drop n) p = None
target (op.Unary o width) p = None
target (op.Binary o width) p = None
target (op.BinaryConstant o width k) p = None
target (op.BinaryPlain o width read x) p = None
target (op.Store width x) p = None
target (op.StoreAt width x) p = None
target (op.StoreThere width) p = None
target (op.StoreTop width x) p = None
target (op.StoreConstantAt width x k) p = None
target (op.Send width) p = None
target (op.SendTo width port) p = None
target (op.Receive width) p = None
target (op.ReceiveFrom width port) p = None
target (op.Ahead n) p = Some (p + n)
target (op.AheadUnless t n) p = Some (p + n)
target (op.Back n) p = Some (p - n)
target (op.BackUnless t n) p = Some (p - n)
target (op.Next width x s n) p = Some (p - n)
target (op.Switch n) p = Some (p + n)
target (op.Case n) p = Some (p + n)
target (op.Invoke q) p = None
target op.Leave p = None
target op.Enable p = None
target op.Disable p = None
target op.Halt p = None
target op.Finish p = None

-- The heights are the same along every run.
pub record HasHeights (all : List Instruction) : Type 0 where
  -- a Drop takes no more values than the routine has pushed; others that find no value are Bad
  pub drops : (k n : ℕ) → slice_get all k ≡ Some (op.Drop n) → n ≤ height all k
  -- no value is pushed after a jump, and none where it leads
  pub flat : (k t : ℕ) (x : Instruction) → slice_get all k ≡ Some x → target x (k + 1) ≡ Some t → (height all (k + 1) ≡ 0) × (height all t ≡ 0)

-- ---- the order of procedures

-- the number of the procedure that an instruction calls
abbrev pub called : Instruction → Option ℕ
called (op.Constant k) = None
called (op.Locate x) = None
called (op.LocateAt x) = None
called (op.Load width x) = None
called (op.LoadAt width x) = None
called (op.LoadThere width) = None
called (op.Low low high) = None
called op.Push = None
called (op.Pick n) = None
called (op.Drop n) = None
called (op.Unary o width) = None
called (op.Binary o width) = None
called (op.BinaryConstant o width k) = None
called (op.BinaryPlain o width read x) = None
called (op.Store width x) = None
called (op.StoreAt width x) = None
called (op.StoreThere width) = None
called (op.StoreTop width x) = None
called (op.StoreConstantAt width x k) = None
called (op.Send width) = None
called (op.SendTo width port) = None
called (op.Receive width) = None
called (op.ReceiveFrom width port) = None
called (op.Ahead n) = None
called (op.AheadUnless t n) = None
called (op.Back n) = None
called (op.BackUnless t n) = None
called (op.Next width x s n) = None
called (op.Switch n) = None
called (op.Case n) = None
called (op.Invoke q) = Some q
called op.Leave = None
called op.Enable = None
called op.Disable = None
called op.Halt = None
called op.Finish = None

-- a procedure that there is not has none
abbrev pub instructions_of : Option Procedure → List Instruction
instructions_of (Some p) = p.instructions.items
instructions_of None = []

-- where a number first stands in a list
abbrev pub place_in : List ℕ → ℕ → ℕ
place_in [] p = 0
place_in (x ∷ xs) p = cond (nat_eq x p) 0 (suc (place_in xs p))

-- each procedure stands in it once, after those that it calls
pub record AreOrdered (order : List ℕ) (procedures : List Procedure) : Type 0 where
  pub each : (p : ℕ) → p < length procedures → slice_get order (place_in order p) ≡ Some p
  pub once : (i p : ℕ) → slice_get order i ≡ Some p → place_in order p ≡ i
  pub later : (p q k : ℕ) → q < length procedures → slice_get (instructions_of (slice_get procedures p)) k ≡ Some (op.Invoke q) → place_in order q < place_in order p
