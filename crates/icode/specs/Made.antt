-- Code from which instructions can be selected.
use Rattle.std.specs.Prelude.{◌≡◌, ℕ, ◌+◌, ◌<◌, Bool, true, false, List, length, Option, Some, None, slice_get}
use Rattle.icode.specs.declared.instruction.Instruction.{Instruction}
use Rattle.icode.specs.declared.instruction.Instruction.TheVariants as op
use Rattle.icode.specs.declared.instruction.Test.{Test}
use Rattle.icode.specs.declared.instruction.Test.TheVariants as test
use Rattle.icode.specs.Heights.{target}
use Rattle.icode.specs.Machine.{case_of}

-- the constant that an instruction takes whole, or 0
abbrev pub asked_constant : Test → ℕ
asked_constant test.Odd = 0
asked_constant (test.Constant o k) = k
asked_constant (test.Plain o read x) = 0
asked_constant (test.Top o) = 0
asked_constant (test.Low o x) = 0
asked_constant (test.Named o read x k) = k
asked_constant (test.OddNamed x) = 0

abbrev pub constant_in : Instruction → ℕ
constant_in (op.Constant k) = k
constant_in (op.Locate x) = 0
constant_in (op.LocateAt x) = 0
constant_in (op.Load width x) = 0
constant_in (op.LoadAt width x) = 0
constant_in (op.LoadThere width) = 0
constant_in (op.Low low high) = 0
constant_in op.Push = 0
constant_in (op.Pick n) = 0
constant_in (op.Drop n) = 0
constant_in (op.Unary o width) = 0
constant_in (op.Binary o width) = 0
constant_in (op.BinaryConstant o width k) = k
constant_in (op.BinaryPlain o width read x) = 0
constant_in (op.Store width x) = 0
constant_in (op.StoreAt width x) = 0
constant_in (op.StoreThere width) = 0
constant_in (op.StoreTop width x) = 0
constant_in (op.StoreConstantAt width x k) = k
constant_in (op.Send width) = 0
constant_in (op.SendTo width port) = 0
constant_in (op.Receive width) = 0
constant_in (op.ReceiveFrom width port) = 0
constant_in (op.Ahead n) = 0
constant_in (op.AheadUnless t n) = asked_constant t
constant_in (op.Back n) = 0
constant_in (op.BackUnless t n) = asked_constant t
constant_in (op.Next width x s n) = s
constant_in (op.Switch n) = 0
constant_in (op.Case n) = 0
constant_in (op.Invoke q) = 0
constant_in op.Leave = 0
constant_in op.Enable = 0
constant_in op.Disable = 0
constant_in op.Halt = 0
constant_in op.Finish = 0

-- how many cases stand after an instruction
abbrev pub cases_of : Instruction → ℕ
cases_of (op.Constant k) = 0
cases_of (op.Locate x) = 0
cases_of (op.LocateAt x) = 0
cases_of (op.Load width x) = 0
cases_of (op.LoadAt width x) = 0
cases_of (op.LoadThere width) = 0
cases_of (op.Low low high) = 0
cases_of op.Push = 0
cases_of (op.Pick n) = 0
cases_of (op.Drop n) = 0
cases_of (op.Unary o width) = 0
cases_of (op.Binary o width) = 0
cases_of (op.BinaryConstant o width k) = 0
cases_of (op.BinaryPlain o width read x) = 0
cases_of (op.Store width x) = 0
cases_of (op.StoreAt width x) = 0
cases_of (op.StoreThere width) = 0
cases_of (op.StoreTop width x) = 0
cases_of (op.StoreConstantAt width x k) = 0
cases_of (op.Send width) = 0
cases_of (op.SendTo width port) = 0
cases_of (op.Receive width) = 0
cases_of (op.ReceiveFrom width port) = 0
cases_of (op.Ahead n) = 0
cases_of (op.AheadUnless t n) = 0
cases_of (op.Back n) = 0
cases_of (op.BackUnless t n) = 0
cases_of (op.Next width x s n) = 0
cases_of (op.Switch n) = n
cases_of (op.Case n) = 0
cases_of (op.Invoke q) = 0
cases_of op.Leave = 0
cases_of op.Enable = 0
cases_of op.Disable = 0
cases_of op.Halt = 0
cases_of op.Finish = 0

abbrev pub is_there : Option ℕ → Bool
is_there (Some n) = true
is_there None = false

abbrev pub is_case : Option Instruction → Bool
is_case (Some x) = is_there (case_of x)
is_case None = false

pub record IsMade (all : List Instruction) : Type 0 where
  -- a constant is a word
  pub numbered : (k : ℕ) (x : Instruction) → slice_get all k ≡ Some x → constant_in x < 65536
  pub cases : (k j : ℕ) (x : Instruction) → slice_get all k ≡ Some x → j < cases_of x → is_case (slice_get all (k + 1 + j)) ≡ true
  -- a jump leads to an instruction
  pub inside : (k t : ℕ) (x : Instruction) → slice_get all k ≡ Some x → target x (k + 1) ≡ Some t → t < length all
