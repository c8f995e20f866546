-- How much of the stack a program takes at most, from how many words each of its routines pushes and how long its paths of calls are.
use Rattle.std.specs.Prelude.{ℕ, ◌+◌, ◌*◌, ◌≤◌, List, length}
use Rattle.icode.specs.declared.code.Position.{Position}
use Rattle.icode.specs.declared.code.Routine.{Routine}
use Rattle.icode.specs.declared.code.Routine.TheVariants.{Main}
use Rattle.icode.specs.declared.code.Code.{Code}
use Rattle.icode.specs.Code.{code_of}
use Rattle.icode.specs.Counted.{IsPath, IsHandler, IsCounted}
use Rattle.icode.specs.Heights.{height}
use Rattle.frames.specs.Counting.{IsPastRoom}

-- Nowhere has a routine pushed more than this number of words; a path of calls from main has at most main_calls calls, and one from
-- what an interrupt enters at most interrupt_calls. A path has as many procedures as calls, and what an interrupt enters is one more.
pub record IsLimited (c : Code) (words main_calls interrupt_calls : ℕ) : Type 0 where
  pub low : (r : Routine) (k : ℕ) → height (code_of c r) k ≤ words
  pub from_main : (ps : List Position) (r : Routine) → IsPath (code_of c) Main ps r → length ps ≤ main_calls
  pub from_interrupt : (begin : Routine) → IsHandler c begin → (ps : List Position) (r : Routine) → IsPath (code_of c) begin ps r → length ps ≤ interrupt_calls

-- the words of a routine and of those that are called on a path with this number of calls: each call pushes where it goes on
abbrev pub words_of : (words calls : ℕ) → ℕ
words_of words calls = words + calls * (words + 1)

-- What is counted, in bytes: an interrupt's entry has 3 words, and at most 5 registers are saved.
abbrev pub StackIsBounded : Type 0
StackIsBounded =
    (c : Code) (words main_calls interrupt_calls main handler : ℕ) → IsLimited c words main_calls interrupt_calls → IsCounted c main handler
    → (main ≤ 2 * words_of words main_calls) × (handler ≤ 2 * (8 + words_of words interrupt_calls))

-- With at most 193 words in each routine, and 8 calls on both paths together, the stack has room.
abbrev pub SmallProgramsFit : Type 0
SmallProgramsFit = (c : Code) (main_calls interrupt_calls : ℕ) → IsLimited c 193 main_calls interrupt_calls → main_calls + interrupt_calls ≤ 8 → IsPastRoom c → ⊥
