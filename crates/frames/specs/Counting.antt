-- What the counted stack promises of every run.
use Rattle.std.specs.Prelude.{◌≡◌, ℕ, ◌+◌, ◌*◌, ◌≤◌, ◌<◌, List, [], length, Some, slice_get, slice_index_or, ◌⊎◌}
use Rattle.word86.specs.declared.fault.Fault.{Fault}
use Rattle.word86.specs.declared.fault.Fault.TheVariants as fault
use Rattle.word86.specs.declared.number.Number.TheVariants.{E501}
use Rattle.word86.specs.MemoryMap.{stack_room}
use Rattle.icode.specs.declared.instruction.Instruction.{Instruction}
use Rattle.icode.specs.declared.code.Routine.{Routine}
use Rattle.icode.specs.declared.code.Routine.TheVariants.{Main, Procedure}
use Rattle.icode.specs.declared.code.Word.{Word}
use Rattle.icode.specs.declared.code.Code.{Code}
use Rattle.icode.specs.declared.registers.Registers.{Registers}
use Rattle.icode.specs.Code.{code_of, serving}
use Rattle.icode.specs.Counted.{IsChanged, number_of, IsCounted}
use Rattle.icode.specs.Machine.{At, does}
use Rattle.icode.specs.Registers.{none, joined, changes}
use Rattle.icode.specs.Runs.{Comes}

-- Wherever main's code comes to, and an interrupt's, whatever is answered and wherever the objects lie, there are no more words on
-- the stack than are counted; and an interrupt comes to no instruction that can change another register than those that are saved.
pub record NoRunPasses (c : Code) (main handler : ℕ) : Type 0 where
  pub of_main : (offsets sizes : List ℕ) (n a : ℕ) (r : Routine) (k b : ℕ) (ws : List Word)
      → Comes (does offsets sizes (code_of c)) (At Main 0 a []) n (At r k b ws)
      → 2 * length ws ≤ main
  pub of_interrupt : (offsets sizes : List ℕ) (v n a : ℕ) (g : Registers) (r : Routine) (k b : ℕ) (ws : List Word)
      → IsChanged (code_of c) (serving c v) g
      → Comes (does offsets sizes (code_of c)) (At (serving c v) 0 a []) n (At r k b ws)
      → 6 + 2 * number_of g + 2 * length ws ≤ handler
  pub of_registers : (offsets sizes : List ℕ) (v n a : ℕ) (g : Registers) (r : Routine) (k b : ℕ) (ws : List Word) (x : Instruction)
      → IsChanged (code_of c) (serving c v) g
      → Comes (does offsets sizes (code_of c)) (At (serving c v) 0 a []) n (At r k b ws) → slice_get (code_of c r) k ≡ Some x
      → joined g (changes x) ≡ g

-- the stack has no room for it
pub record IsPastRoom (c : Code) : Type 0 where
  pub main : ℕ
  pub handler : ℕ
  pub is_counted : IsCounted c main handler
  pub is_past : stack_room < main + handler

-- Memory, or E501, which stands at the first line of the first module, where the stack has no room
abbrev pub IsRefusal : Code → Fault → Type 0
IsRefusal c f = (f ≡ fault.Memory) ⊎ ((f ≡ fault.At 0 1 E501) × IsPastRoom c)

-- of each procedure, the registers that it and what it calls can change
abbrev pub AreSaved : Code → List Registers → Type 0
AreSaved c gs = (k : ℕ) → k < length c.procedures.items → IsChanged (code_of c) (Procedure k) (slice_index_or gs k none)
