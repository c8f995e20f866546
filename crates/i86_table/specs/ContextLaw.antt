-- A context's registers are the processor's, at whatever place and stack pointer. SP is none of them.
use Rattle.std.specs.Prelude.{ℕ, false, ◌≡◌}
use Rattle.i86_table.specs.declared.registers.Register16.{Register16}
use Rattle.i86_table.specs.declared.registers.Register8.{Register8}
use Rattle.i86_table.specs.declared.instruction.Address.{Address}
use Rattle.i86_table.specs.declared.instruction.Port.{Port}
use Rattle.i86_table.specs.State.{word_of, byte_of, with_word, with_byte, offset_of, port_of}
use Rattle.i86_table.specs.Contexts.{Working, all_registers, is_sp, word_in, byte_in, set_word, set_byte, offset_in, port_in}

pub record ContextRegisters : Type 0 where
  -- what a register holds, and what operands name by registers
  pub words : (place : ℕ) (g : Working) (sp : ℕ) (r : Register16) → is_sp r ≡ false → word_of (all_registers place g sp) r ≡ word_in g r
  pub bytes : (place : ℕ) (g : Working) (sp : ℕ) (r : Register8) → byte_of (all_registers place g sp) r ≡ byte_in g r
  pub offsets : (place : ℕ) (g : Working) (sp : ℕ) (address : Address) → offset_of (all_registers place g sp) address ≡ offset_in g address
  pub ports : (place : ℕ) (g : Working) (sp : ℕ) (port : Port) → port_of (all_registers place g sp) port ≡ port_in g port
  -- a register is set, and place, stack pointer and flags are as they were
  pub set_words : (place : ℕ) (g : Working) (sp : ℕ) (r : Register16) (v : ℕ) → is_sp r ≡ false → with_word (all_registers place g sp) r v ≡ all_registers place (set_word g r v) sp
  pub set_bytes : (place : ℕ) (g : Working) (sp : ℕ) (r : Register8) (v : ℕ) → with_byte (all_registers place g sp) r v ≡ all_registers place (set_byte g r v) sp
  pub word_flags : (g : Working) (r : Register16) (v : ℕ) → (set_word g r v).flags ≡ g.flags
  pub byte_flags : (g : Working) (r : Register8) (v : ℕ) → (set_byte g r v).flags ≡ g.flags
