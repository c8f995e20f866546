-- The instructions that an open one becomes: one for each number in its word.
use Rattle.std.specs.Prelude.{ℕ, Option, Some, None}
use Rattle.i86_table.specs.declared.registers.Register16.{Register16}
use Rattle.i86_table.specs.declared.registers.Register16.TheVariants.{Ax}
use Rattle.i86_table.specs.declared.registers.Register8.{Register8}
use Rattle.i86_table.specs.declared.instruction.AluOperation.TheVariants.{Cmp}
use Rattle.i86_table.specs.declared.instruction.Base.{Base}
use Rattle.i86_table.specs.declared.instruction.Address.{Address}
use Rattle.i86_table.specs.declared.instruction.Address.TheVariants.{Direct, Based}
use Rattle.i86_table.specs.declared.instruction.Memory.{Memory}
use Rattle.i86_table.specs.declared.instruction.RmOperand.TheVariants as rm
use Rattle.i86_table.specs.declared.instruction.Operands.TheVariants.{FromRegister, FromMemory, Immediate}
use Rattle.i86_table.specs.declared.instruction.TestMask.TheVariants as masks
use Rattle.i86_table.specs.declared.instruction.Instr.{Instr}
use Rattle.i86_table.specs.declared.instruction.Instr.TheVariants as i
use Rattle.i86_table.specs.declared.open.Use.{Use}
use Rattle.i86_table.specs.declared.open.Use.TheVariants.{Load, Store, Operate}
use Rattle.i86_table.specs.declared.open.Spot.{Spot}
use Rattle.i86_table.specs.declared.open.Open.{Open}
use Rattle.i86_table.specs.declared.open.Open.TheVariants as opens

-- the address n, or n bytes from the base registers
abbrev pub spot_address : Option Base → ℕ → Address
spot_address None n = Direct n
spot_address (Some b) n = Based b n

abbrev pub spot_memory : Spot → ℕ → Memory
spot_memory s n = record { segment = s.segment; address = spot_address s.base n }

abbrev pub with_byte : Use → Register8 → Memory → Instr
with_byte Load r m = i.MoveByte (FromMemory r m)
with_byte Store r m = i.MoveByte (FromRegister (rm.Memory m) r)
with_byte (Operate o) r m = i.AluByte o (FromMemory r m)

abbrev pub with_word : Use → Register16 → Memory → Instr
with_word Load r m = i.MoveWord (FromMemory r m)
with_word Store r m = i.MoveWord (FromRegister (rm.Memory m) r)
with_word (Operate o) r m = i.AluWord o (FromMemory r m)

-- the instruction with this number
abbrev pub closed : Open → ℕ → Instr
closed (opens.Number r) n = i.MoveWord (Immediate (rm.Register r) n)
closed (opens.OperateAx o) n = i.AluWord o (Immediate (rm.Register Ax) n)
closed (opens.Byte u r s) n = with_byte u r (spot_memory s n)
closed (opens.Word u r s) n = with_word u r (spot_memory s n)
closed (opens.CompareByte s k) n = i.AluByte Cmp (Immediate (rm.Memory (spot_memory s n)) k)
closed (opens.CompareWord s k) n = i.AluWord Cmp (Immediate (rm.Memory (spot_memory s n)) k)
closed (opens.TestByte s m) n = i.TestByte (rm.Memory (spot_memory s n)) (masks.Immediate m)
closed (opens.JumpTo s) n = i.JumpTo (rm.Memory (spot_memory s n))
closed opens.Call n = i.Call n
closed opens.Jump n = i.Jump n
