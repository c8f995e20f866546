-- The widths of an instruction's immediate operands.
use Rattle.std.specs.Prelude.{◌<◌}
use Rattle.i86_table.specs.declared.instruction.Operands.TheVariants.{Immediate}
use Rattle.i86_table.specs.declared.instruction.Instr.{Instr}
use Rattle.i86_table.specs.declared.instruction.Instr.TheVariants as i

-- what is moved or reckoned with is a byte or a word, as the instruction says
abbrev pub HasWidths : Instr → Type 0
HasWidths (i.MoveWord (Immediate target n)) = n < 65536
HasWidths (i.MoveByte (Immediate target n)) = n < 256
HasWidths (i.AluWord f (Immediate target n)) = n < 65536
HasWidths (i.AluByte f (Immediate target n)) = n < 256
HasWidths _ = Unit {0}
