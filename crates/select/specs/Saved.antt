-- The registers that are saved.
use Rattle.std.specs.Prelude.{◌≡◌, length}
use Rattle.icode.specs.declared.code.Routine.TheVariants.{Unserved}
use Rattle.icode.specs.declared.code.Code.{Code}
use Rattle.icode.specs.declared.registers.Registers.{Registers}
use Rattle.icode.specs.Code.{code_of}
use Rattle.icode.specs.Counted.{IsChanged, number_of}
use Rattle.icode.specs.Registers.{none}
use Rattle.select.specs.Rows.{registers_of}

-- The routine for vectors without a procedure changes no register.
abbrev pub UnservedChangesNone : Type 0
UnservedChangesNone = (c : Code) → IsChanged (code_of c) Unserved none

-- As many words are pushed for registers as are counted for them.
abbrev pub RegistersAreCounted : Type 0
RegistersAreCounted = (g : Registers) → length (registers_of g) ≡ number_of g
