-- An operand of the code as one of the definitions, and the variable that it is.
use Rattle.std.specs.Prelude.{Option, Some, None}
use Rattle.word86.specs.declared.width.Width.{Width}
use Rattle.word86.specs.declared.place.Place.{Place}
use Rattle.lower.specs.declared.put.Operand as declared_operand
use Rattle.lower.specs.declared.put.Operand.TheVariants as operand
use Rattle.lower.specs.Expressions.{Operand, Number, Name, Computed}

abbrev pub operand_shown : declared_operand.Operand → Operand
operand_shown (operand.Number k) = Number k
operand_shown (operand.Name width x) = Name width x
operand_shown operand.Computed = Computed

-- the plain variable that an operand is
abbrev pub name_of : Operand → Option (Width × Place)
name_of (Number k) = None
name_of (Name width x) = Some (width, x)
name_of Computed = None
