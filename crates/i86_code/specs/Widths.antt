-- The immediate operands of what is decoded.
use Rattle.std.specs.Prelude.{ℕ, ◌≡◌, Some, List}
use Rattle.i86_table.specs.declared.instruction.Instr.{Instr}
use Rattle.i86_table.specs.Widths.{HasWidths}
use Rattle.i86_code.specs.Decoding.{decoded}
use Rattle.i86_code.specs.Coding.{AreBytes}

-- they have their widths
abbrev pub DecodedHasWidths : Type 0
DecodedHasWidths = (bytes : List ℕ) (i : Instr) (n : ℕ) → AreBytes bytes → decoded bytes ≡ Some (i, n) → HasWidths i
