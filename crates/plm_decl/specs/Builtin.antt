-- The names of the built-in procedures, which are not reserved: a declared name of the same spelling hides one.
use Rattle.std.specs.Prelude.{ℕ, List, [], ◌∷◌, find, bytes_eq, codes, Option}
use Rattle.plm_decl.specs.declared.builtin.Builtin.{Builtin}
use Rattle.plm_decl.specs.declared.builtin.Builtin.TheVariants.{Length, Last, Size, Low, High, Double, ShiftLeft, ShiftRight, RotateLeft, RotateRight, Input, InputWord, Output, OutputWord, Signed, Unsigned}

abbrev pub spelling : Builtin → List ℕ
spelling Length = codes "LENGTH"
spelling Last = codes "LAST"
spelling Size = codes "SIZE"
spelling Low = codes "LOW"
spelling High = codes "HIGH"
spelling Double = codes "DOUBLE"
spelling ShiftLeft = codes "SHL"
spelling ShiftRight = codes "SHR"
spelling RotateLeft = codes "ROL"
spelling RotateRight = codes "ROR"
spelling Input = codes "INPUT"
spelling InputWord = codes "INWORD"
spelling Output = codes "OUTPUT"
spelling OutputWord = codes "OUTWORD"
spelling Signed = codes "SIGNED"
spelling Unsigned = codes "UNSIGN"

abbrev pub builtins : List Builtin
builtins = Length ∷ Last ∷ Size ∷ Low ∷ High ∷ Double ∷ ShiftLeft ∷ ShiftRight ∷ RotateLeft ∷ RotateRight ∷ Input ∷ InputWord ∷ Output ∷ OutputWord ∷ Signed ∷ Unsigned ∷ []

-- the built-in that a normal form is, if it is one
unfoldable pub builtin_named : List ℕ → Option Builtin
builtin_named name = find (λ b. bytes_eq name (spelling b)) builtins
