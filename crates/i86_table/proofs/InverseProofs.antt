-- Of a condition and its inverse exactly one holds.
use Rattle.std.proofs.Common.{◌≡◌, Bool, true, false, not, refl, sym}
use Rattle.i86_table.specs.declared.instruction.Condition.TheVariants.{Overflow, NotOverflow, Below, NotBelow, Equal, NotEqual, BelowOrEqual, Above, Sign, NotSign, ParityEven, ParityOdd, Less, NotLess, LessOrEqual, Greater}
use Rattle.i86_table.specs.Inverse.{InverseHolds}

twice : (b : Bool) → not (not b) ≡ b
twice true = refl
twice false = refl

pub inverse_holds : InverseHolds
inverse_holds Overflow f = refl
inverse_holds NotOverflow f = sym (twice _)
inverse_holds Below f = refl
inverse_holds NotBelow f = sym (twice _)
inverse_holds Equal f = refl
inverse_holds NotEqual f = sym (twice _)
inverse_holds BelowOrEqual f = refl
inverse_holds Above f = sym (twice _)
inverse_holds Sign f = refl
inverse_holds NotSign f = sym (twice _)
inverse_holds ParityEven f = refl
inverse_holds ParityOdd f = sym (twice _)
inverse_holds Less f = sym (twice _)
inverse_holds NotLess f = refl
inverse_holds LessOrEqual f = refl
inverse_holds Greater f = sym (twice _)
