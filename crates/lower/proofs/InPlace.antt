-- A plain scalar that is compared with a constant where it lies.
use Rattle.std.proofs.Common.{◌≡◌, ℕ, Bool, true, false, List, ◌++◌, length, Option, Some, None, refl, sym, ◌∙◌, append-nil}
use Rattle.std.specs.Prelude.{take}
use Rattle.std.proofs.Math.Seq.{take-append_seam}
use Rattle.std.proofs.lemmas.Option.{none-some}
use Rattle.word86.specs.declared.width.Width.{Width}
use Rattle.word86.specs.declared.width.Width.TheVariants as widths
use Rattle.word86.specs.declared.place.Place.{Place}
use Rattle.icode.specs.declared.instruction.Instruction.{Instruction}
use Rattle.icode.specs.declared.instruction.Relation.{Relation}
use Rattle.icode.specs.declared.instruction.Test.{Test}
use Rattle.icode.specs.declared.instruction.Test.TheVariants as test
use Rattle.lower.specs.Expressions.{Operand, Number, Name, Computed}
use Rattle.lower.specs.Conditions.{named, unless_named}
use Rattle.lower.specs.Inner.Put.{name_of}

-- a byte is so compared with a byte alone
abbrev pub Suits : (bytes : Bool) → Width → Type 0
Suits bytes widths.Word = Unit {0}
Suits bytes widths.Byte = bytes ≡ true

-- either the test reads the left operand itself, or it does not
module _ (P : Option Test → Type 0) (bytes : Bool) (o : Relation) where
  byte_named : (b : Bool) → bytes ≡ b → (y : Place) (k : ℕ) → P None → (bytes ≡ true → P (Some (test.Named o widths.Byte y k))) → P (named b o (Name widths.Byte y) (Number k))
  byte_named true is y k other here = here is
  byte_named false is y k other here = other

  pub name_named : (w : Width) (y : Place) (right : Operand) → P None → ((k : ℕ) → right ≡ Number k → Suits bytes w → P (Some (test.Named o w y k))) → P (named bytes o (Name w y) right)
  name_named widths.Word y (Number k) other here = here k refl tt
  name_named widths.Byte y (Number k) other here = byte_named bytes refl y k other (here k refl)
  name_named widths.Word y (Name read z) other here = other
  name_named widths.Byte y (Name read z) other here = other
  name_named widths.Word y Computed other here = other
  name_named widths.Byte y Computed other here = other

  pub by_named : (left right : Operand) → P None → ((w : Width) (y : Place) (k : ℕ) → left ≡ Name w y → right ≡ Number k → Suits bytes w → P (Some (test.Named o w y k))) → P (named bytes o left right)
  by_named (Name w y) right other here = name_named w y right other (λ k number suits. here w y k refl number suits)
  by_named (Number j) right other here = other
  by_named Computed right other here = other

-- what is no plain scalar is not read by the test
pub nameless_named : (bytes : Bool) (o : Relation) (left right : Operand) → name_of left ≡ None → named bytes o left right ≡ None
nameless_named bytes o (Number j) right h = refl
nameless_named bytes o (Name w y) right h = absurd (none-some (w, y) (sym h))
nameless_named bytes o Computed right h = refl

-- what is taken back
pub taken_back : (old more : List Instruction) (t : Test) → take (length old) (old ++ more) ≡ old ++ unless_named (Some t) more
taken_back old more t = take-append_seam old more ∙ sym (append-nil old)
