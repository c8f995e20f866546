-- What a field of an instruction begins with, as the reader tells it.
use Rattle.std.specs.Prelude.{Bool, true, false}
use Rattle.i86_code.specs.declared.form.FieldKind.{FieldKind}
use Rattle.i86_code.specs.declared.form.FieldKind.TheVariants as kinds

-- what begins with an address byte
abbrev pub is_addressed : FieldKind → Bool
is_addressed kinds.Nothing = false
is_addressed kinds.Byte = false
is_addressed kinds.Word = false
is_addressed kinds.TwoWords = false
is_addressed kinds.Address = true
is_addressed kinds.AddressByte = true
is_addressed kinds.AddressWord = true
is_addressed (kinds.Group w) = true
