-- What a value fills a scalar with, if it fits.
use Rattle.std.specs.Prelude.{ℕ, ◌+◌, ◌*◌, ◌-◌, ◌%◌, List, [], ◌∷◌, Bool, true, false, cond, nat_lt, nat_le, Option, Some, None}
use Rattle.plm_syntax.specs.declared.tree.LocationForm.{LocationForm}
use Rattle.plm_syntax.specs.declared.tree.LocationForm.TheVariants as form
use Rattle.plm_decl.specs.declared.layout.ScalarType.{ScalarType}
use Rattle.plm_decl.specs.declared.layout.ScalarType.TheVariants.{Byte, Word, Pointer, Integer}
use Rattle.plm_decl.specs.Layout.{same_scalar}
use Rattle.plm_decl.specs.declared.names.Datum.{Datum}
use Rattle.plm_decl.specs.declared.names.Datum.TheVariants as datum

-- the two's complement of a number, or the number
abbrev pub signed : Bool → ℕ → ℕ → ℕ
signed negative limit n = cond negative ((limit - n) % limit) n

-- a number, or one with a minus before it, in a scalar
abbrev pub number_datum : ScalarType → ℕ → Bool → Option Datum
number_datum Byte n negative = cond (nat_lt n 256) (Some (datum.Byte (signed negative 256 n))) None
number_datum Word n negative = cond (nat_lt n 65536) (Some (datum.Word (signed negative 65536 n))) None
number_datum Pointer n negative = None
-- up to 32,767, or up to 32,768 after a minus
number_datum Integer n negative = cond (nat_le n (cond negative 32768 32767)) (Some (datum.Word (signed negative 65536 n))) None

-- a WORD takes one character, or two with the first high
abbrev pub word_datum : List ℕ → Option Datum
word_datum [] = None
word_datum (low ∷ []) = Some (datum.Word low)
word_datum (high ∷ low ∷ []) = Some (datum.Word (high * 256 + low))
word_datum (a ∷ b ∷ c ∷ more) = None

abbrev pub text_datum : ScalarType → List ℕ → Option Datum
text_datum Byte characters = None
text_datum Word characters = word_datum characters
text_datum Pointer characters = None
text_datum Integer characters = None

abbrev pub is_byte : ScalarType → Bool
is_byte Byte = true
is_byte Word = false
is_byte Pointer = false
is_byte Integer = false

abbrev pub character_datum : ScalarType → ℕ → Option Datum
character_datum s c = cond (is_byte s) (Some (datum.Byte c)) None

-- an offset is a WORD, a location in the data segment a POINTER
abbrev pub location_type : LocationForm → ScalarType
location_type form.Offset = Word
location_type form.Pointer = Pointer

abbrev pub takes : ScalarType → LocationForm → Bool
takes s f = same_scalar s (location_type f)
