-- What the bytes of a variable are.
use Rattle.std.specs.Prelude.{ℕ, ◌+◌, ◌*◌, ◌-◌, ◌^◌, List, [], ◌∷◌, ◌++◌, min, map, Bool, ◌&&◌, nat_eq, nat_lt, nat_le, cond, find, bytes_eq, Option, Some, None, option_map}
use Rattle.std.specs.List.{list_any}
use Rattle.word86.specs.declared.width.Width.{Width}
use Rattle.word86.specs.declared.width.Width.TheVariants as width
use Rattle.plm_syntax.specs.declared.tree.Scalar.{Scalar}
use Rattle.plm_syntax.specs.declared.tree.Scalar.TheVariants as scalar
use Rattle.plm_decl.specs.declared.layout.ScalarType.{ScalarType}
use Rattle.plm_decl.specs.declared.layout.ScalarType.TheVariants.{Byte, Word, Pointer, Integer}
use Rattle.plm_decl.specs.declared.layout.Member.{Member}
use Rattle.plm_decl.specs.declared.layout.Field.{Field}
use Rattle.plm_decl.specs.declared.structure.Structure.{Structure}

-- bytes and elements are counted up to 2^64 - 1, which no text of at most 65,535 tokens reaches
abbrev pub counted : ℕ → ℕ
counted n = min n (2 ^ 64 - 1)

-- ADDRESS is another word for WORD
abbrev pub scalar_of : Scalar → ScalarType
scalar_of scalar.Byte = Byte
scalar_of scalar.Word = Word
scalar_of scalar.Address = Word
scalar_of scalar.Pointer = Pointer
scalar_of scalar.Integer = Integer

-- each type has its own
abbrev pub scalar_number : ScalarType → ℕ
scalar_number Byte = 0
scalar_number Word = 1
scalar_number Pointer = 2
scalar_number Integer = 3

abbrev pub same_scalar : ScalarType → ScalarType → Bool
same_scalar a b = nat_eq (scalar_number a) (scalar_number b)

abbrev pub width_of : ScalarType → Width
width_of Byte = width.Byte
width_of Word = width.Word
width_of Pointer = width.Word
width_of Integer = width.Word

abbrev pub size_of : ScalarType → ℕ
size_of Byte = 1
size_of Word = 2
size_of Pointer = 2
size_of Integer = 2

-- how many elements there are
abbrev pub elements : Option ℕ → ℕ
elements (Some n) = n
elements None = 1

-- a dimension is 1 to 65,535
abbrev pub is_dimension : ℕ → Bool
is_dimension n = nat_le 1 n && nat_le n 65535

-- a member with its name in normal form
pub record FieldR : Type 0 where
  pub name : List ℕ
  pub member : Member

-- the members, and how many bytes and how many scalars they have together
pub record StructureR : Type 0 where
  pub fields : List FieldR
  pub size : ℕ
  pub scalars : ℕ

abbrev pub field_of : Field → FieldR
field_of f = record { name = f.name.items; member = f.member }

abbrev pub structure_of : Structure → StructureR
structure_of s = record { fields = map field_of s.fields.items; size = s.size; scalars = s.scalars }

abbrev pub no_fields : StructureR
no_fields = record { fields = []; size = 0; scalars = 0 }

-- members stand without gaps: each begins where the one before it ends
abbrev pub with_field : List ℕ → ScalarType → Option ℕ → StructureR → StructureR
with_field name scalar dimension s = record {
  fields = s.fields ++ record { name = name; member = record { scalar = scalar; dimension = dimension; offset = s.size } } ∷ [];
  size = counted (s.size + counted (elements dimension * size_of scalar));
  scalars = counted (s.scalars + elements dimension);
}

abbrev pub has_field : List ℕ → List FieldR → Bool
has_field name fs = list_any (λ f. bytes_eq f.name name) fs

abbrev pub field_named : List ℕ → List FieldR → Option Member
field_named name fs = option_map (λ f. f.member) (find (λ f. bytes_eq f.name name) fs)

-- the scalar that stands this many scalars after the first
abbrev pub scalar_in : List FieldR → ℕ → ScalarType
scalar_in [] position = Byte
scalar_in (f ∷ fs) position = cond (nat_lt position (elements f.member.dimension)) f.member.scalar (scalar_in fs (position - elements f.member.dimension))
