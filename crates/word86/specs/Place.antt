-- Where the bytes of an access lie, under a placement of the RAM objects.
use Rattle.std.specs.Prelude.{ℕ, suc, ◌+◌, ◌-◌, Bool, ◌&&◌, nat_le, if◌then◌else◌, List, [], ◌∷◌, Option, Some, None}
use Rattle.word86.specs.declared.width.Width.{Width}
use Rattle.word86.specs.declared.width.Width.TheVariants as widths
use Rattle.word86.specs.declared.place.Place.{Place}
use Rattle.word86.specs.declared.place.Place.TheVariants.{Ram, Screen}
use Rattle.word86.specs.declared.access.Access as declared_access
use Rattle.word86.specs.declared.access.Access.TheVariants as declared_accesses
use Rattle.word86.specs.Access.{Where, In, Access, Read, Write, Input, Output}
use Rattle.word86.specs.Access as access

abbrev pub where_of : Place → Where
where_of (Ram k i) = In k i
where_of (Screen page i) = access.Screen page i

abbrev pub access_of : declared_access.Access → Access
access_of (declared_accesses.Read width x) = Read width (where_of x)
access_of (declared_accesses.Write width x v) = Write width (where_of x) v
access_of (declared_accesses.Input width port) = Input width port
access_of (declared_accesses.Output width port v) = Output width port v

abbrev pub bytes : Width → ℕ
bytes widths.Byte = 1
bytes widths.Word = 2

-- `count` bytes from the address on are among the `size` bytes from the first on
abbrev pub covers : (first size address count : ℕ) → Bool
covers first size address count = nat_le first address && nat_le (address + count) (first + size)

-- the RAM object, counted from k, that holds `count` bytes from the address on, and the index of the first
abbrev pub held : (k : ℕ) (offsets sizes : List ℕ) → (address count : ℕ) → Option Where
held k [] sizes address count = None
held k (o ∷ os) [] address count = None
held k (o ∷ os) (s ∷ ss) address count = if covers o s address count then Some (In k (address - o)) else held (suc k) os ss address count
