-- Where the bytes of variables lie while trees are read: bytes are counted up to 2^64 - 1.
use Rattle.std.specs.Prelude.{ℕ, ◌+◌, ◌*◌, List, Bool, true, nat_le}
use Rattle.word86.specs.Page.{page_size}
use Rattle.plm_decl.specs.declared.names.Region.{Region}
use Rattle.plm_decl.specs.declared.names.Region.TheVariants as region
use Rattle.plm_decl.specs.declared.names.Variable.{Variable}
use Rattle.plm_decl.specs.Layout.{counted, elements}
use Rattle.plm_decl.specs.Names.{ObjectR}
use Rattle.plm_decl.specs.Regions.{size_at}

abbrev pub counted_holds : List ObjectR → ℕ → Region → Bool
counted_holds os size (region.Ram object offset) = nat_le (counted (offset + size)) (size_at os object)
counted_holds os size (region.Screen page offset) = nat_le (counted (offset + size)) page_size
counted_holds os size (region.Based v) = true
counted_holds os size region.Nowhere = true

abbrev pub span : Variable → ℕ
span v = counted (v.stride * elements v.dimension)

abbrev pub lies_in : List ObjectR → Variable → Bool
lies_in os v = counted_holds os (span v) v.region
