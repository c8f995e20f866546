-- That the bytes of variables lie in their objects and pages.
use Rattle.std.specs.Prelude.{ℕ, ◌+◌, ◌*◌, List, Bool, true, nat_le}
use Rattle.std.specs.List.{list_all}
use Rattle.word86.specs.Page.{page_size}
use Rattle.plm_decl.specs.declared.names.Region.{Region}
use Rattle.plm_decl.specs.declared.names.Region.TheVariants as region
use Rattle.plm_decl.specs.declared.names.Variable.{Variable}
use Rattle.plm_decl.specs.Layout.{elements}
use Rattle.plm_decl.specs.Names.{ObjectR}
use Rattle.plm_decl.specs.Regions.{size_at}

-- this many bytes from the first of a region on lie in its RAM object, or in its page of the screen
abbrev pub region_holds : List ObjectR → ℕ → Region → Bool
region_holds os size (region.Ram object offset) = nat_le (offset + size) (size_at os object)
region_holds os size (region.Screen page offset) = nat_le (offset + size) page_size
region_holds os size (region.Based v) = true
region_holds os size region.Nowhere = true

-- all bytes of a variable lie there
abbrev pub view_lies : List ObjectR → Variable → Bool
view_lies os v = region_holds os (v.stride * elements v.dimension) v.region

abbrev pub views_lie : List ObjectR → List Variable → Bool
views_lie os vs = list_all (view_lies os) vs
