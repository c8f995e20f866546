-- Where the bytes of variables lie.
use Rattle.std.specs.Prelude.{ℕ, List, slice_get}
use Rattle.std.specs.Option.{option_map_or}
use Rattle.plm_decl.specs.Names.{ObjectR}

-- the bytes of a RAM object, by its number
abbrev pub size_at : List ObjectR → ℕ → ℕ
size_at os object = option_map_or (λ o. o.size) (slice_get os object) 0
