-- Objects for the rows of nodes.
use Rattle.std.specs.Prelude.{ℕ, [], replicate}
use Rattle.plm_decl.specs.declared.names.Datum.TheVariants as datum
use Rattle.plm_decl.specs.Names.{ObjectR}

-- an object of this size, of which so many bytes are initial
abbrev pub object : (size initial : ℕ) → ObjectR
object size initial = record { path = []; size = size; initial = replicate initial (datum.Byte 0) }
