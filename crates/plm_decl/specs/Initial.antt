-- The bytes that objects have at start, where they lie at these offsets of the data segment.
use Rattle.std.specs.Prelude.{ℕ, ◌+◌, ◌%◌, ◌/◌, List, [], ◌∷◌, ◌++◌, slice_get, slice_index, Option, Some, None}
use Rattle.plm_decl.specs.declared.names.Datum.{Datum}
use Rattle.plm_decl.specs.declared.names.Datum.TheVariants as datum
use Rattle.plm_decl.specs.declared.names.Region.{Region}
use Rattle.plm_decl.specs.declared.names.Region.TheVariants as region
use Rattle.plm_decl.specs.declared.names.Variable.{Variable}

-- low byte first
abbrev pub word : ℕ → List ℕ
word n = n % 256 ∷ (n / 256) % 256 ∷ []

module _ (offsets : List ℕ) (variables : List Variable) where
  -- where a variable lies in the data segment
  abbrev pub region_address : Region → ℕ
  region_address (region.Ram k start) = slice_index offsets k + start
  region_address (region.Screen page start) = 0
  region_address (region.Based b) = 0
  region_address region.Nowhere = 0

  abbrev pub variable_address : Option Variable → ℕ
  variable_address (Some v) = region_address v.region
  variable_address None = 0

  abbrev pub datum_bytes : Datum → List ℕ
  datum_bytes (datum.Byte b) = b ∷ []
  datum_bytes (datum.Word w) = word w
  datum_bytes (datum.Variable v n) = word (variable_address (slice_get variables v) + n)
  datum_bytes (datum.Constants k) = word (slice_index offsets k)

  -- the first bytes of an object with these initial values
  abbrev pub initial_bytes : List Datum → List ℕ
  initial_bytes [] = []
  initial_bytes (d ∷ ds) = datum_bytes d ++ initial_bytes ds
