-- Where the objects of a program lie.
use Rattle.std.specs.Prelude.{◌≡◌, ℕ, ◌+◌, ◌<◌, ◌≤◌, List, map, length, slice_index}
use Rattle.word86.specs.MemoryMap.{first_offset, data_end}
use Rattle.plm_decl.specs.declared.names.Names.{Names}

-- the byte lies in the object of that size at that offset
abbrev pub Has : ℕ → ℕ → ℕ → Type 0
Has offset size b = (offset ≤ b) × (b < offset + size)

abbrev pub HoldsByte : List ℕ → List ℕ → ℕ → ℕ → Type 0
HoldsByte offsets sizes k b = Has (slice_index offsets k) (slice_index sizes k) b

-- it shares no byte with the first n
abbrev pub IsApart : List ℕ → List ℕ → ℕ → ℕ → Type 0
IsApart offsets sizes k n = (j : ℕ) → j < n → (b : ℕ) → HoldsByte offsets sizes j b → ¬ HoldsByte offsets sizes k b

abbrev pub IsWithin : List ℕ → List ℕ → ℕ → Type 0
IsWithin offsets sizes k = (b : ℕ) → HoldsByte offsets sizes k b → (first_offset ≤ b) × (b < data_end)

-- an offset for each object: all its bytes lie from the first offset of the data segment on, below its end, and no two objects share a byte
pub record IsPlacement (offsets sizes : List ℕ) : Type 0 where
  pub each : length offsets ≡ length sizes
  pub within : (k : ℕ) → k < length sizes → IsWithin offsets sizes k
  pub apart : (k : ℕ) → k < length sizes → IsApart offsets sizes k k

abbrev pub sizes_of : Names → List ℕ
sizes_of names = map (λ o. o.size) names.objects.items
