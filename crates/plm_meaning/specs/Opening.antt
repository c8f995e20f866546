-- The store when the power comes on.
use Rattle.std.specs.Prelude.{ℕ, ◌+◌, List, [], ◌∷◌, ◌++◌, length, drop, slice_range}
use Rattle.word86.specs.MemoryMap.{data_start}
use Rattle.word86.specs.Page.{Pages}
use Rattle.plm_decl.specs.declared.names.Variable.{Variable}
use Rattle.plm_decl.specs.Names.{ObjectR}
use Rattle.plm_decl.specs.Initial.{initial_bytes}
use Rattle.plm_meaning.specs.Store.{Store}

-- the objects lie at these offsets
module _ (offsets : List ℕ) (variables : List Variable) where
  -- what RAM holds from an offset of the data segment on
  abbrev pub bytes_at : List ℕ → ℕ → ℕ → List ℕ
  bytes_at ram offset size = slice_range ram (data_start + offset) (data_start + offset + size)

  -- an object has its initial bytes, and after them what RAM holds at its place
  abbrev pub object_at : List ℕ → ℕ → ObjectR → List ℕ
  object_at ram offset o = let first = initial_bytes offsets variables o.initial in first ++ drop (length first) (bytes_at ram offset o.size)

  abbrev pub objects_at : List ℕ → List ℕ → List ObjectR → List (List ℕ)
  objects_at ram [] objects = []
  objects_at ram (offset ∷ more) [] = []
  objects_at ram (offset ∷ more) (o ∷ objects) = object_at ram offset o ∷ objects_at ram more objects

abbrev pub first_store : {P : Type 0} → (ram : List ℕ) (screen : Pages) (offsets : List ℕ) → List Variable → List ObjectR → P → Store P
first_store ram screen offsets variables objects chips =
    record { objects = objects_at offsets variables ram offsets objects; screen = screen; chips = chips }
