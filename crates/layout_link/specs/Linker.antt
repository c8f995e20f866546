-- What is linked: where the objects and the parts of a program lie, and what start-up does.
use Rattle.std.specs.Prelude.{ℕ, ◌≡◌, ◌+◌, ◌<◌, Bool, List, ◌++◌, length, map, position, slice_index}
use Rattle.std.specs.Option.{option_map_or}
use Rattle.word86.specs.MemoryMap.{first_offset}
use Rattle.select.specs.declared.part.Entry.{Entry}
use Rattle.select.specs.declared.part.Part.{Part}
use Rattle.plm_decl.specs.declared.names.Names.{Names}
use Rattle.plm_decl.specs.Placement.{sizes_of}
use Rattle.layout_link.specs.declared.image.RomSize.{RomSize}
use Rattle.layout_link.specs.declared.tasks.Task.{Task}
use Rattle.layout_link.specs.Image.{base_of}
use Rattle.layout_link.specs.Objects.{offsets_from}
use Rattle.layout_link.specs.Places.{total_of, places_from}
use Rattle.layout_link.specs.Startup.{Act}
use Rattle.layout_link.specs.Tasks.{placed, start_up_bytes, vector_tasks}
use Rattle.layout_link.specs.Initial.{Stretch, stretches, data_tasks, copied_bytes}
use Rattle.layout_link.specs.Rom.{rom_byte}

-- where the first part with such an entry begins; 0 if there is none
abbrev pub place_in : (places : List ℕ) → List Part → (Entry → Bool) → ℕ
place_in places parts is = option_map_or (λ k. slice_index places k) (position (λ p. is p.entry) parts) 0

module _ (names : Names) where
  -- the objects lie one after another from the first offset on
  abbrev pub offsets_in : List ℕ
  offsets_in = offsets_from first_offset (sizes_of names)

  -- the initial bytes, stretch by stretch
  abbrev pub stretches_in : List Stretch
  stretches_in = stretches offsets_in names.variables.items 0 names.objects.items

  -- those that start-up copies from the ROM
  abbrev pub initial_in : List ℕ
  initial_in = copied_bytes 0 stretches_in

  module _ (parts : List Part) where
    abbrev pub tasks_in : List Task
    tasks_in = vector_tasks parts 0 256 ++ data_tasks 0 0 stretches_in

    -- the bytes of start-up
    abbrev pub start_up_in : ℕ
    start_up_in = start_up_bytes tasks_in

    -- what a ROM has to hold: start-up, the parts, initial bytes, and what stands from the far jump of the reset on
    abbrev pub needed : ℕ
    needed = start_up_in + total_of parts + length initial_in + 16

    module _ (size : RomSize) where
      abbrev pub places_in : List ℕ
      places_in = places_from (base_of size + start_up_in) parts

      abbrev pub place_of : (Entry → Bool) → ℕ
      place_of is = place_in places_in parts is

      -- where the initial bytes lie
      abbrev pub initial_at : ℕ
      initial_at = base_of size + start_up_in + total_of parts

      abbrev pub acts_in : List Act
      acts_in = map (placed places_in initial_at) tasks_in

      -- the initial bytes stand there
      abbrev pub InitialStands : (rom : List ℕ) → Type 0
      InitialStands rom = (i : ℕ) → i < length initial_in → rom_byte rom (initial_at + i) ≡ slice_index initial_in i
