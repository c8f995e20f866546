-- A program put together: its code, its parts and its ROM, and the image that selection speaks of.
use Rattle.std.specs.Prelude.{ℕ, zero, suc, ◌+◌, ◌-◌, ◌<◌, ◌≤◌, Bool, true, false, if◌then◌else◌, List, [], ◌∷◌, length, Option, Some, None, position, slice_index}
use Rattle.std.specs.Option.{option_map_or}
use Rattle.word86.specs.MemoryMap.{stack_room}
use Rattle.word86.specs.Place.{covers}
use Rattle.icode.specs.declared.code.Routine.{Routine}
use Rattle.icode.specs.declared.code.Routine.TheVariants.{Main, Procedure, Unserved, Nowhere}
use Rattle.icode.specs.declared.code.Code.{Code}
use Rattle.icode.specs.declared.registers.Registers.{Registers}
use Rattle.icode.specs.Code.{serving}
use Rattle.icode.specs.Counted.{IsCounted}
use Rattle.plm_decl.specs.declared.names.Names.{Names}
use Rattle.plm_decl.specs.Placement.{sizes_of}
use Rattle.lower.specs.Lowering.{IsLowered, program_code}
use Rattle.lower.specs.Checked.{IsSound}
use Rattle.select.specs.declared.part.Part.{Part}
use Rattle.select.specs.Promise.{Image}
use Rattle.select.specs.Selection.{routines, sections_before, part_of, ArePartsOf, AreParts}
use Rattle.select.specs.Sizes.{start}
use Rattle.layout_link.specs.declared.image.RomSize.{RomSize}
use Rattle.layout_link.specs.Image.{bytes_in}
use Rattle.layout_link.specs.Linker.{offsets_in, places_in, place_of, needed}
use Rattle.layout_link.specs.Rom.{rom_code, rom_words}
use Rattle.layout_link.specs.Stand.{PartsStand}
use Rattle.layout_link.specs.Tasks as tasks

-- ---- what lies at an offset

-- the RAM object, counted from k, that holds n bytes from an offset on, and the index of the first
abbrev pub find_from : (k : ℕ) (offsets sizes : List ℕ) → (offset n : ℕ) → Option (ℕ × ℕ)
find_from k [] sizes a n = None
find_from k (o ∷ os) [] a n = None
find_from k (o ∷ os) (s ∷ ss) a n = if covers o s a n then Some (k, a - o) else find_from (suc k) os ss a n

-- ---- the parts

abbrev pub is_main_routine : Routine → Bool
is_main_routine Main = true
is_main_routine (Procedure q) = false
is_main_routine Unserved = false
is_main_routine Nowhere = false

abbrev pub or_zero : Option ℕ → ℕ
or_zero (Some n) = n
or_zero None = 0

module _ (c : Code) where
  -- the number of a routine's part; 0 for a routine that has none
  abbrev pub part_number : Routine → ℕ
  part_number Main = or_zero (position is_main_routine (routines c))
  part_number (Procedure q) = part_of c q
  part_number Unserved = length (sections_before c c.sections)
  part_number Nowhere = 0

  -- how many bytes each step of a part has, the part counted from the first of these
  abbrev pub sizes_in : (saves : Routine → Registers) (own : ℕ) (rs : List Routine) (ps : List Part) → ArePartsOf c saves own rs ps → (part : ℕ) → List ℕ
  sizes_in saves own [] ps are n = []
  sizes_in saves own (r ∷ rs) [] are n = []
  sizes_in saves own (r ∷ rs) (p ∷ ps) are zero = are.0.is_part.sizes
  sizes_in saves own (r ∷ rs) (p ∷ ps) are (suc n) = sizes_in saves (own + 1) rs ps are.1 n

-- ---- the whole

-- A program put together: what lowering, selection, counting and linking give for its names.
pub record IsAssembled (names : Names) (c : Code) (parts : List Part) (size : RomSize) (rom : List ℕ) (main handler : ℕ) : Type 0 where
  pub lowered : IsLowered names c
  pub sound : IsSound names
  pub selected : AreParts c parts
  pub counted : IsCounted c main handler
  pub enough : main + handler ≤ stack_room
  pub stand : PartsStand (rom_code rom) (rom_words rom) (offsets_in names) (places_in names parts size) parts
  pub fits : needed names parts ≤ bytes_in size
  pub within : (part : ℕ) → slice_index (places_in names parts size) part < 65536

module _ (names : Names) (parts : List Part) (size : RomSize) where
  -- where a vector leads: to the first part that serves it, else to the part for vectors without a procedure
  abbrev pub entry_at : (vector : ℕ) → ℕ
  entry_at v = option_map_or (λ p. slice_index (places_in names parts size) p) (tasks.serving parts v) (place_of names parts size tasks.is_unserved)

module _ (names : Names) (c : Code) (parts : List Part) (size : RomSize) (rom : List ℕ) (main handler : ℕ) (assembled : IsAssembled names c parts size rom main handler) where
  -- the place of a step of a routine's part
  abbrev pub step_at : Routine → (step : ℕ) → ℕ
  step_at r step = slice_index (places_in names parts size) (part_number c r) + start (sizes_in c assembled.selected.saves 0 (routines c) parts assembled.selected.parts_are (part_number c r)) step

  -- an interrupt's words but for the three that the processor pushes
  abbrev pub image_of : Image
  image_of = record {
    code = rom_code rom;
    words = rom_words rom;
    find = find_from 0 (offsets_in names) (sizes_of names);
    offsets = offsets_in names;
    sizes = sizes_of names;
    places = places_in names parts size;
    icode = program_code names;
    part = part_of c;
    at = step_at;
    saves = assembled.selected.saves;
    serving = serving c;
    entry = entry_at names parts size;
    main_at = place_of names parts size tasks.is_main;
    main = assembled.counted.deepest;
    handler = assembled.counted.largest - 3;
  }
