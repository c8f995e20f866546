-- What the layers of the compiler promise together, and when a program has no image.
use Rattle.std.specs.Prelude.{◌≡◌, ℕ, ◌+◌, ◌<◌, ◌≤◌, ◌⊎◌, ⊤, List, length, slice_index}
use Rattle.word86.specs.declared.fault.Fault.{Fault}
use Rattle.word86.specs.declared.fault.Fault.TheVariants.{Memory, At}
use Rattle.word86.specs.declared.number.Number.TheVariants.{E501, E601}
use Rattle.word86.specs.MemoryMap.{stack_room}
use Rattle.i86_table.specs.Words.{KeepsWords}
use Rattle.i86_code.specs.Coding.{IsOneForm, IsShort}
use Rattle.i86_code.specs.Widths.{DecodedHasWidths}
use Rattle.plm_decl.specs.declared.names.Names.{Names}
use Rattle.plm_decl.specs.Placement.{IsPlacement, sizes_of}
use Rattle.plm_decl.specs.Laws.{InitialBytesFit}
use Rattle.frames.specs.declared.counting.Stack.{Stack}
use Rattle.frames.specs.Limits.{SmallProgramsFit}
use Rattle.lower.specs.Checked.{CheckedLaw, SoundLaw}
use Rattle.lower.specs.Heights.{HeightLaw}
use Rattle.lower.specs.Lowering.{EntryLaw}
use Rattle.lower.specs.Room.{RoomLaw}
use Rattle.lower.specs.Runs.{RunsLaw}
use Rattle.lower.specs.Tracking.{LoweringLaw}
use Rattle.select.specs.declared.part.Part.{Part}
use Rattle.select.specs.Promise.{InstructionsFollow}
use Rattle.select.specs.Room.{ProgramsHaveRoom}
use Rattle.select.specs.Saved.{UnservedChangesNone, RegistersAreCounted}
use Rattle.layout_link.specs.declared.image.Image.{Image}
use Rattle.layout_link.specs.declared.image.RomSize.{RomSize}
use Rattle.layout_link.specs.Image.{bytes_in, base_of}
use Rattle.layout_link.specs.Initial.{HaveBytes, count_of}
use Rattle.layout_link.specs.Linker.{offsets_in, start_up_in, needed, places_in, place_of, acts_in, InitialStands}
use Rattle.layout_link.specs.Rom.{CodeInRom, WordsInRom, rom_code, rom_words}
use Rattle.layout_link.specs.Stand.{PartsStand}
use Rattle.layout_link.specs.Startup.{HasStartUpBefore, start_up_turns}
use Rattle.layout_link.specs.Tasks.{is_main, is_unserved}
use Rattle.plm_type.specs.Nodes.{initial_size}
use Rattle.plm86.specs.Build.{MeansNames, StartsUp, IsTooLarge}
use Rattle.plm86.specs.Depth.{IsShallow}
use Rattle.plm86.specs.Inner.BoardLaws.{LawsBelow}

pub record Promises : Type 0 where
  pub one_form : IsOneForm
  pub short : IsShort
  pub widths : DecodedHasWidths
  pub words : KeepsWords
  pub below : LawsBelow
  pub tracks : LoweringLaw
  pub well_formed : CheckedLaw
  pub sound : SoundLaw
  pub runs : RunsLaw
  pub room : RoomLaw
  pub heights : HeightLaw
  pub entries : EntryLaw
  pub few_calls_fit : SmallProgramsFit
  pub follow : InstructionsFollow
  pub parts_room : ProgramsHaveRoom
  pub counted : RegistersAreCounted
  pub unserved : UnservedChangesNone
  pub initial : InitialBytesFit

-- want of memory may come at any point
abbrev pub HasNoRoom : Names → RomSize → Fault → Type 0
HasNoRoom names size Memory = ⊤
HasNoRoom names size (At which line number) = ((At which line number ≡ At 0 1 E501) × ¬ IsShallow names) ⊎ ((At which line number ≡ At 0 1 E601) × IsTooLarge names size)

-- what linking gives
pub record IsLinked (names : Names) (parts : List Part) (stack : Stack) (size : RomSize) (image : Image) : Type 0 where
  pub long : length image.rom.items ≡ bytes_in size
  pub code : CodeInRom image.rom.items (rom_code image.rom.items)
  pub words : WordsInRom image.rom.items (rom_words image.rom.items)
  pub start_up : HasStartUpBefore (base_of size + start_up_in names parts) (rom_code image.rom.items) (place_of names parts size is_unserved) (acts_in names parts size) (place_of names parts size is_main)
  pub initial : InitialStands names parts size image.rom.items
  pub bytes : HaveBytes (offsets_in names) names.variables.items names.objects.items
  pub turns : image.start_turns ≡ start_up_turns (acts_in names parts size)
  pub few_turns : image.start_turns ≤ 4096 + count_of (offsets_in names) names.variables.items names.objects.items
  pub stand : PartsStand (rom_code image.rom.items) (rom_words image.rom.items) (offsets_in names) (places_in names parts size) parts
  pub within : (part : ℕ) → slice_index (places_in names parts size) part < 65536
  pub offsets : image.placement.offsets.items ≡ offsets_in names
  pub placement : IsPlacement image.placement.offsets.items (sizes_of names)
  pub stack_is : image.stack ≡ stack
  pub fits : needed names parts ≤ bytes_in size

-- what compiling gives
pub record IsImage (names : Names) (size : RomSize) (image : Image) : Type 0 where
  pub means : MeansNames names image
  pub main_at : ℕ
  pub starts : StartsUp names image main_at
  pub placement : IsPlacement image.placement.offsets.items (sizes_of names)
  pub long : length image.rom.items ≡ bytes_in size
  pub start : image.start_turns ≤ 4096 + initial_size names
  pub stack : image.stack.main + image.stack.handler ≤ stack_room
