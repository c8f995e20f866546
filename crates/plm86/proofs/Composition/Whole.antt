-- What the layers give for a checked program, as the headline wants it.
use Rattle.std.proofs.Common.{◌≡◌, ℕ, ◌+◌, ◌*◌, ◌<◌, ◌≤◌, List, map, length, refl, sym, ap, ◌∙◌, subst, inl, inr, arith}
use Rattle.std.specs.Prelude.{slice_index}
use Rattle.std.proofs.lemmas.Bool.{cases_lt}
use Rattle.word86.specs.MemoryMap.{ram_size, vectors_size, stack_room}
use Rattle.plm_decl.specs.declared.names.Names.{Names}
use Rattle.plm_decl.specs.Names.{object_of}
use Rattle.plm_decl.specs.Placement.{IsPlacement, sizes_of}
use Rattle.plm_type.specs.declared.checked.Program.{Program}
use Rattle.plm_type.specs.Checked.{AreTyped}
use Rattle.plm_type.specs.Next.{next}
use Rattle.plm_type.specs.Programs.{main_rest, handler_rest, procedures_of}
use Rattle.plm_type.specs.Rest.{Rest}
use Rattle.plm_meaning.specs.Opening.{first_store}
use Rattle.ppi_kbd.specs.Chips as chips
use Rattle.ppi_kbd.specs.BoardChips.{board_chips}
use Rattle.icode.specs.declared.code.Code.{Code}
use Rattle.icode.specs.Counted.{IsCounted}
use Rattle.icode.specs.Machine.{Context}
use Rattle.frames.specs.declared.counting.Stack.{Stack}
use Rattle.frames.specs.Counting.{NoRunPasses}
use Rattle.lower.specs.Lowering.{IsLowered}
use Rattle.select.specs.declared.part.Part.{Part}
use Rattle.select.specs.Promise.{next_of}
use Rattle.select.specs.Promise as promise
use Rattle.select.specs.Selection.{AreParts}
use Rattle.layout_link.specs.declared.image.Image.{Image}
use Rattle.layout_link.specs.declared.image.RomSize.{RomSize}
use Rattle.layout_link.specs.Linker.{offsets_in, place_of, acts_in}
use Rattle.layout_link.specs.Startup.{start_up_turns}
use Rattle.layout_link.specs.Tasks.{is_main, is_unserved}
use Rattle.plm86.specs.Headline.{RomIsCorrect, StartsQuietly, StartsNoSooner}
use Rattle.word86.specs.Page.{Pages, AreWhole}
use Rattle.plm86.specs.Laws.{Assembly, IsSound, firmware_of, power_on_memory}
use Rattle.plm86.specs.Startup.{with_vectors, after_acts}
use Rattle.plm86.specs.Build.{MeansNames, IsSet, StartsUp}
use Rattle.plm86.specs.Inner.Compiling.{Promises, IsLinked}
use Rattle.plm86.specs.Inner.Assembled.{IsAssembled, image_of}
use Rattle.plm86.specs.Inner.Images.{assembly_of, begins_at, enters_at, IsJoined, IsInWords}
use Rattle.plm86.proofs.Machine.Placements.{placed_by}
use Rattle.plm86.proofs.Composition.Stacking.{in_words}
use Rattle.plm86.proofs.Composition.Meeting.{joined}
use Rattle.plm86.proofs.Composition.Finding.{finds}
use Rattle.plm86.proofs.Composition.Selected.{is_selected, is_image, main_low, main_behind}
use Rattle.plm86.proofs.Composition.FirstStore.{first_store_stands, keeps_others}
use Rattle.plm86.proofs.Headline.FromRom.{from_rom}
use Rattle.plm86.proofs.Headline.Quiet.{quiet_by_memory, no_sooner}

module _ (promises : Promises) (program : Program) (names : Names) (typed : AreTyped program names) (c : Code) (lowered : IsLowered names c) (stack : Stack) (counted : IsCounted c stack.main stack.handler) (enough : stack.main + stack.handler ≤ stack_room) (runs : NoRunPasses c stack.main stack.handler) (parts : List Part) (selected : AreParts c parts) (size : RomSize) (image : Image) (linked : IsLinked names parts stack size image) where
  abbrev assembled : IsAssembled names c parts size image.rom.items stack.main stack.handler
  assembled = record {
    lowered = lowered;
    sound = promises.sound names (promises.well_formed program names typed);
    selected = selected;
    counted = counted;
    enough = enough;
    stand = linked.stand;
    fits = linked.fits;
    within = linked.within;
  }

  abbrev x : promise.Image
  x = image_of names c parts size image.rom.items stack.main stack.handler assembled

  abbrev rom : Assembly
  rom = assembly_of image.rom.items x

  words : IsInWords c stack.main stack.handler x.main x.handler
  words = in_words c stack.main stack.handler counted runs enough

  placement : IsPlacement (offsets_in names) (sizes_of names)
  placement = subst (λ offsets. IsPlacement offsets (sizes_of names)) linked.offsets linked.placement

  together : IsJoined names x image.rom.items
  together =
      joined program names c x image.rom.items promises.tracks promises.well_formed promises.runs promises.entries promises.follow promises.unserved promises.counted typed lowered words.runs placement
      (is_image names c parts size image.rom.items stack.main stack.handler assembled) (is_selected names c parts size image.rom.items stack.main stack.handler assembled)

  is_sound : IsSound rom
  is_sound = record {
    is_placed = placed_by (offsets_in names) (sizes_of names) placement;
    finds = finds (offsets_in names) (sizes_of names);
    main_low = main_low names c parts size image.rom.items stack.main stack.handler assembled;
    enough = words.fits;
  }

  -- in the words of the assembly
  correct :
      RomIsCorrect board_chips (firmware_of rom) Rest (next (offsets_in names) (sizes_of names) (procedures_of names)) (main_rest names) (handler_rest names) (start_up_turns (acts_in names parts size)) chips.reset
      (λ ram screen. first_store ram screen (offsets_in names) names.variables.items (map object_of names.objects.items) chips.reset)
  correct =
      let f = together.is_followed in
      from_rom promises.below promises.one_form promises.short promises.widths promises.words chips.ChipState Rest Context board_chips rom is_sound linked.code linked.words (place_of names parts size is_unserved) (acts_in names parts size) linked.start_up.0
      (next (offsets_in names) (sizes_of names) (procedures_of names)) (main_rest names) (handler_rest names) (next_of x) begins_at (enters_at x) 2 together.most promise.limit 1 f.lowered f.compiled f.paced chips.reset
      (λ ram screen. first_store ram screen (offsets_in names) names.variables.items (map object_of names.objects.items) chips.reset)
      (λ ram screen ram_long whole. first_store_stands rom names parts size image.rom.items ram screen chips.reset ram_long whole linked.long linked.fits linked.initial linked.bytes (promises.initial names (offsets_in names)) placement (λ v. refl) linked.within (λ k. refl) (λ k. refl))

  pub means : MeansNames names image
  means = record {
    entry = rom.entry;
    faithful =
        subst
        (λ offsets. RomIsCorrect board_chips (record { rom = image.rom.items; entry = rom.entry; placed = slice_index offsets; size = slice_index (sizes_of names); main = image.stack.main; handler = image.stack.handler }) Rest (next offsets (sizes_of names) (procedures_of names)) (main_rest names) (handler_rest names) image.start_turns chips.reset
        (λ ram screen. first_store ram screen offsets names.variables.items (map object_of names.objects.items) chips.reset)) (sym linked.offsets)
        (subst
        (λ turns. RomIsCorrect board_chips (record { rom = image.rom.items; entry = rom.entry; placed = slice_index (offsets_in names); size = slice_index (sizes_of names); main = image.stack.main; handler = image.stack.handler }) Rest (next (offsets_in names) (sizes_of names) (procedures_of names)) (main_rest names) (handler_rest names) turns chips.reset
        (λ ram screen. first_store ram screen (offsets_in names) names.variables.items (map object_of names.objects.items) chips.reset)) (sym linked.turns)
        (subst
        (λ n. RomIsCorrect board_chips (record { rom = image.rom.items; entry = rom.entry; placed = slice_index (offsets_in names); size = slice_index (sizes_of names); main = image.stack.main; handler = n }) Rest (next (offsets_in names) (sizes_of names) (procedures_of names)) (main_rest names) (handler_rest names) (start_up_turns (acts_in names parts size)) chips.reset
        (λ ram screen. first_store ram screen (offsets_in names) names.variables.items (map object_of names.objects.items) chips.reset)) (sym words.handler_is ∙ ap (λ s. s.handler) (sym linked.stack_is))
        (subst
        (λ n. RomIsCorrect board_chips (record { rom = image.rom.items; entry = rom.entry; placed = slice_index (offsets_in names); size = slice_index (sizes_of names); main = n; handler = 2 * (3 + x.handler) }) Rest (next (offsets_in names) (sizes_of names) (procedures_of names)) (main_rest names) (handler_rest names) (start_up_turns (acts_in names parts size)) chips.reset
        (λ ram screen. first_store ram screen (offsets_in names) names.variables.items (map object_of names.objects.items) chips.reset)) (sym words.main_is ∙ ap (λ s. s.main) (sym linked.stack_is))
        correct)));
  }

  -- the memory at main's beginning, in the words of the clause
  alone : (ram : List ℕ) (screen : Pages) → length ram ≡ ram_size → AreWhole screen → (a : ℕ) → a < ram_size → ¬ IsSet names (offsets_in names) a
      → after_acts (acts_in names parts size) (with_vectors (place_of names parts size is_unserved) 0 256 (power_on_memory image.rom.items ram screen)) a ≡ slice_index ram a
  alone ram screen ram_long whole a low unset =
      elim (cases_lt a vectors_size) [
        | inl below ↦ absurd (unset (inl below))
        | inr above ↦ keeps_others names parts size image.rom.items ram screen ram_long a above low (λ k o is i lt at. unset (inr (k, o, is, i, lt, at)))
      ]

  -- main stands behind start-up
  before : linked.start_up.0.p6 < place_of names parts size is_main
  before =
      let end = linked.start_up.1 in
      let behind = main_behind names c parts size image.rom.items stack.main stack.handler assembled in
      omega (arith, end, behind)

  quietly : StartsQuietly board_chips image.start_turns (place_of names parts size is_main) (IsSet names image.placement.offsets.items) image.rom.items chips.reset
  quietly =
      subst (λ offsets. StartsQuietly board_chips image.start_turns (place_of names parts size is_main) (IsSet names offsets) image.rom.items chips.reset) (sym linked.offsets)
      (subst (λ turns. StartsQuietly board_chips turns (place_of names parts size is_main) (IsSet names (offsets_in names)) image.rom.items chips.reset) (sym linked.turns)
      (quiet_by_memory promises.below promises.one_form promises.short board_chips rom linked.code (place_of names parts size is_unserved) (acts_in names parts size) linked.start_up.0 chips.reset (IsSet names (offsets_in names)) alone))

  pub starts : StartsUp names image (place_of names parts size is_main)
  starts = record {
    quietly = quietly;
    no_sooner =
        subst (λ turns. StartsNoSooner board_chips turns (place_of names parts size is_main) image.rom.items chips.reset) (sym linked.turns)
        (no_sooner promises.below promises.one_form promises.short board_chips rom linked.code (place_of names parts size is_unserved) (acts_in names parts size) linked.start_up.0 before chips.reset);
  }
