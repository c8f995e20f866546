-- What `link` answers, and what follows from it, as clauses on an answer.
use Rattle.std.proofs.Common.{◌≡◌, ℕ, ◌+◌, ◌≤◌, ◌<◌, List, length, sym, ap, subst, arith}
use Rattle.std.specs.Prelude.{slice_index, Result, Ok, Err, IfOk, OnOk}
use Rattle.word86.specs.MemoryMap.{stack_room}
use Rattle.word86.specs.declared.fault.Fault.{Fault}
use Rattle.plm_decl.specs.declared.names.Names.{Names}
use Rattle.plm_decl.specs.Placement.{IsPlacement, sizes_of}
use Rattle.plm_type.specs.declared.checked.Program.{Program}
use Rattle.plm_type.specs.Checked.{AreTyped}
use Rattle.icode.specs.declared.code.Code.{Code}
use Rattle.icode.specs.Counted.{IsCounted}
use Rattle.frames.specs.declared.counting.Stack.{Stack}
use Rattle.frames.specs.Counting.{NoRunPasses}
use Rattle.lower.specs.Lowering.{IsLowered}
use Rattle.select.specs.declared.part.Part.{Part}
use Rattle.select.specs.Selection.{AreParts}
use Rattle.layout_link.specs.declared.image.Image.{Image}
use Rattle.layout_link.specs.declared.image.RomSize.{RomSize}
use Rattle.layout_link.specs.Image.{bytes_in, base_of}
use Rattle.layout_link.specs.Initial.{HaveBytes, count_of}
use Rattle.layout_link.specs.Linker.{offsets_in, start_up_in, needed, places_in, place_of, acts_in, InitialStands}
use Rattle.layout_link.specs.Rom.{CodeInRom, WordsInRom, rom_code, rom_words}
use Rattle.layout_link.specs.Stand.{PartsStand}
use Rattle.layout_link.specs.Startup.{HasStartUpBefore, start_up_turns}
use Rattle.layout_link.specs.Tasks.{is_main, is_unserved}
use Rattle.plm86.specs.Exact.{Fits}
use Rattle.plm86.specs.Inner.Compiling.{Promises, IsLinked, IsImage}
use Rattle.plm86.proofs.Composition.Data.{bytes_few}
use Rattle.plm86.proofs.Composition.Exactly.{in_stack, in_rom}
use Rattle.plm86.proofs.Composition.Whole.{means, starts}

pub linked :
    (names : Names) (parts : List Part) (stack : Stack) (size : RomSize) (r : Result Image Fault)
    → IfOk r (λ image. length image.rom.items ≡ bytes_in size)
    → IfOk r (λ image. CodeInRom image.rom.items (rom_code image.rom.items))
    → IfOk r (λ image. WordsInRom image.rom.items (rom_words image.rom.items))
    → IfOk r (λ image. HasStartUpBefore (base_of size + start_up_in names parts) (rom_code image.rom.items) (place_of names parts size is_unserved) (acts_in names parts size) (place_of names parts size is_main))
    → IfOk r (λ image. InitialStands names parts size image.rom.items)
    → OnOk r (HaveBytes (offsets_in names) names.variables.items names.objects.items)
    → IfOk r (λ image. image.start_turns ≡ start_up_turns (acts_in names parts size))
    → IfOk r (λ image. image.start_turns ≤ 4096 + count_of (offsets_in names) names.variables.items names.objects.items)
    → IfOk r (λ image. PartsStand (rom_code image.rom.items) (rom_words image.rom.items) (offsets_in names) (places_in names parts size) parts)
    → OnOk r ((part : ℕ) → slice_index (places_in names parts size) part < 65536)
    → IfOk r (λ image. image.placement.offsets.items ≡ offsets_in names)
    → IfOk r (λ image. IsPlacement image.placement.offsets.items (sizes_of names))
    → IfOk r (λ image. image.stack ≡ stack)
    → OnOk r (needed names parts ≤ bytes_in size)
    → IfOk r (IsLinked names parts stack size)
linked names parts stack size (Err f) long code words start_up initial bytes turns few_turns stand within offsets placement stack_is fits = tt
linked names parts stack size (Ok image) long code words start_up initial bytes turns few_turns stand within offsets placement stack_is fits = record {
  long = long;
  code = code;
  words = words;
  start_up = start_up;
  initial = initial;
  bytes = bytes;
  turns = turns;
  few_turns = few_turns;
  stand = stand;
  within = within;
  offsets = offsets;
  placement = placement;
  stack_is = stack_is;
  fits = fits;
}

module _ (promises : Promises) (program : Program) (names : Names) (typed : AreTyped program names) (c : Code) (lowered : IsLowered names c) (stack : Stack) (counted : IsCounted c stack.main stack.handler) (enough : stack.main + stack.handler ≤ stack_room) (runs : NoRunPasses c stack.main stack.handler) (parts : List Part) (selected : AreParts c parts) (size : RomSize) where
  image_is : (image : Image) → IsLinked names parts stack size image → IsImage names size image
  image_is image is = record {
    means = means promises program names typed c lowered stack counted enough runs parts selected size image is;
    main_at = place_of names parts size is_main;
    starts = starts promises program names typed c lowered stack counted enough runs parts selected size image is;
    placement = is.placement;
    long = is.long;
    start = omega (arith, is.few_turns, bytes_few (offsets_in names) names.variables.items names.objects.items);
    stack = omega (arith, enough, ap (λ s. s.main + s.handler) is.stack_is);
  }

  pub is_image : (r : Result Image Fault) → IfOk r (IsLinked names parts stack size) → IfOk r (IsImage names size)
  is_image (Err f) is = tt
  is_image (Ok image) is = image_is image is

  fits_in : (image : Image) → IsLinked names parts stack size image → Fits names size image
  fits_in image is = record {
    stack = record { code = c; lowered = lowered; counted = subst (λ s. IsCounted c s.main s.handler) (sym is.stack_is) counted };
    in_stack = in_stack names c lowered stack.main stack.handler counted enough;
    parts = parts;
    has_parts = record { code = c; lowered = lowered; selected = selected };
    in_rom = in_rom names c lowered promises.entries parts selected size is.fits;
    turns = is.turns;
    starts = starts promises program names typed c lowered stack counted enough runs parts selected size image is;
  }

  pub does_fit : (r : Result Image Fault) → IfOk r (IsLinked names parts stack size) → IfOk r (Fits names size)
  does_fit (Err f) is = tt
  does_fit (Ok image) is = fits_in image is
