-- Which programs fit, and which are refused, exactly.
use Rattle.std.proofs.Common.{◌≡◌, ℕ, ◌+◌, ◌<◌, ◌≤◌, ◌⊎◌, inl, inr, List, refl, sym, subst, arith}
use Rattle.std.specs.Prelude.{Result, Ok, Err, IfErr}
use Rattle.word86.specs.MemoryMap.{stack_room}
use Rattle.word86.specs.declared.fault.Fault.{Fault}
use Rattle.word86.specs.declared.fault.Fault.TheVariants.{Memory, At}
use Rattle.word86.specs.declared.number.Number.TheVariants.{E601}
use Rattle.plm_decl.specs.declared.names.Names.{Names}
use Rattle.icode.specs.declared.code.Code.{Code}
use Rattle.icode.specs.Counted.{IsCounted}
use Rattle.frames.specs.Counting.{IsRefusal}
use Rattle.lower.specs.Lowering.{IsLowered, EntryLaw}
use Rattle.select.specs.declared.part.Part.{Part}
use Rattle.select.specs.Selection.{AreParts}
use Rattle.layout_link.specs.declared.image.Image.{Image}
use Rattle.layout_link.specs.declared.image.RomSize.{RomSize}
use Rattle.layout_link.specs.Image.{bytes_in}
use Rattle.layout_link.specs.Linker.{needed}
use Rattle.plm86.specs.Exact.{IsTooDeep, IsTooLong, LacksRoom}
use Rattle.plm86.proofs.Composition.OneStack.{one_stack}
use Rattle.plm86.proofs.Composition.OneSize.{one_size}

module _ (names : Names) (c : Code) (lowered : IsLowered names c) where
  -- what one code takes, every code of the program takes
  pub in_stack : (main handler : ℕ) → IsCounted c main handler → main + handler ≤ stack_room → ¬ IsTooDeep names
  in_stack main handler counted enough deep =
      let stack = deep.2 in
      let past = deep.3 in
      let same = one_stack names c stack.code lowered stack.lowered main handler deep.0 deep.1 counted stack.counted in
      omega (arith, same.0, same.1, past, enough)

  pub in_rom : EntryLaw → (parts : List Part) → AreParts c parts → (size : RomSize) → needed names parts ≤ bytes_in size → ¬ IsTooLong names size
  in_rom enters parts are size fits long =
      let others = long.1 in
      let past = long.2 in
      let same = one_size names c others.code lowered others.lowered enters parts long.0 are others.selected in
      omega (arith, same, past, fits)

module _ (names : Names) (size : RomSize) where
  pub lacks_memory : (f : Fault) → f ≡ Memory → LacksRoom names size f
  lacks_memory f e = subst (LacksRoom names size) (sym e) tt

  module _ (c : Code) (lowered : IsLowered names c) where
    -- a refusal of the counted stack
    pub lacks_stack : (f : Fault) → IsRefusal c f → LacksRoom names size f
    lacks_stack f refused = elim (refused) [
      | inl e ↦ lacks_memory f e
      | inr past ↦ let p = past.1 in
          subst (LacksRoom names size) (sym past.0) (inl (refl, (p.main, p.handler, record { code = c; lowered = lowered; counted = p.is_counted }, p.is_past)))
    ]

    -- a refusal of the linker, after the stack was counted
    module _ (main handler : ℕ) (counted : IsCounted c main handler) (enough : main + handler ≤ stack_room) (parts : List Part) (are : AreParts c parts) where
      lacks_rom_for : (f : Fault) → (f ≡ Memory) ⊎ ((f ≡ At 0 1 E601) × (bytes_in size < needed names parts)) → LacksRoom names size f
      lacks_rom_for f full = elim (full) [
        | inl e ↦ lacks_memory f e
        | inr over ↦ subst (LacksRoom names size) (sym over.0) (inr (refl, in_stack names c lowered main handler counted enough, (parts, record { code = c; lowered = lowered; selected = are }, over.1)))
      ]

      pub lacks_rom : (r : Result Image Fault) → IfErr r (λ f. (f ≡ Memory) ⊎ ((f ≡ At 0 1 E601) × (bytes_in size < needed names parts))) → IfErr r (LacksRoom names size)
      lacks_rom (Ok image) full = tt
      lacks_rom (Err f) full = lacks_rom_for f full
