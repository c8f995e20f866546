-- When a program has no image: it is too deep, or too large, or memory was wanting.
use Rattle.std.proofs.Common.{◌≡◌, ◌<◌, ◌⊎◌, inl, inr, List, refl, sym, subst}
use Rattle.std.specs.Prelude.{Result, Ok, Err, IfErr}
use Rattle.word86.specs.declared.fault.Fault.{Fault}
use Rattle.word86.specs.declared.fault.Fault.TheVariants.{Memory, At}
use Rattle.word86.specs.declared.number.Number.TheVariants.{E601}
use Rattle.plm_decl.specs.declared.names.Names.{Names}
use Rattle.icode.specs.declared.code.Code.{Code}
use Rattle.frames.specs.Counting.{IsRefusal}
use Rattle.frames.specs.Limits.{SmallProgramsFit}
use Rattle.lower.specs.Checked.{IsSound}
use Rattle.lower.specs.Heights.{HeightLaw}
use Rattle.lower.specs.Lowering.{IsLowered}
use Rattle.lower.specs.Room.{HasRoom}
use Rattle.select.specs.declared.part.Part.{Part}
use Rattle.select.specs.Room.{ProgramsHaveRoom}
use Rattle.select.specs.Selection.{AreParts}
use Rattle.layout_link.specs.declared.image.Image.{Image}
use Rattle.layout_link.specs.declared.image.RomSize.{RomSize}
use Rattle.layout_link.specs.Image.{bytes_in}
use Rattle.layout_link.specs.Linker.{needed}
use Rattle.plm86.specs.Inner.Compiling.{HasNoRoom}
use Rattle.plm86.proofs.Composition.Large.{code_fits}
use Rattle.plm86.proofs.Composition.Deep.{small_stack_fits}

module _ (names : Names) (size : RomSize) where
  -- want of memory may come at any point
  pub of_memory : (f : Fault) → f ≡ Memory → HasNoRoom names size f
  of_memory f e = subst (HasNoRoom names size) (sym e) tt

  module _ (c : Code) (lowered : IsLowered names c) where
    -- a refusal of the counted stack
    pub of_count : IsSound names → HeightLaw → SmallProgramsFit → (f : Fault) → IsRefusal c f → HasNoRoom names size f
    of_count sound heights fits f refused = elim (refused) [
      | inl e ↦ of_memory f e
      | inr past ↦ subst (HasNoRoom names size) (sym past.0) (inl (refl, λ shallow. small_stack_fits names c lowered sound heights fits shallow past.1))
    ]

    -- a refusal of the linker
    pub of_link : (parts : List Part) → AreParts c parts → HasRoom names → ProgramsHaveRoom → (f : Fault) → (f ≡ Memory) ⊎ ((f ≡ At 0 1 E601) × (bytes_in size < needed names parts)) → HasNoRoom names size f
    of_link parts are room fit f full = elim (full) [
      | inl e ↦ of_memory f e
      | inr over ↦ subst (HasNoRoom names size) (sym over.0) (inr (refl, code_fits names c parts size lowered are room fit over.1))
    ]

    -- the same of the linker's answer
    pub of_answer : (parts : List Part) → AreParts c parts → HasRoom names → ProgramsHaveRoom → (r : Result Image Fault) → IfErr r (λ f. (f ≡ Memory) ⊎ ((f ≡ At 0 1 E601) × (bytes_in size < needed names parts)))
        → IfErr r (HasNoRoom names size)
    of_answer parts are room fit (Ok image) full = tt
    of_answer parts are room fit (Err f) full = of_link parts are room fit f full
