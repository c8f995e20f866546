-- The steps of placed parts, in the code of a ROM.
use Rattle.std.specs.Prelude.{ℕ, ◌≡◌, ◌+◌, List, slice_index, slice_get, Option, Some}
use Rattle.i86_table.specs.declared.instruction.Instr.{Instr}
use Rattle.select.specs.declared.part.Part.{Part}
use Rattle.select.specs.declared.part.Step.{Step}
use Rattle.select.specs.Sizes.{start}
use Rattle.select.specs.Parts.{IsPart}
use Rattle.select.specs.Linked.{AllStand}

-- Whatever steps a part has, they stand from its place on, and the words of its tables too.
abbrev pub PartsStand : (code : ℕ → Option (Instr × ℕ)) (words : ℕ → Option ℕ) (offsets places : List ℕ) → List Part → Type 0
PartsStand code words offsets places parts =
    (own : ℕ) (p : Part) (steps : List Step) → slice_get parts own ≡ Some p → (is : IsPart own steps p.bytes.items p.fixups.items)
    → AllStand code words offsets places (λ j. slice_index places own + start is.sizes j) 0 steps
