-- The steps that can be assembled, and what is written for each.
use Rattle.std.specs.Prelude.{ℕ, ◌+◌, ◌-◌, ◌%◌, ◌<◌, ◌==◌, if◌then◌else◌, List, [], ◌∷◌, ◌++◌, length, slice_index_or}
use Rattle.i86_table.specs.declared.instruction.Condition.{Condition}
use Rattle.i86_table.specs.declared.instruction.Instr.TheVariants as i
use Rattle.i86_table.specs.Inverse.{inverse}
use Rattle.i86_code.specs.Forms.{word_bytes, Spells}
use Rattle.i86_code.specs.Writing.{bytes_of}
use Rattle.i86_code.specs.Open.{front_of, open_bytes, IsOpen}
use Rattle.select.specs.declared.part.Kind.TheVariants.{Case}
use Rattle.select.specs.declared.part.Fixup.{Fixup}
use Rattle.select.specs.declared.part.Step.{Step}
use Rattle.select.specs.declared.part.Step.TheVariants.{Plain, Refer, AtStep, Word, Goto, GotoIf}
use Rattle.select.specs.Parts.{fixup}

-- a step refers to steps of its part alone
abbrev pub IsStepOf : (many : ℕ) → Step → Type 0
IsStepOf many (AtStep x t) = t < many
IsStepOf many (Word t) = t < many
IsStepOf many (Goto t) = t < many
IsStepOf many (GotoIf c t) = t < many
IsStepOf many (Plain n) = Unit {0}
IsStepOf many (Refer x n kind name) = Unit {0}

abbrev pub nothing : Step
nothing = Word 0

abbrev pub AreSteps : List Step → Type 0
AreSteps xs = (k : ℕ) → k < length xs → IsStepOf (length xs) (slice_index_or xs k nothing)

-- ---- what is written

-- how far it is from one place to another
abbrev pub distance : (from to : ℕ) → ℕ
distance from to = (to + 65536 - from) % 65536

abbrev pub jump_bytes : (size far : ℕ) → List ℕ
jump_bytes size far = if size == 2 then bytes_of (i.JumpShort (far % 256)) else bytes_of (i.Jump far)

abbrev pub branch_bytes : Condition → (size far : ℕ) → List ℕ
branch_bytes c size far = if size == 2 then bytes_of (i.JumpIf c (far % 256)) else bytes_of (i.JumpIf (inverse c) 3) ++ bytes_of (i.Jump far)

abbrev pub step_bytes : (size there to : ℕ) → Step → List ℕ
step_bytes size there to (Plain n) = bytes_of n
step_bytes size there to (Refer x n kind name) = open_bytes x n
step_bytes size there to (AtStep x t) = open_bytes x to
step_bytes size there to (Word t) = word_bytes to
step_bytes size there to (Goto t) = jump_bytes size (distance there to)
step_bytes size there to (GotoIf c t) = branch_bytes c size (distance there to)

abbrev pub step_fixups : (own here : ℕ) → Step → List Fixup
step_fixups own here (Plain n) = []
step_fixups own here (Refer x n kind name) = fixup (here + length (front_of x)) kind name ∷ []
step_fixups own here (AtStep x t) = fixup (here + length (front_of x)) Case own ∷ []
step_fixups own here (Word t) = fixup here Case own ∷ []
step_fixups own here (Goto t) = []
step_fixups own here (GotoIf c t) = []

abbrev pub IsCoded : Step → Type 0
IsCoded (Plain n) = Spells (bytes_of n) n
IsCoded (Refer x n kind name) = IsOpen x
IsCoded (AtStep x t) = IsOpen x
IsCoded (Word t) = Unit {0}
IsCoded (Goto t) = Unit {0}
IsCoded (GotoIf c t) = Unit {0}

-- the bytes of a step that are known before any step has its place
abbrev pub drafted_bytes : Step → List ℕ
drafted_bytes (Plain n) = bytes_of n
drafted_bytes (Refer x n kind name) = open_bytes x n
drafted_bytes (AtStep x t) = open_bytes x 0
drafted_bytes (Word t) = []
drafted_bytes (Goto t) = []
drafted_bytes (GotoIf c t) = []
