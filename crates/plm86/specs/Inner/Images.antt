-- The image of a built program over its names and its code, and what the layers promise of it together.
use Rattle.std.specs.Prelude.{◌≡◌, ℕ, suc, ◌+◌, ◌-◌, ◌*◌, ◌/◌, ◌<◌, ◌≤◌, true, List, [], slice_index}
use Rattle.word86.specs.Access.{Access, answers}
use Rattle.word86.specs.MemoryMap.{stack_room}
use Rattle.plm_decl.specs.declared.names.Names.{Names}
use Rattle.plm_decl.specs.Placement.{IsPlacement, sizes_of}
use Rattle.plm_type.specs.declared.checked.Program.{Program}
use Rattle.plm_type.specs.Checked.{AreTyped}
use Rattle.plm_type.specs.Rest.{Rest}
use Rattle.plm_type.specs.Next.{next}
use Rattle.plm_type.specs.Programs.{main_tree, procedures_of, main_rest, handler_rest}
use Rattle.i86_table.specs.Contexts.{Context, Working}
use Rattle.icode.specs.declared.code.Routine.{Routine}
use Rattle.icode.specs.declared.code.Routine.TheVariants.{Main}
use Rattle.icode.specs.declared.code.Code.{Code}
use Rattle.icode.specs.Code.{serving}
use Rattle.icode.specs.Counted.{IsCounted}
use Rattle.icode.specs.Machine.{At}
use Rattle.icode.specs.Machine as machine
use Rattle.frames.specs.Counting.{NoRunPasses}
use Rattle.lower.specs.Checked.{CheckedLaw}
use Rattle.lower.specs.Lowering.{vectors_of, program_code, IsLowered, EntryLaw}
use Rattle.lower.specs.Runs.{RunsAreAllowed, RunsLaw}
use Rattle.lower.specs.Tracking.{LoweringTracks, LoweringLaw}
use Rattle.select.specs.Promise.{Image, next_of, accumulator_of, Counted, IsServed, IsSelected, Followed, InstructionsFollow, limit}
use Rattle.select.specs.Saved.{UnservedChangesNone, RegistersAreCounted}
use Rattle.select.specs.Selection.{AreSavedBy}
use Rattle.plm86.specs.Laws.{Assembly, Lowered, Compiled}

-- The image has the program's code and objects; each vector enters the routine that serves it, and interrupt procedures save what
-- they can change.
pub record IsImageOf (names : Names) (c : Code) (x : Image) : Type 0 where
  pub icode_is : (r : Routine) → x.icode r ≡ program_code names r
  pub sizes_are : x.sizes ≡ sizes_of names
  pub serving_is : (v : ℕ) → x.serving v ≡ serving c v
  pub saved : AreSavedBy c x.saves

-- where the code of main begins, with these registers
abbrev pub begins_at : Working → machine.Context
begins_at g = At Main 0 g.ax []

-- and that of an interrupt, over what it interrupts
abbrev pub enters_at : Image → (vector : ℕ) → Context → machine.Context
enters_at x v interrupted = At (x.serving v) 0 (accumulator_of interrupted) []

-- the bytes of a ROM, assembled as its image says
abbrev pub assembly_of : (rom : List ℕ) → Image → Assembly
assembly_of rom x =
    record {
      rom = rom;
      code = x.code;
      main_at = x.main_at;
      entry = x.entry;
      placed = λ k. slice_index x.offsets k;
      size = λ k. slice_index x.sizes k;
      find = x.find;
      words = x.words;
      main = x.main;
      handler = x.handler;
    }

-- ---- what is counted and served

pub record IsWithinRoom (x : Image) : Type 0 where
  pub of_main : (a : ℕ) → Counted (next_of x) (At Main 0 a []) true x.main
  pub of_vectors : (v a : ℕ) → IsServed x v a

abbrev pub CodeIsCounted : Type 0
CodeIsCounted =
    (names : Names) (c : Code) (x : Image) → UnservedChangesNone → RegistersAreCounted → EntryLaw
    → IsImageOf names c x → IsLowered names c → RunsAreAllowed names → NoRunPasses c (2 * x.main) (2 * (3 + x.handler))
    → IsWithinRoom x

-- ---- from the program to the instructions

-- the most silent steps of the program that come with one of the code
abbrev pub most_of : (names : Names) → LoweringTracks (sizes_of names) (procedures_of names) (vectors_of names) (main_tree names) → ℕ
most_of names tracking = tracking.0

-- the image's code tracks the rests of main and of what serves each vector; at most two instructions come without a step
abbrev pub IsLoweredTo : Names → Image → (most : ℕ) → Type 0
IsLoweredTo names x most =
    Lowered Access answers Rest (next x.offsets (sizes_of names) (procedures_of names)) (main_rest names) (handler_rest names) machine.Context (next_of x) Working Context begins_at (enters_at x) 2 most

-- and the instructions of the ROM follow that code
abbrev pub IsCompiledTo : Image → (rom : List ℕ) → Type 0
IsCompiledTo x rom = Compiled (assembly_of rom x) machine.Context (next_of x) begins_at (enters_at x) limit 1

-- both; with a turn for each instruction a step of the program comes in less than 64 turns
pub record IsFollowed (names : Names) (x : Image) (rom : List ℕ) (most : ℕ) : Type 0 where
  pub lowered : IsLoweredTo names x most
  pub compiled : IsCompiledTo x rom
  pub paced : 2 * suc limit + limit < 64

abbrev pub ProgramsAreFollowed : Type 0
ProgramsAreFollowed =
    (names : Names) (c : Code) (x : Image) (rom : List ℕ) → EntryLaw
    → IsImageOf names c x → IsLowered names c → IsPlacement x.offsets (sizes_of names)
    → (tracking : LoweringTracks (sizes_of names) (procedures_of names) (vectors_of names) (main_tree names))
    → Followed x
    → IsFollowed names x rom (most_of names tracking)

-- ---- the stack in words, of which an interrupt's own are three

pub record IsInWords (c : Code) (main handler main_words handler_words : ℕ) : Type 0 where
  pub main_is : main ≡ 2 * main_words
  pub handler_is : handler ≡ 2 * (3 + handler_words)
  pub fits : main_words + 3 + handler_words ≤ stack_room / 2
  pub runs : NoRunPasses c (2 * main_words) (2 * (3 + handler_words))

abbrev pub StackIsInWords : Type 0
StackIsInWords = (c : Code) (main handler : ℕ) (counted : IsCounted c main handler) → NoRunPasses c main handler → main + handler ≤ stack_room → IsInWords c main handler counted.deepest (counted.largest - 3)

-- ---- of a checked program

pub record IsJoined (names : Names) (x : Image) (rom : List ℕ) : Type 0 where
  pub most : ℕ
  pub is_followed : IsFollowed names x rom most

abbrev pub LayersMeet : Type 0
LayersMeet =
    (program : Program) (names : Names) (c : Code) (x : Image) (rom : List ℕ)
    → LoweringLaw → CheckedLaw → RunsLaw → EntryLaw → InstructionsFollow → UnservedChangesNone → RegistersAreCounted
    → AreTyped program names → IsLowered names c → NoRunPasses c (2 * x.main) (2 * (3 + x.handler))
    → IsPlacement x.offsets (sizes_of names) → IsImageOf names c x → IsSelected x
    → IsJoined names x rom
