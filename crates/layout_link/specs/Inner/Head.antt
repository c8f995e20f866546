-- The instructions of start-up.
use Rattle.std.specs.Prelude.{ℕ, suc, ◌+◌, ◌*◌, ◌%◌, ◌<◌, List, [], ◌∷◌, ◌++◌}
use Rattle.word86.specs.MemoryMap.{vectors_size, data_segment, screen_segment, code_segment, stack_top}
use Rattle.i86_table.specs.declared.registers.Register16.TheVariants.{Ax, Cx, Dx, Bx, Sp, Si, Di}
use Rattle.i86_table.specs.declared.registers.LoadableSegment.TheVariants as loadables
use Rattle.i86_table.specs.declared.instruction.RmOperand.TheVariants as places
use Rattle.i86_table.specs.declared.instruction.Operands.TheVariants.{Immediate}
use Rattle.i86_table.specs.declared.instruction.AluOperation.TheVariants.{Add, Cmp}
use Rattle.i86_table.specs.declared.instruction.Condition.TheVariants as conditions
use Rattle.i86_table.specs.declared.instruction.Instr.{Instr}
use Rattle.i86_table.specs.declared.instruction.Instr.TheVariants as i
use Rattle.layout_link.specs.declared.tasks.Task.{Task}
use Rattle.layout_link.specs.declared.tasks.Task.TheVariants as tasks
use Rattle.layout_link.specs.Startup.{load_word, put_word, put_byte, low_half, high_half, rep_movsb, Act, PutWord, PutByte, Copy}
use Rattle.layout_link.specs.Tasks.{placed}

-- all vectors get this entry
abbrev pub to_entry : (entry : ℕ) → List Instr
to_entry entry =
    load_word Ax entry ∷ load_word Dx code_segment ∷ load_word Bx 0
    ∷ low_half ∷ high_half ∷ i.AluWord Add (Immediate (places.Register Bx) 4) ∷ i.AluWord Cmp (Immediate (places.Register Bx) vectors_size) ∷ i.JumpIf conditions.NotEqual 242
    ∷ i.ClearDirection ∷ []

abbrev pub instructions_of : Act → List Instr
instructions_of (PutWord to w) = put_word to w ∷ []
instructions_of (PutByte to b) = put_byte to b ∷ []
instructions_of (Copy from to more) = load_word Si (from % 65536) ∷ load_word Di to ∷ load_word Cx ((more + 1) % 65536) ∷ rep_movsb ∷ []

abbrev pub all_of : (places : List ℕ) (from : ℕ) → List Task → List Instr
all_of places from [] = []
all_of places from (t ∷ ts) = instructions_of (placed places from t) ++ all_of places from ts

-- the segments and the stack pointer are loaded, and main comes next
abbrev pub to_main : (distance : ℕ) → List Instr
to_main distance =
    load_word Ax data_segment ∷ i.MoveToSegment loadables.Ds (places.Register Ax) ∷ i.MoveToSegment loadables.Ss (places.Register Ax)
    ∷ load_word Ax screen_segment ∷ i.MoveToSegment loadables.Es (places.Register Ax) ∷ load_word Sp stack_top ∷ i.Jump distance ∷ []

abbrev pub start_up : (entry : ℕ) (places : List ℕ) (from : ℕ) → List Task → (distance : ℕ) → List Instr
start_up entry places from ts distance = to_entry entry ++ (all_of places from ts ++ to_main distance)

-- its turns
abbrev pub turns_of_task : Task → ℕ
turns_of_task (tasks.Vector v p) = 1
turns_of_task (tasks.Word to w) = 1
turns_of_task (tasks.Byte to b) = 1
turns_of_task (tasks.Copy at to more) = 3 + suc more

abbrev pub turns_of_tasks : List Task → ℕ
turns_of_tasks [] = 0
turns_of_tasks (t ∷ ts) = turns_of_task t + turns_of_tasks ts

-- what it touches lies below 65,536
abbrev pub TaskFits : (from : ℕ) → Task → Type 0
TaskFits from (tasks.Vector v p) = 4 * v + 1 < 65536
TaskFits from (tasks.Word to w) = to + 1 < 65536
TaskFits from (tasks.Byte to b) = to + 1 < 65536
TaskFits from (tasks.Copy at to more) = (from + at + suc more < 65536) × (to + suc more < 65536)

abbrev pub TasksFit : (from : ℕ) → List Task → Type 0
TasksFit from [] = Unit {0}
TasksFit from (t ∷ ts) = TaskFits from t × TasksFit from ts
