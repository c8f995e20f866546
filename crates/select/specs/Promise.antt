-- What the instructions promise of the intermediate code.
use Rattle.std.specs.Prelude.{◌≡◌, ℕ, ◌+◌, ◌/◌, ◌<◌, ◌≤◌, Bool, true, false, List, [], length, Option, Some, None, slice_get, slice_index}
use Rattle.word86.specs.Access.{Access, answers}
use Rattle.word86.specs.Action.{Action, Silent, Touch, Enable, Disable, Halt, Over, Bad}
use Rattle.word86.specs.Following.{Follows}
use Rattle.word86.specs.MemoryMap.{stack_room}
use Rattle.word86.specs.Place.{held}
use Rattle.i86_table.specs.declared.instruction.Instr.{Instr}
use Rattle.i86_table.specs.Contexts.{Context, Own, Working, in_object, offer, start}
use Rattle.i86_table.specs.Words.{AreWords, HasWords}
use Rattle.icode.specs.declared.instruction.Instruction.{Instruction}
use Rattle.icode.specs.declared.instruction.Instruction.TheVariants as op
use Rattle.icode.specs.declared.code.Routine.{Routine}
use Rattle.icode.specs.declared.code.Routine.TheVariants.{Main, Procedure, Nowhere}
use Rattle.icode.specs.declared.code.Word.{Word}
use Rattle.icode.specs.declared.registers.Registers.{Registers}
use Rattle.icode.specs.Heights.{called}
use Rattle.icode.specs.Registers.{joined, changes}
use Rattle.icode.specs.Made.{IsMade}
use Rattle.icode.specs.Runs.{Comes}
use Rattle.icode.specs.Machine.{At, does}
use Rattle.icode.specs.Machine as machine
use Rattle.select.specs.Linked.{AllStand}
use Rattle.select.specs.Rows.{registers_of, first_of, routine}

-- how many instructions may come without a step of the code
abbrev pub limit : ℕ
limit = 20

-- main is never used up, and an interrupt procedure has no ENABLE or HALT
abbrev pub Allowed : (main : Bool) → Action Access machine.Context → Type 0
Allowed true (Silent d) = Unit {0}
Allowed true (Touch b k) = Unit {0}
Allowed true (Enable d) = Unit {0}
Allowed true (Disable d) = Unit {0}
Allowed true (Halt d) = Unit {0}
Allowed true Over = ⊥
Allowed true (Bad module_index line) = Unit {0}
Allowed false (Silent d) = Unit {0}
Allowed false (Touch b k) = Unit {0}
Allowed false (Enable d) = ⊥
Allowed false (Disable d) = Unit {0}
Allowed false (Halt d) = ⊥
Allowed false Over = Unit {0}
Allowed false (Bad module_index line) = Unit {0}

abbrev pub words_of : machine.Context → List Word
words_of (At r k a ws) = ws

module _ (next : machine.Context → Action Access machine.Context) (begin : machine.Context) where
  -- no run has more than `most` words on the stack
  pub record Counted (main : Bool) (most : ℕ) : Type 0 where
    pub few : (n : ℕ) (c : machine.Context) → Comes next begin n c → length (words_of c) ≤ most
    pub allowed : (n : ℕ) (c : machine.Context) → Comes next begin n c → Allowed main (next c)

abbrev pub accumulator_of : Context → ℕ
accumulator_of (Own place g st a given) = g.ax

-- Where a program's instructions stand: the code, the words of its tables, its data, and where objects lie and parts begin; the
-- intermediate code, the part of each procedure, the place of each step of each routine's part, and the registers that it saves; which
-- routine serves a vector, and the place where it begins; and how many words main and an interrupt procedure may push.
pub record Image : Type 0 where
  pub code : ℕ → Option (Instr × ℕ)
  pub words : (offset : ℕ) → Option ℕ
  pub find : (offset n : ℕ) → Option (ℕ × ℕ)
  pub offsets : List ℕ
  pub sizes : List ℕ
  pub places : List ℕ
  pub icode : Routine → List Instruction
  pub part : (procedure : ℕ) → ℕ
  pub at : Routine → (step : ℕ) → ℕ
  pub saves : Routine → Registers
  pub serving : (vector : ℕ) → Routine
  pub entry : (vector : ℕ) → ℕ
  pub main_at : ℕ
  pub main : ℕ
  pub handler : ℕ

abbrev pub next_of : Image → machine.Context → Action Access machine.Context
next_of x = does x.offsets x.sizes x.icode

-- where the row of an index begins
abbrev pub place_of : Image → Routine → ℕ → ℕ
place_of x r k = x.at r (first_of (x.saves r) (x.icode r) k)

-- ---- what selection asks of the code

-- a procedure that is called begins with its first row
abbrev pub IsEntered : Image → Option ℕ → Type 0
IsEntered x (Some q) = slice_index x.places (x.part q) ≡ place_of x (Procedure q) 0
IsEntered x None = Unit {0}

abbrev pub IsCallable : Image → Instruction → Type 0
IsCallable x n = IsEntered x (called n)

pub record IsSelected (x : Image) : Type 0 where
  -- each routine stands in the code, below 65,536
  pub stand : (r : Routine) → AllStand x.code x.words x.offsets x.places (x.at r) 0 (routine x.part (x.saves r) (x.icode r))
  pub low : (r : Routine) (step : ℕ) → x.at r step < 65536
  pub made : (r : Routine) → IsMade (x.icode r)
  pub callable : (r : Routine) (k : ℕ) (n : Instruction) → slice_get (x.icode r) k ≡ Some n → IsCallable x n
  pub nowhere : x.icode Nowhere ≡ []
  pub finds : (a n : ℕ) → in_object (x.find a n) ≡ held 0 x.offsets x.sizes a n
  -- main saves nothing, and begins with its first row; an interrupt procedure begins with what it saves
  pub begins : x.main_at ≡ place_of x Main 0
  pub starts : (v : ℕ) → x.entry v ≡ x.at (x.serving v) 0
  pub few : x.main + x.handler ≤ stack_room / 2

-- An interrupt procedure's code, wherever it comes to: it has few words, changes no register that is not saved, and ends in its
-- own routine alone.
pub record IsServed (x : Image) (v a : ℕ) : Type 0 where
  pub most : ℕ
  pub counted : Counted (next_of x) (At (x.serving v) 0 a []) false most
  pub enough : most + length (registers_of (x.saves (x.serving v))) ≤ x.handler
  pub saves : (n : ℕ) (r : Routine) (k b : ℕ) (ws : List Word) (i : Instruction) → Comes (next_of x) (At (x.serving v) 0 a []) n (At r k b ws) → slice_get (x.icode r) k ≡ Some i
      → joined (x.saves (x.serving v)) (changes i) ≡ x.saves (x.serving v)
  pub ends : (n : ℕ) (r : Routine) (k b : ℕ) (ws : List Word) → Comes (next_of x) (At (x.serving v) 0 a []) n (At r k b ws) → slice_get (x.icode r) k ≡ Some op.Finish → r ≡ x.serving v

-- The promise: main's instructions follow main's code, each interrupt procedure's its procedure, whatever words are in the
-- registers at first.
pub record Followed (x : Image) : Type 0 where
  pub follows : (n : ℕ) (g : Working) → AreWords g
      → Follows Access answers machine.Context (next_of x) Context (offer x.code x.find x.words x.entry x.main x.handler) limit 1 true n limit (At Main 0 g.ax []) (Own x.main_at g [] false None)
  pub serves : (n v : ℕ) (c : Context) → HasWords c
      → Follows Access answers machine.Context (next_of x) Context (offer x.code x.find x.words x.entry x.main x.handler) limit 1 false n limit (At (x.serving v) 0 (accumulator_of c) [])
      (start x.code x.find x.words x.entry x.main x.handler v c)

abbrev pub InstructionsFollow : Type 0
InstructionsFollow =
    (x : Image) → IsSelected x
    → ((a : ℕ) → a < 65536 → Counted (next_of x) (At Main 0 a []) true x.main)
    → ((v a : ℕ) → a < 65536 → IsServed x v a)
    → Followed x
