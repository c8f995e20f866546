-- What a ROM does on the board: the labels of an allowed run of a program, whatever happens outside.
use Rattle.std.specs.Prelude.{ℕ, zero, suc, Bool, true, false, ◌≡◌, ◌+◌, ◌*◌, ◌<◌, ◌≤◌, ⊤, Some, None, List, [], ◌∷◌, map, length, take, drop, slice_index}
use Rattle.word86.specs.declared.event.Event.{Event}
use Rattle.word86.specs.declared.label.Label.{Label}
use Rattle.word86.specs.Access.{Access}
use Rattle.word86.specs.Event.{event_label}
use Rattle.word86.specs.Chips.{Chips}
use Rattle.word86.specs.MemoryMap.{ram_size, data_segment, data_start, data_end, stack_top, screen_segment, code_segment}
use Rattle.word86.specs.Page.{Pages, AreWhole}
use Rattle.word86.specs.Action.{Shared, Action}
use Rattle.plm_meaning.specs.System.{Choice, System, State, first_state, steps, FitsTurns, HasNoBad, KeepsPace, joined}
use Rattle.plm_meaning.specs.Store.{Store, object, shared}
use Rattle.i86_table.specs.declared.registers.Regs.{Regs}
use Rattle.cpu8086.specs.declared.cpu.Kind.{Kind}
use Rattle.cpu8086.specs.declared.cpu.Kind.TheVariants.{Ack, Instr, Wait, Opcode}
use Rattle.cpu8086.specs.declared.cpu.Phase.{Phase}
use Rattle.cpu8086.specs.declared.cpu.Phase.TheVariants.{Running, AfterSti, Halted, Stopped}
use Rattle.cpu8086.specs.BusModel.{BusModel}
use Rattle.cpu8086.specs.Machine.{loaded_word}
use Rattle.cpu8086.specs.Turn.{GeneralRegisters, HoldWords}
use Rattle.board.specs.World.{World, Whole, board_model, occurs}
use Rattle.board.specs.Machine.{Board, turn, turn_kind, outputs, final, power_on}

-- What stands throughout a run: the ROM's bytes; the place in segment 0F000H to which each vector leads; the offset in segment 0040H
-- at which each object lies, and how many bytes it has; and how many bytes main has on the stack at most, and an interrupt procedure
-- with the six bytes of its entry.
pub record Firmware : Type 0 where
  pub rom : List ℕ
  pub entry : (vector : ℕ) → ℕ
  pub placed : (object : ℕ) → ℕ
  pub size : (object : ℕ) → ℕ
  pub main : ℕ
  pub handler : ℕ

-- ---- what stands after a turn

-- each vector leads to its entry
pub record Vectors {W : Type 0} (m : BusModel W) (entry : ℕ → ℕ) (w : W) : Type 0 where
  pub offset : (n : ℕ) → n < 256 → loaded_word m w 0 (4 * n) ≡ entry n
  pub segment : (n : ℕ) → n < 256 → loaded_word m w 0 (4 * n + 2) ≡ code_segment

-- The board has this store: each object has its size, and its bytes are in RAM from its place in segment 0040H on; both pages of the
-- screen are the store's; and the chips are the store's.
pub record HasStore {P : Type 0} (placed size : ℕ → ℕ) (s : Store P) (w : World P) : Type 0 where
  pub sizes : (k : ℕ) → length (object s k) ≡ size k
  pub bytes : (k i : ℕ) → i < size k → slice_index w.ram (data_start + placed k + i) ≡ slice_index (object s k) i
  pub screen : w.screen ≡ s.screen
  pub chips : w.chips ≡ s.chips

-- code is in segment 0F000H, objects and the stack in 0040H, and the screen in 0B000H
pub record HasSegments (r : Regs) : Type 0 where
  pub cs : r.cs ≡ code_segment
  pub ds : r.ds ≡ data_segment
  pub ss : r.ss ≡ data_segment
  pub es : r.es ≡ screen_segment

-- the processor has not come to bytes that are no instruction
abbrev pub IsGoing : Phase → Type 0
IsGoing Running = ⊤
IsGoing AfterSti = ⊤
IsGoing Halted = ⊤
IsGoing (Stopped at) = ⊥

-- a turn came to none: it was an acknowledgement, an instruction or a wait
abbrev pub IsOrderly : Kind → Type 0
IsOrderly Ack = ⊤
IsOrderly Instr = ⊤
IsOrderly Wait = ⊤
IsOrderly (Opcode at) = ⊥

-- what is shared in a run's state: the program's objects, the screen and the chips
abbrev pub shared_in : {S R : Type 0} → System S R → S
shared_in (State main handler on halted w silents switches) = w

-- an interrupt procedure runs
abbrev pub is_serving : {S R : Type 0} → System S R → Bool
is_serving (State main None on halted w silents switches) = false
is_serving (State main (Some h) on halted w silents switches) = true

-- `main_sp` is where the stack pointer is while main runs, and where it was when the interrupt procedure that runs was entered. It
-- is at most main's bytes below the top of the stack, 0FFFEH, and an interrupt procedure goes at most its own bytes below it.
abbrev pub IsBounded : (main handler main_sp : ℕ) → (serving : Bool) → (sp : ℕ) → Type 0
IsBounded main handler main_sp false sp = (stack_top ≤ main_sp + main) × (sp ≡ main_sp)
IsBounded main handler main_sp true sp = (stack_top ≤ main_sp + main) × (main_sp ≤ sp + handler)

module _ {P : Type 0} (c : Chips P) where
  abbrev pub board_turn : List Event → Board (World P) → Board (World P) × List Label
  board_turn es b = turn (board_model c) (occurs c) es b

  -- RAM and both pages have their sizes, and ROM and vectors are as they were; the board has the store of the run's state; the segments are
  -- the program's, in an interrupt procedure too; the processor goes on; and the stack pointer is in its bounds and in the stack's room
  pub record Stands {R : Type 0} (x : Firmware) (main_sp : ℕ) (s : System (Store P) R) (b : Board (World P)) : Type 0 where
    pub whole : Whole x.rom b.world
    pub vectors : Vectors (board_model c) x.entry b.world
    pub store : HasStore x.placed x.size (shared_in s) b.world
    pub segments : HasSegments b.cpu.registers
    pub going : IsGoing b.cpu.phase
    pub bounded : IsBounded x.main x.handler main_sp (is_serving s) b.cpu.registers.sp
    pub from_top : b.cpu.registers.sp ≤ stack_top
    pub in_room : data_end ≤ b.cpu.registers.sp

  -- no turn comes to bytes that are no instruction
  abbrev pub NeverStops : (due : List (List Event)) → Board (World P) → Type 0
  NeverStops [] b = ⊤
  NeverStops (es ∷ due) b = IsOrderly (turn_kind (board_model c) (occurs c) es b) × NeverStops due (board_turn es b).0

-- ---- a run

module _ (sh : Shared) (R : Type 0) (next : R → Action sh.Access R) (body : ℕ → R) (M : Type 0) (turns : List sh.Event → M → M × List sh.Label) (Standing : (main_sp : ℕ) → System sh.State R → M → Type 0) where
  -- The machine stands now and after each turn that comes, as the run is by then: its pieces lead from state to state. `main_sp`
  -- stays as long as an interrupt procedure runs.
  abbrev pub Upholds : (due : List (List sh.Event)) → M → (pieces : List (List (Choice sh.Event))) → System sh.State R → (main_sp : ℕ) → Type 0
  Upholds [] m pieces s main_sp = Standing main_sp s m
  Upholds (es ∷ due) m [] s main_sp = ⊥
  Upholds (es ∷ due) m (cs ∷ pieces) s main_sp =
      Standing main_sp s m × (t : System sh.State R) × (steps sh R next body cs s ≡ Some (t, (turns es m).1))
      × (later : ℕ) × (is_serving t ≡ true → later ≡ main_sp) × Upholds due (turns es m).0 pieces t later

  -- the same from the end of a start-up of start_turns turns on
  abbrev pub UpholdsAfter : (start_turns : ℕ) → (due : List (List sh.Event)) → M → (pieces : List (List (Choice sh.Event))) → System sh.State R → Type 0
  UpholdsAfter zero due m pieces s = (main_sp : ℕ) × Upholds due m pieces s main_sp
  UpholdsAfter (suc k) [] m pieces s = Unit {0}
  UpholdsAfter (suc k) (es ∷ due) m [] s = ⊥
  UpholdsAfter (suc k) (es ∷ due) m (cs ∷ pieces) s =
      (t : System sh.State R) × (steps sh R next body cs s ≡ Some (t, (turns es m).1)) × UpholdsAfter k due (turns es m).0 pieces t

-- There is an allowed run of the program, cut into a piece for each turn: its labels turn by turn are those of the machine. From the
-- end of start-up on it makes a step in every 64 turns, and what shall stand stands.
pub record Behaves (sh : Shared) (R : Type 0) (next : R → Action sh.Access R) (first : R) (body : ℕ → R) (state : sh.State) (M : Type 0) (turns : List sh.Event → M → M × List sh.Label) (reset : M) (Standing : (main_sp : ℕ) → System sh.State R → M → Type 0) (start_turns : ℕ) (due : List (List sh.Event)) : Type 0 where
  pub pieces : List (List (Choice sh.Event))
  pub fits : FitsTurns sh R next body (outputs turns due reset) pieces (first_state first state)
  pub pace : KeepsPace 64 (drop start_turns pieces)
  pub stands : UpholdsAfter sh R next body M turns Standing start_turns due reset pieces (first_state first state)

module _ {P : Type 0} (c : Chips P) (x : Firmware) (R : Type 0) (next : R → Action Access R) (first : R) (body : ℕ → R) (start_turns : ℕ) where
  -- Whatever events are due turn by turn: if no allowed run of the program whose labels begin those of the board can make a Bad step
  -- next, then the board does what the program means, and no turn comes to bytes that are no instruction.
  abbrev pub RunsProgram : (reset : Board (World P)) → (state : Store P) → Type 0
  RunsProgram reset state =
      (due : List (List Event))
      → HasNoBad (shared c) R next body (joined (outputs (board_turn c) due reset)) (first_state first state)
      → Behaves (shared c) R next first body state (Board (World P)) (board_turn c) reset (Stands c {R = R} x) start_turns due × NeverStops c due reset

  -- For every power-on memory, whatever words the general registers hold then, and whatever events are due turn by turn: the ROM does
  -- what the program means. The program's first store is told by the power-on memory.
  abbrev pub RomIsCorrect : (chips : P) → (first_store : (ram : List ℕ) (screen : Pages) → Store P) → Type 0
  RomIsCorrect chips first_store =
      (general : GeneralRegisters) (ram : List ℕ) (screen : Pages) → HoldWords general → length ram ≡ ram_size → AreWhole screen
      → RunsProgram (power_on general x.rom ram screen chips) (first_store ram screen)

-- ---- start-up

-- the processor's next instruction is at this place of the code's segment
abbrev pub IsAt : (place : ℕ) → Regs → Type 0
IsAt place r = (r.cs ≡ code_segment) × (r.ip ≡ place)

module _ {P : Type 0} (c : Chips P) (start_turns main_at : ℕ) where
  module _ (IsSet : (address : ℕ) → Type 0) where
    -- Whatever events are due turn by turn: the labels of start-up's turns are those of their events alone, none of them comes to bytes
    -- that are no instruction, and after these turns main's first instruction is next, and RAM is as it was at each address that start-up
    -- does not set.
    pub record QuietStart (reset : Board (World P)) : Type 0 where
      pub quiet : (due : List (List Event)) → take start_turns (outputs (board_turn c) due reset) ≡ map (map event_label) (take start_turns due)
      pub orderly : (due : List (List Event)) → length due ≤ start_turns → NeverStops c due reset
      pub arrives : (due : List (List Event)) → length due ≡ start_turns → IsAt main_at (final (board_turn c) due reset).cpu.registers
      pub keeps : (due : List (List Event)) → length due ≡ start_turns → (address : ℕ) → address < ram_size → ¬ IsSet address
          → slice_index (final (board_turn c) due reset).world.ram address ≡ slice_index reset.world.ram address

    -- for every power-on memory, whatever words the general registers hold
    abbrev pub StartsQuietly : (rom : List ℕ) (chips : P) → Type 0
    StartsQuietly rom chips =
        (general : GeneralRegisters) (ram : List ℕ) (screen : Pages) → HoldWords general → length ram ≡ ram_size → AreWhole screen
        → QuietStart (power_on general rom ram screen chips)

  -- before as many turns main's first instruction is never next
  abbrev pub StartsNoSooner : (rom : List ℕ) (chips : P) → Type 0
  StartsNoSooner rom chips =
      (general : GeneralRegisters) (ram : List ℕ) (screen : Pages) → HoldWords general → length ram ≡ ram_size → AreWhole screen
      → (due : List (List Event)) → length due < start_turns → ¬ IsAt main_at (final (board_turn c) due (power_on general rom ram screen chips)).cpu.registers
