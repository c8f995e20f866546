-- The laws: what a ROM does on the board, from the promises on its code and on its start-up, whatever the code generator.
use Rattle.std.specs.Prelude.{ℕ, suc, true, false, ◌≡◌, ◌+◌, ◌*◌, ◌/◌, ◌%◌, ◌<◌, ◌≤◌, Option, None, List, [], ◌∷◌, ◌⊎◌, length, slice_index}
use Rattle.word86.specs.declared.page.Page.{Page}
use Rattle.word86.specs.Access.{Access, answers}
use Rattle.word86.specs.MemoryMap.{ram_size, vectors_size, data_start, code_segment, stack_top, stack_room}
use Rattle.word86.specs.Page.{Pages, AreWhole, page_at, page_size, page_of}
use Rattle.word86.specs.Chips.{Chips}
use Rattle.word86.specs.Action.{Action}
use Rattle.word86.specs.Following.{Offer, Tracks, Follows}
use Rattle.plm_meaning.specs.Store.{Store, object, shared}
use Rattle.i86_table.specs.declared.instruction.Instr.{Instr}
use Rattle.i86_table.specs.Contexts.{Context, Own, Working, all_registers, offer, start}
use Rattle.i86_table.specs.Words.{AreWords, HasWords}
use Rattle.cpu8086.specs.declared.cpu.Phase.TheVariants.{Running}
use Rattle.cpu8086.specs.Turn.{GeneralRegisters, HoldWords}
use Rattle.board.specs.World.{World, Whole, board_model, memory_byte}
use Rattle.board.specs.Machine.{Board, power_on}
use Rattle.plm86.specs.Boots.{Boots}
use Rattle.plm86.specs.Headline.{Firmware, RomIsCorrect, StartsQuietly, board_turn}
use Rattle.plm86.specs.Relation.{Fine, Placed, Finds, FlagsAre}
use Rattle.layout_link.specs.Rom.{CodeInRom, WordsInRom}
use Rattle.layout_link.specs.Startup.{Act, PutWord, PutByte, Copy, HasStartUp, start_up_turns}
use Rattle.plm86.specs.Startup.{with_vectors, after_acts}

-- How a ROM is assembled: its bytes; the instruction at each place of its code segment, with its length; the words of tables there;
-- where main begins; and each vector's procedure. Then the offset and the size of each object; what lies at an offset of the data;
-- and how many words main and an interrupt procedure may push.
pub record Assembly : Type 0 where
  pub rom : List ℕ
  pub code : (place : ℕ) → Option (Instr × ℕ)
  pub main_at : ℕ
  pub entry : (vector : ℕ) → ℕ
  pub placed : (object : ℕ) → ℕ
  pub size : (object : ℕ) → ℕ
  pub find : (offset n : ℕ) → Option (ℕ × ℕ)
  pub words : (offset : ℕ) → Option ℕ
  pub main : ℕ
  pub handler : ℕ

-- Objects are apart in their room, what is found is there, and the stack's room, in words of two bytes, holds both parts and the three
-- words of an interrupt's frame.
pub record IsSound (x : Assembly) : Type 0 where
  pub is_placed : Placed x.placed x.size
  pub finds : Finds x.find x.placed x.size
  pub main_low : x.main_at < 65536
  pub enough : x.main + 3 + x.handler ≤ stack_room / 2

abbrev pub offers_of : Assembly → Context → Offer Access Context
offers_of x = offer x.code x.find x.words x.entry x.main x.handler

abbrev pub starts_of : Assembly → ℕ → Context → Context
starts_of x = start x.code x.find x.words x.entry x.main x.handler

abbrev pub main_of : Assembly → Working → Context
main_of x g = Own x.main_at g [] false None

-- a word is two bytes, and the frame of an interrupt's entry is three words
abbrev pub firmware_of : Assembly → Firmware
firmware_of x = record { rom = x.rom; entry = x.entry; placed = x.placed; size = x.size; main = 2 * x.main; handler = 2 * (3 + x.handler) }

-- ---- the promises of the layers

-- The intermediate code tracks the rests of main and of each interrupt procedure, whatever is done to what is shared meanwhile. Where
-- it begins may depend on the registers at main's beginning, and on the context that is interrupted.
pub record Lowered (A : Type 0) (bound : A → ℕ) (R : Type 0) (next : R → Action A R) (first : R) (body : ℕ → R) (I : Type 0) (does : I → Action A I) (G C : Type 0) (begin : G → I) (procedure : (vector : ℕ) → C → I) (limit most : ℕ) : Type 0 where
  pub tracks : (n : ℕ) (g : G) → Tracks A bound R next I does limit most n limit first (begin g)
  pub bodies : (n vector : ℕ) (c : C) → Tracks A bound R next I does limit most n limit (body vector) (procedure vector c)

-- Main's instructions follow its rest, whatever words its registers hold at its beginning; and each interrupt procedure's follow its
-- body, whatever context with words it interrupts. Rest and body may depend on the registers.
pub record Compiled (x : Assembly) (R : Type 0) (next : R → Action Access R) (first : Working → R) (body : (vector : ℕ) → Context → R) (limit most : ℕ) : Type 0 where
  pub follows : (n : ℕ) (g : Working) → AreWords g → Follows Access answers R next Context (offers_of x) limit most true n limit (first g) (main_of x g)
  pub serves : (n vector : ℕ) (c : Context) → HasWords c → Follows Access answers R next Context (offers_of x) limit most false n limit (body vector c) (starts_of x vector c)

-- ---- start-up

module _ {P : Type 0} (c : Chips P) where
  -- main's first instruction is next, with interrupts off, words in the registers and nothing on the stack
  pub record Begins (x : Assembly) (b : Board (World P)) (s : Store P) : Type 0 where
    pub registers : Working
    pub is : b.cpu ≡ record { registers = all_registers x.main_at registers stack_top; phase = Running }
    pub words : AreWords registers
    pub flags : FlagsAre false registers.flags
    pub fine : Fine (board_model c) (λ w. w.chips) (Whole x.rom) x.code x.words x.entry x.placed x.size s b.world

  -- start-up takes start_turns turns from here, makes no label but those of events, and leaves this store
  abbrev pub BootsUp : Assembly → (start_turns : ℕ) → Board (World P) → Store P → Type 0
  BootsUp x start_turns reset state = Boots (shared c) (board_turn c) (Begins x) start_turns reset state

-- the byte that the board has at an address when the power comes on
abbrev pub power_on_memory : (rom ram : List ℕ) (screen : Pages) → ℕ → ℕ
power_on_memory rom ram screen a = memory_byte ram screen rom a

-- memory holds the vectors and the store: each vector has its entry's offset and the code's segment, low bytes first, each object its
-- bytes in the data's segment, and each page its bytes
pub record HoldsStore {P : Type 0} (x : Assembly) (s : Store P) (memory : ℕ → ℕ) : Type 0 where
  pub entries : (n : ℕ) → n < 256 → x.entry n < 65536
  pub vectors : (n : ℕ) → n < 256 → (memory (4 * n) ≡ x.entry n % 256) × (memory (4 * n + 1) ≡ x.entry n / 256) × (memory (4 * n + 2) ≡ code_segment % 256) × (memory (4 * n + 3) ≡ code_segment / 256)
  pub bytes : (k i : ℕ) → i < length (object s k) → memory (data_start + (x.placed k + i)) ≡ slice_index (object s k) i
  pub screen : (page : Page) (i : ℕ) → i < page_size → memory (page_at page + i) ≡ slice_index (page_of page s.screen) i
  pub sizes : (k : ℕ) → length (object s k) ≡ x.size k
  pub screen_size : AreWhole s.screen

-- ---- from the layers to the board

-- where the intermediate code tracks the rests, the instructions follow the intermediate code, and start-up leads from each
-- power-on memory and all words in the general registers to main's beginning
abbrev pub FromLayers : Type 0 → Type 0 → Type 0 → Type 0
FromLayers P R I =
    (c : Chips P) (x : Assembly) → IsSound x
    → (next : R → Action Access R) (first : R) (body : ℕ → R) (does : I → Action Access I) (begin : Working → I) (procedure : (vector : ℕ) → Context → I) (k1 m1 k2 m2 : ℕ)
    → Lowered Access answers R next first body I does Working Context begin procedure k1 m1
    → Compiled x I does begin procedure k2 m2
    → k1 * suc k2 + k2 < 64
    → (start_turns : ℕ) (chips : P) (first_store : (ram : List ℕ) (screen : Pages) → Store P)
    → ((general : GeneralRegisters) (ram : List ℕ) (screen : Pages) → HoldWords general → length ram ≡ ram_size → AreWhole screen
    → BootsUp c x start_turns (power_on general x.rom ram screen chips) (first_store ram screen))
    → RomIsCorrect c (firmware_of x) R next first body start_turns chips first_store

-- The ROM has the code and its tables; the code has a start-up, which leaves the vectors and the program's first store; the intermediate code
-- tracks the program's rests, and the instructions follow the intermediate code. Then the ROM does what the program means.
abbrev pub FromRom : Type 0 → Type 0 → Type 0 → Type 0
FromRom P R I =
    (c : Chips P) (x : Assembly) → IsSound x → CodeInRom x.rom x.code → WordsInRom x.rom x.words
    → (entry : ℕ) (acts : List Act) → HasStartUp x.code entry acts x.main_at
    → (next : R → Action Access R) (first : R) (body : ℕ → R) (does : I → Action Access I) (begin : Working → I) (procedure : (vector : ℕ) → Context → I) (k1 m1 k2 m2 : ℕ)
    → Lowered Access answers R next first body I does Working Context begin procedure k1 m1
    → Compiled x I does begin procedure k2 m2
    → k1 * suc k2 + k2 < 64
    → (chips : P) (first_store : (ram : List ℕ) (screen : Pages) → Store P)
    → ((ram : List ℕ) (screen : Pages) → length ram ≡ ram_size → AreWhole screen
    → HoldsStore x (first_store ram screen) (after_acts acts (with_vectors entry 0 256 (power_on_memory x.rom ram screen))) × ((first_store ram screen).chips ≡ chips))
    → RomIsCorrect c (firmware_of x) R next first body (start_up_turns acts) chips first_store

-- the addresses of RAM that start-up may change: those of the vectors, and those at which its acts put something
abbrev pub IsPut : Act → (address : ℕ) → Type 0
IsPut (PutWord to value) address = (to ≤ address) × (address < to + 2)
IsPut (PutByte to value) address = address ≡ to
IsPut (Copy from to more) address = (to ≤ address) × (address < to + suc more)

abbrev pub IsSetBy : List Act → (address : ℕ) → Type 0
IsSetBy [] address = address < vectors_size
IsSetBy (act ∷ acts) address = IsPut act address ⊎ IsSetBy acts address

-- The ROM has the code, and the code has a start-up. Then, whatever events are due, start-up makes no label but theirs, leads to main in
-- as many turns as are counted, and leaves the rest of RAM alone.
abbrev pub QuietFromRom : Type 0 → Type 0
QuietFromRom P =
    (c : Chips P) (x : Assembly) → CodeInRom x.rom x.code
    → (entry : ℕ) (acts : List Act) → HasStartUp x.code entry acts x.main_at
    → (chips : P) → StartsQuietly c (start_up_turns acts) x.main_at (IsSetBy acts) x.rom chips
