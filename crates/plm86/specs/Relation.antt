-- How flags, and the memory beside the stack, are while a program runs: code, tables, vectors, objects, pages and chips.
use Rattle.std.specs.Prelude.{ℕ, Bool, ◌≡◌, ◌+◌, ◌<◌, ◌≤◌, Option, Some, length, slice_index}
use Rattle.word86.specs.declared.page.Page.{Page}
use Rattle.word86.specs.MemoryMap.{data_start, first_offset, data_end, code_segment}
use Rattle.word86.specs.Page.{AreWhole, page_at, page_size, page_of}
use Rattle.i86_table.specs.declared.flags.Flags.{Flags}
use Rattle.i86_table.specs.declared.instruction.Instr.{Instr}
use Rattle.i86_table.specs.Arithmetic.{has}
use Rattle.i86_table.specs.FlagLaws.{HasFlagsAlone}
use Rattle.i86_code.specs.Decoding.{decoded}
use Rattle.cpu8086.specs.BusModel.{BusModel}
use Rattle.cpu8086.specs.Machine.{loaded_word}
use Rattle.cpu8086.specs.Turn.{fetched}
use Rattle.plm_meaning.specs.Store.{Store, object}
use Rattle.plm86.specs.Headline.{Vectors}

-- whether interrupts are on, and only flags that there are
pub record FlagsAre (on : Bool) (f : Flags) : Type 0 where
  pub on_is : has f 512 ≡ on
  pub known : HasFlagsAlone f

module _ {W : Type 0} (m : BusModel W) where
  -- the bytes at each place of the code spell its instruction
  pub record Spelled (code : ℕ → Option (Instr × ℕ)) (w : W) : Type 0 where
    pub bounded : (place : ℕ) (d : Instr × ℕ) → code place ≡ Some d → place < 65536
    pub spelled : (place : ℕ) (d : Instr × ℕ) → code place ≡ Some d → decoded (fetched m w code_segment place) ≡ Some d

  -- the words of tables at their offsets in the code's segment
  abbrev pub HasTables : (words : (offset : ℕ) → Option ℕ) → W → Type 0
  HasTables words w = (offset v : ℕ) → words offset ≡ Some v → (offset + 1 < 65536) × (loaded_word m w code_segment offset ≡ v)

  -- the bytes of the objects at their places, and of both pages of the screen
  pub record Holds {P : Type 0} (placed : ℕ → ℕ) (s : Store P) (w : W) : Type 0 where
    pub bytes : (k i : ℕ) → i < length (object s k) → m.load w (data_start + (placed k + i)) ≡ slice_index (object s k) i
    pub screen : (page : Page) (i : ℕ) → i < page_size → m.load w (page_at page + i) ≡ slice_index (page_of page s.screen) i

-- a placement of objects of these sizes: all their bytes lie in the data's room, and no two objects share a byte
pub record Placed (placed size : ℕ → ℕ) : Type 0 where
  pub above : (k i : ℕ) → i < size k → first_offset ≤ placed k + i
  pub below : (k i : ℕ) → i < size k → placed k + i < data_end
  pub apart : (k h i j : ℕ) → i < size k → j < size h → placed k + i ≡ placed h + j → k ≡ h

-- the n bytes that are found at an offset lie in that object
abbrev pub Finds : (find : ℕ → ℕ → Option (ℕ × ℕ)) → (placed size : ℕ → ℕ) → Type 0
Finds find placed size = (offset n k i : ℕ) → find offset n ≡ Some (k, i) → (offset ≡ placed k + i) × (i + n ≤ size k)

module _ {W P : Type 0} (m : BusModel W) (chips : W → P) (Whole : W → Type 0) (code : ℕ → Option (Instr × ℕ)) (words : ℕ → Option ℕ) (entry placed size : ℕ → ℕ) where
  -- the memory beside the stack
  pub record Fine (s : Store P) (w : W) : Type 0 where
    pub whole : Whole w
    pub spelled : Spelled m code w
    pub tables : HasTables m words w
    pub vectors : Vectors m entry w
    pub holds : Holds m placed s w
    pub chips_are : chips w ≡ s.chips
    pub sizes : (k : ℕ) → length (object s k) ≡ size k
    pub screen_size : AreWhole s.screen
