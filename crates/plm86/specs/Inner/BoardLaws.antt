-- What the lift to the board rests on, of any memory and any chips.
use Rattle.std.specs.Prelude.{ℕ, true, false, ◌≡◌, ◌+◌, ◌<◌, ◌≤◌}
use Rattle.word86.specs.declared.width.Width.{Width}
use Rattle.word86.specs.declared.event.Event.{Event}
use Rattle.word86.specs.declared.page.Page.{Page}
use Rattle.word86.specs.MemoryMap.{ram_size, code_start}
use Rattle.word86.specs.Page.{page_at, page_size}
use Rattle.word86.specs.Chips.{Chips}
use Rattle.cpu8086.specs.declared.bus.Store.{Store}
use Rattle.cpu8086.specs.BusModel.{BusModel}
use Rattle.cpu8086.specs.BusLaws.{LoadAfterStore, PortsKeepMemory}
use Rattle.i86_table.specs.ContextLaw.{ContextRegisters}
use Rattle.i86_table.specs.FlagLaws.{SetFlagHolds, OtherFlagsStay, SetFlagIsAlone, ArithmeticLeavesControl}
use Rattle.board.specs.World.{shown_store}
use Rattle.board.specs.MemoryLaws.{MemoryLaws}

-- the laws of the crates below: of a context's registers, of flags, and of the board's memory
pub record LawsBelow : Type 0 where
  pub registers : ContextRegisters
  pub set_flag : SetFlagHolds
  pub other_flags : OtherFlagsStay
  pub flags_alone : SetFlagIsAlone
  pub arithmetic : ArithmeticLeavesControl
  pub memory : MemoryLaws

-- RAM and both pages of the screen keep what is stored, what lies in the code's segment does not; stores show what comes to a page;
-- and the chips are these.
pub record OfBoard {W : Type 0} {P : Type 0} (m : BusModel W) (c : Chips P) (chips : W → P) (Whole : W → Type 0) : Type 0 where
  pub below : LawsBelow
  pub loads : LoadAfterStore m
  pub ports : PortsKeepMemory m
  pub ram : (w : W) → Whole w → (a : ℕ) → a < ram_size → m.keeps w a ≡ true
  pub screen : (w : W) → Whole w → (page : Page) (a : ℕ) → page_at page ≤ a → a < page_at page + page_size → m.keeps w a ≡ true
  pub rom : (w : W) → Whole w → (a : ℕ) → code_start ≤ a → m.keeps w a ≡ false
  pub labels : (w : W) (s : Store) → m.store_label w s ≡ shown_store s
  pub stays : (w : W) (s : Store) → Whole w → Whole (m.store w s)
  pub in_stays : (w : W) (width : Width) (port : ℕ) → Whole w → Whole (m.port_in w width port)
  pub out_stays : (w : W) (width : Width) (port value : ℕ) → Whole w → Whole (m.port_out w width port value)
  pub ack_stays : (w : W) → Whole w → Whole (m.acknowledge w)
  pub store_chips : (w : W) (s : Store) → chips (m.store w s) ≡ chips w
  pub in_chips : (w : W) (width : Width) (port : ℕ) → chips (m.port_in w width port) ≡ c.reading (chips w) width port
  pub out_chips : (w : W) (width : Width) (port value : ℕ) → chips (m.port_out w width port value) ≡ c.writing (chips w) width port value
  pub ack_chips : (w : W) → chips (m.acknowledge w) ≡ c.acknowledge (chips w)
  pub value : (w : W) (width : Width) (port : ℕ) → m.port_value w width port ≡ c.value (chips w) width port
  pub int_line : (w : W) → m.int_line w ≡ c.int_line (chips w)
  pub vector : (w : W) → m.vector w ≡ c.vector (chips w)

-- an event changes the chips alone
pub record Events {W P : Type 0} (m : BusModel W) (c : Chips P) (chips : W → P) (Whole : W → Type 0) (occurs : Event → W → W) : Type 0 where
  pub keeps : (e : Event) (w : W) (a : ℕ) → m.load (occurs e w) a ≡ m.load w a
  pub chips_are : (e : Event) (w : W) → chips (occurs e w) ≡ c.occurs e (chips w)
  pub stays : (e : Event) (w : W) → Whole w → Whole (occurs e w)
