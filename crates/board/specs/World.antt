-- The board: memory by its regions, and the chips on the ports.
use Rattle.std.specs.Prelude.{ℕ, Bool, ◌≡◌, ◌+◌, ◌-◌, ◌%◌, ◌/◌, ◌&&◌, ◌||◌, nat_lt, nat_le, if◌then◌else◌, Option, Some, None, List, slice_index, slice_set, length}
use Rattle.word86.specs.declared.event.Event.{Event}
use Rattle.word86.specs.declared.label.Label.{Label}
use Rattle.word86.specs.declared.label.Label.TheVariants as labels
use Rattle.word86.specs.declared.page.Page.{Page}
use Rattle.word86.specs.declared.page.Page.TheVariants.{Monochrome, Colour}
use Rattle.word86.specs.Chips.{Chips}
use Rattle.word86.specs.MemoryMap.{ram_size}
use Rattle.word86.specs.Page.{Pages, AreWhole, page_at, page_size}
use Rattle.cpu8086.specs.declared.bus.Store.{Store}
use Rattle.cpu8086.specs.declared.bus.Store.TheVariants as stores
use Rattle.cpu8086.specs.BusModel.{BusModel}

-- RAM from 00000H on, the pages of the screen from 0B0000H and 0B8000H on, and the ROM, which ends at 0FFFFFH
pub record World (P : Type 0) : Type 0 where
  pub ram : List ℕ
  pub screen : Pages
  pub rom : List ℕ
  pub chips : P

abbrev pub lies_in : (base : ℕ) → List ℕ → (address : ℕ) → Bool
lies_in base bytes a = nat_le base a && nat_lt a (base + length bytes)

-- the byte of a region that holds the address, else what is beyond
abbrev pub region : (base : ℕ) → List ℕ → (address beyond : ℕ) → ℕ
region base bytes a beyond = if lies_in base bytes a then slice_index bytes (a - base) else beyond

-- the byte at an address: what is nowhere reads 0FFH
abbrev pub memory_byte : (ram : List ℕ) (screen : Pages) (rom : List ℕ) → (address : ℕ) → ℕ
memory_byte ram screen rom a =
    region 0 ram a (region (page_at Monochrome) screen.monochrome a (region (page_at Colour) screen.colour a (region (0x100000 - length rom) rom a 255)))

-- RAM and the pages keep what is stored
abbrev pub is_kept : (ram : List ℕ) (screen : Pages) → (address : ℕ) → Bool
is_kept ram screen a = lies_in 0 ram a || (lies_in (page_at Monochrome) screen.monochrome a || lies_in (page_at Colour) screen.colour a)

-- a region after a byte was stored, perhaps elsewhere
abbrev pub put : (base : ℕ) → List ℕ → (address value : ℕ) → List ℕ
put base bytes a v = if lies_in base bytes a then slice_set bytes (a - base) v else bytes

abbrev pub after_store : (base : ℕ) → List ℕ → Store → List ℕ
after_store base bytes (stores.Byte address value) = put base bytes address value
after_store base bytes (stores.Word low high value) = put base (put base bytes low (value % 256)) high (value / 256)

-- both pages after a store
abbrev pub screen_after : Pages → Store → Pages
screen_after screen s = record { monochrome = after_store (page_at Monochrome) screen.monochrome s; colour = after_store (page_at Colour) screen.colour s }

-- the addresses of a page
abbrev pub is_on : Page → (address : ℕ) → Bool
is_on page a = nat_le (page_at page) a && nat_lt a (page_at page + page_size)

-- the page that holds an address, and the offset in it
abbrev pub spot : (address : ℕ) → Option (Page × ℕ)
spot a = if is_on Monochrome a then Some (Monochrome, a - page_at Monochrome) else if is_on Colour a then Some (Colour, a - page_at Colour) else None

abbrev pub byte_label : Page → (offset value : ℕ) → Label
byte_label Monochrome offset value = labels.Mono offset value
byte_label Colour offset value = labels.Scr offset value

abbrev pub word_label : Page → (offset value : ℕ) → Label
word_label Monochrome offset value = labels.MonoW offset value
word_label Colour offset value = labels.ScrW offset value

abbrev pub byte_shown : Option (Page × ℕ) → (value : ℕ) → Option Label
byte_shown None value = None
byte_shown (Some x) value = Some (byte_label x.0 x.1 value)

-- a word with one byte on a page shows that byte; where both are on a page, they lie there side by side (`no_word_on_two_pages`)
abbrev pub word_shown : (low high : Option (Page × ℕ)) → (value : ℕ) → Option Label
word_shown (Some x) (Some y) value = Some (word_label x.0 x.1 value)
word_shown (Some x) None value = Some (byte_label x.0 x.1 (value % 256))
word_shown None (Some y) value = Some (byte_label y.0 y.1 (value / 256))
word_shown None None value = None

abbrev pub shown_store : Store → Option Label
shown_store (stores.Byte address value) = byte_shown (spot address) value
shown_store (stores.Word low high value) = word_shown (spot low) (spot high) value

abbrev pub with_chips_of : {P : Type 0} → World P → P → World P
with_chips_of w p = record { ram = w.ram; screen = w.screen; rom = w.rom; chips = p }

module _ {P : Type 0} (c : Chips P) where
  -- what memory and ports answer; stores into the ROM, and where nothing is, are lost
  abbrev pub board_model : BusModel (World P)
  board_model = record {
    load = λ w a. memory_byte w.ram w.screen w.rom a;
    store = λ w s. record { ram = after_store 0 w.ram s; screen = screen_after w.screen s; rom = w.rom; chips = w.chips };
    store_label = λ w s. shown_store s;
    keeps = λ w a. is_kept w.ram w.screen a;
    port_value = λ w width port. c.value w.chips width port;
    port_in = λ w width port. with_chips_of w (c.reading w.chips width port);
    port_out = λ w width port value. with_chips_of w (c.writing w.chips width port value);
    int_line = λ w. c.int_line w.chips;
    vector = λ w. c.vector w.chips;
    acknowledge = λ w. with_chips_of w (c.acknowledge w.chips);
  }

  -- an event reaches the chips alone
  abbrev pub occurs : Event → World P → World P
  occurs e w = with_chips_of w (c.occurs e w.chips)

-- RAM and both pages of their sizes, and this ROM
pub record Whole {P : Type 0} (rom : List ℕ) (w : World P) : Type 0 where
  pub ram : length w.ram ≡ ram_size
  pub screen : AreWhole w.screen
  pub same_rom : w.rom ≡ rom
