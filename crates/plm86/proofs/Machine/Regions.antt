-- What the lift asks of the board's memory.
use Rattle.std.specs.Prelude.{ℕ, true, false, ◌≡◌, ◌+◌, ◌<◌, ◌≤◌, ◌&&◌, ◌||◌, nat_lt, nat_le, List, length, refl}
use Rattle.std.proofs.Common.{◌∙◌, ap, arith}
use Rattle.std.proofs.lemmas.Bool.{lt-ltb, le-leb, le-ltb}
use Rattle.std.proofs.Math.Bool.{and-false, or-true}
use Rattle.word86.specs.MemoryMap.{ram_size, code_start}
use Rattle.word86.specs.declared.page.Page.TheVariants.{Monochrome, Colour}
use Rattle.word86.specs.declared.page.Page.{Page}
use Rattle.word86.specs.Chips.{Chips}
use Rattle.word86.specs.Page.{Pages, AreWhole, page_at, page_size}
use Rattle.board.specs.World.{Whole, lies_in, is_kept, board_model, occurs}
use Rattle.plm86.specs.Inner.BoardLaws.{LawsBelow, OfBoard, Events}

pub within_true : (base : ℕ) (l : List ℕ) (a n : ℕ) → length l ≡ n → base ≤ a → a < base + n → lies_in base l a ≡ true
within_true base l a n e le lt = ap (λ t. t && nat_lt a (base + length l)) (le-leb base a le) ∙ lt-ltb a (base + length l) (omega (arith, e, lt))

pub within_above : (base : ℕ) (l : List ℕ) (a n : ℕ) → length l ≡ n → base + n ≤ a → lies_in base l a ≡ false
within_above base l a n e le = ap (λ t. nat_le base a && t) (le-ltb a (base + length l) (omega (arith, e, le))) ∙ and-false (nat_le base a)

-- RAM and the pages keep what is stored, and nothing above them does
ram_keeps : (ram : List ℕ) (screen : Pages) → length ram ≡ ram_size → (a : ℕ) → a < ram_size → is_kept ram screen a ≡ true
ram_keeps ram screen e a lt = ap (λ b. b || (lies_in (page_at Monochrome) screen.monochrome a || lies_in (page_at Colour) screen.colour a)) (within_true 0 ram a ram_size e (omega arith) lt)

page_keeps : (ram : List ℕ) (screen : Pages) → AreWhole screen → (page : Page) (a : ℕ) → page_at page ≤ a → a < page_at page + page_size → is_kept ram screen a ≡ true
page_keeps ram screen t Monochrome a le lt =
    ap (λ b. lies_in 0 ram a || (b || lies_in (page_at Colour) screen.colour a)) (within_true (page_at Monochrome) screen.monochrome a page_size t.monochrome le lt) ∙ or-true (lies_in 0 ram a)
page_keeps ram screen t Colour a le lt =
    ap (λ b. lies_in 0 ram a || (lies_in (page_at Monochrome) screen.monochrome a || b)) (within_true (page_at Colour) screen.colour a page_size t.colour le lt)
    ∙ ap (λ b. lies_in 0 ram a || b) (or-true (lies_in (page_at Monochrome) screen.monochrome a)) ∙ or-true (lies_in 0 ram a)

none_keeps : (ram : List ℕ) (screen : Pages) → length ram ≡ ram_size → AreWhole screen → (a : ℕ) → code_start ≤ a → is_kept ram screen a ≡ false
none_keeps ram screen e t a le =
    ap (λ b. b || (lies_in (page_at Monochrome) screen.monochrome a || lies_in (page_at Colour) screen.colour a)) (within_above 0 ram a ram_size e (omega (arith, le)))
    ∙ ap (λ b. b || lies_in (page_at Colour) screen.colour a) (within_above (page_at Monochrome) screen.monochrome a page_size t.monochrome (omega (arith, le)))
    ∙ within_above (page_at Colour) screen.colour a page_size t.colour (omega (arith, le))

pub of_board : {P : Type 0} (below : LawsBelow) (c : Chips P) (rom : List ℕ) → OfBoard (board_model c) c (λ w. w.chips) (Whole rom)
of_board below c rom = record {
  below = below;
  loads = λ w s a lt. below.memory.stores w.ram w.screen w.rom s a;
  ports = record { reading = λ w width port a. refl; writing = λ w width port value a. refl; acknowledging = λ w a. refl };
  ram = λ w t a lt. ram_keeps w.ram w.screen t.ram a lt;
  screen = λ w t page a le lt. page_keeps w.ram w.screen t.screen page a le lt;
  rom = λ w t a le. none_keeps w.ram w.screen t.ram t.screen a le;
  labels = λ w s. refl;
  stays = λ w s t. record { ram = below.memory.lengths 0 w.ram s ∙ t.ram; screen = record { monochrome = below.memory.lengths (page_at Monochrome) w.screen.monochrome s ∙ t.screen.monochrome; colour = below.memory.lengths (page_at Colour) w.screen.colour s ∙ t.screen.colour }; same_rom = t.same_rom };
  in_stays = λ w width port t. record { ram = t.ram; screen = t.screen; same_rom = t.same_rom };
  out_stays = λ w width port value t. record { ram = t.ram; screen = t.screen; same_rom = t.same_rom };
  ack_stays = λ w t. record { ram = t.ram; screen = t.screen; same_rom = t.same_rom };
  store_chips = λ w s. refl;
  in_chips = λ w width port. refl;
  out_chips = λ w width port value. refl;
  ack_chips = λ w. refl;
  value = λ w width port. refl;
  int_line = λ w. refl;
  vector = λ w. refl;
}

pub events_law : {P : Type 0} (c : Chips P) (rom : List ℕ) → Events (board_model c) c (λ w. w.chips) (Whole rom) (occurs c)
events_law c rom = record {
  keeps = λ e w a. refl;
  chips_are = λ e w. refl;
  stays = λ e w t. record { ram = t.ram; screen = t.screen; same_rom = t.same_rom };
}
