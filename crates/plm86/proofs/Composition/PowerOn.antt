-- What is where in memory when the power comes on.
use Rattle.std.proofs.Common.{◌≡◌, ℕ, ◌+◌, ◌-◌, ◌<◌, ◌≤◌, Bool, List, length, ap, ◌∙◌, arith}
use Rattle.std.specs.Prelude.{if◌then◌else◌, slice_index}
use Rattle.word86.specs.MemoryMap.{ram_size, code_start}
use Rattle.word86.specs.declared.page.Page.{Page}
use Rattle.word86.specs.declared.page.Page.TheVariants.{Monochrome, Colour}
use Rattle.word86.specs.Page.{Pages, AreWhole, page_at, page_size, page_of}
use Rattle.layout_link.specs.Rom.{rom_byte}
use Rattle.board.specs.World.{region}
use Rattle.plm86.specs.Laws.{power_on_memory}
use Rattle.plm86.proofs.Machine.Regions.{within_true, within_above}

module _ (rom ram : List ℕ) (screen : Pages) (ram_long : length ram ≡ ram_size) where
  -- what lies behind RAM: the pages, and the ROM
  abbrev above_pages : ℕ → ℕ
  above_pages a = region (0x100000 - length rom) rom a 255

  abbrev above_low_page : ℕ → ℕ
  above_low_page a = region (page_at Colour) screen.colour a (above_pages a)

  abbrev above_ram : ℕ → ℕ
  above_ram a = region (page_at Monochrome) screen.monochrome a (above_low_page a)

  -- the bytes of RAM
  pub in_ram : (a : ℕ) → a < ram_size → power_on_memory rom ram screen a ≡ slice_index ram a
  in_ram a lt =
      let same : a - 0 ≡ a = omega arith in
      ap (λ (b : Bool). if b then slice_index ram (a - 0) else above_ram a) (within_true 0 ram a ram_size ram_long (omega arith) (omega (arith, lt)))
      ∙ ap (slice_index ram) same

  past_ram : (a : ℕ) → ram_size ≤ a → power_on_memory rom ram screen a ≡ above_ram a
  past_ram a le = ap (λ (b : Bool). if b then slice_index ram (a - 0) else above_ram a) (within_above 0 ram a ram_size ram_long (omega (arith, le)))

  module _ (whole : AreWhole screen) where
    past_low_page : (a : ℕ) → page_at Monochrome + page_size ≤ a → above_ram a ≡ above_low_page a
    past_low_page a le =
        ap (λ (b : Bool). if b then slice_index screen.monochrome (a - page_at Monochrome) else above_low_page a) (within_above (page_at Monochrome) screen.monochrome a page_size whole.monochrome le)

    past_pages : (a : ℕ) → page_at Colour + page_size ≤ a → above_low_page a ≡ above_pages a
    past_pages a le = ap (λ (b : Bool). if b then slice_index screen.colour (a - page_at Colour) else above_pages a) (within_above (page_at Colour) screen.colour a page_size whole.colour le)

    -- the bytes of the pages
    pub on_page : (page : Page) (i : ℕ) → i < page_size → power_on_memory rom ram screen (page_at page + i) ≡ slice_index (page_of page screen) i
    on_page Monochrome i lt =
        let a = page_at Monochrome + i in
        let same : a - page_at Monochrome ≡ i = omega arith in
        past_ram a (omega arith)
        ∙ ap (λ (b : Bool). if b then slice_index screen.monochrome (a - page_at Monochrome) else above_low_page a) (within_true (page_at Monochrome) screen.monochrome a page_size whole.monochrome (omega arith) (omega (arith, lt)))
        ∙ ap (slice_index screen.monochrome) same
    on_page Colour i lt =
        let a = page_at Colour + i in
        let same : a - page_at Colour ≡ i = omega arith in
        past_ram a (omega arith) ∙ past_low_page a (omega arith)
        ∙ ap (λ (b : Bool). if b then slice_index screen.colour (a - page_at Colour) else above_pages a) (within_true (page_at Colour) screen.colour a page_size whole.colour (omega arith) (omega (arith, lt)))
        ∙ ap (slice_index screen.colour) same

    -- a place of the code's segment, in the ROM
    pub in_rom : (place : ℕ) → place < 65536 → 65536 ≤ place + length rom → length rom ≤ 65536 → power_on_memory rom ram screen (code_start + place) ≡ rom_byte rom place
    in_rom place lt le small =
        let a = code_start + place in
        let base = 0x100000 - length rom in
        let same : a - base ≡ place + length rom - 65536 = omega (arith, le, small) in
        past_ram a (omega arith) ∙ past_low_page a (omega arith) ∙ past_pages a (omega arith)
        ∙ ap (λ (b : Bool). if b then slice_index rom (a - base) else 255) (within_true base rom a (length rom) (omega arith) (omega (arith, le, small)) (omega (arith, lt, small)))
        ∙ ap (slice_index rom) same
