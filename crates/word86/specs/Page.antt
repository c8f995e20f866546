-- The pages of the screen: where each begins, how large it is, and the bytes of both.
use Rattle.std.specs.Prelude.{◌≡◌, ℕ, ◌+◌, List, length}
use Rattle.word86.specs.declared.page.Page.{Page}
use Rattle.word86.specs.declared.page.Page.TheVariants.{Monochrome, Colour}
use Rattle.word86.specs.MemoryMap.{screen_start}

-- the offset of a page in the screen's segment
abbrev pub page_begins : Page → ℕ
page_begins Monochrome = 0
page_begins Colour = 0x8000

-- its address
abbrev pub page_at : Page → ℕ
page_at page = screen_start + page_begins page

-- 80 by 25 places of a character and its attribute
abbrev pub page_size : ℕ
page_size = 4000

-- the bytes of both pages
pub record Pages : Type 0 where
  pub monochrome : List ℕ
  pub colour : List ℕ

abbrev pub page_of : Page → Pages → List ℕ
page_of Monochrome s = s.monochrome
page_of Colour s = s.colour

abbrev pub with_page : Page → List ℕ → Pages → Pages
with_page Monochrome bytes s = record { monochrome = bytes; colour = s.colour }
with_page Colour bytes s = record { monochrome = s.monochrome; colour = bytes }

-- each page has its size
pub record AreWhole (s : Pages) : Type 0 where
  pub monochrome : length s.monochrome ≡ page_size
  pub colour : length s.colour ≡ page_size
