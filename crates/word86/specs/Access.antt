-- One access of a program: of a variable, of the screen, or of a port.
use Rattle.std.specs.Prelude.{ℕ}
use Rattle.word86.specs.declared.width.Width.{Width}
use Rattle.word86.specs.declared.width.Width.TheVariants as widths
use Rattle.word86.specs.declared.page.Page.{Page}

-- a byte of an object in RAM, or of a page of the screen
pub data Where : Type 0 where
  In : (object index : ℕ) → Where
  Screen : Page → (index : ℕ) → Where

pub data Access : Type 0 where
  Read : Width → Where → Access
  Write : Width → Where → (value : ℕ) → Access
  Input : Width → (port : ℕ) → Access
  Output : Width → (port value : ℕ) → Access

-- how many values there are of this width
abbrev pub values : Width → ℕ
values widths.Byte = 256
values widths.Word = 65536

-- what an access answers is below this; a write answers 0
abbrev pub answers : Access → ℕ
answers (Read width x) = values width
answers (Write width x v) = 1
answers (Input width port) = values width
answers (Output width port v) = 1
