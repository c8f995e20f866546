-- The bytes of both pages when the power comes on.
use Rattle.word86.specs.declared.power_on.PowerOn.{PowerOn}
use Rattle.word86.specs.Page.{Pages}

abbrev pub pages_of : PowerOn → Pages
pages_of p = record { monochrome = p.monochrome.items; colour = p.colour.items }
