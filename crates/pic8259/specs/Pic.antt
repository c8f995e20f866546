-- What the chip of the code stands for.
use Rattle.pic8259.specs.declared.pic.Pic.{Pic}
use Rattle.pic8259.specs.Controller.{Controller}
use Rattle.pic8259.specs.Registers.{shown}

abbrev pub controller_of : Pic → Controller
controller_of p = shown p.registers
