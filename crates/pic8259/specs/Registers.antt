-- What the registers of the code stand for.
use Rattle.pic8259.specs.declared.registers.Registers.{Registers}
use Rattle.pic8259.specs.Controller.{Controller}

abbrev pub shown : Registers → Controller
shown r = record {
  requested = r.requested.bits;
  in_service = r.in_service.bits;
  masked = r.masked.bits;
  lowest = r.lowest;
  base = r.base;
  reads_service = r.reads_service;
  automatic = r.automatic;
  rotates = r.rotates;
  mode_8086 = r.mode_8086;
  awaits_vector = r.awaits_vector;
  awaits_cascade = r.awaits_cascade;
  awaits_mode = r.awaits_mode;
}
