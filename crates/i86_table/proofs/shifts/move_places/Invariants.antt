use Rattle.std.proofs.Common.{◌≡◌, ◌<◌, ◌-◌}
use Rattle.word86.specs.Access.{values}
use Rattle.i86_table.specs.Arithmetic.{moved}
use Rattle.i86_table.proofs.shifts.move_places.Given as goal

abbrev pub invariant-loop : goal.invariant-loop
invariant-loop l = record {
  fits : l.value < values l.width;
  same : moved l.operation l.width (l.count - l.counter) (l.value, l.out) ≡ moved l.operation l.width l.count (l.fn.a, l.fn.carry);
}
