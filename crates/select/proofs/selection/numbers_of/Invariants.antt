use Rattle.std.proofs.Common.{◌≡◌, ℕ, drop, length, get_or}
use Rattle.select.specs.Selection.{part_in}
use Rattle.select.proofs.selection.numbers_of.Given as goal

abbrev pub invariant-loop-part : goal.invariant-loop-part
invariant-loop-part l = record {
  many : length l.numbers.items ≡ length l.code.procedures.items;
  each : (q : ℕ) → part_in (get_or l.numbers.items q 0) l.part (drop l.part l.routines) q ≡ part_in 0 0 l.routines q;
}
