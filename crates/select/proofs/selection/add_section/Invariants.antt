use Rattle.std.proofs.Common.{◌≡◌, ◌++◌, drop}
use Rattle.select.specs.Selection.{procedures_in}
use Rattle.select.proofs.selection.add_section.Given as goal

-- so far, and those that are left, are all
abbrev pub invariant-loop-k : goal.invariant-loop-k
invariant-loop-k l = l.routines.items ++ procedures_in l.number l.k (drop l.k l.code.procedures.items) ≡ l.fn.routines.items ++ procedures_in l.number 0 l.code.procedures.items
