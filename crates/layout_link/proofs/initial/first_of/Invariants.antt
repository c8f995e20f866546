use Rattle.std.proofs.Common.{◌≡◌, ◌++◌, drop}
use Rattle.plm_decl.specs.Initial.{initial_bytes}
use Rattle.layout_link.proofs.initial.first_of.Given as goal

abbrev pub invariant-loop-datum : goal.invariant-loop-datum
invariant-loop-datum l = initial_bytes l.offsets l.names.variables.items l.object.initial.items ≡ l.bytes.items ++ initial_bytes l.offsets l.names.variables.items (drop l.datum-index l.object.initial.items)
