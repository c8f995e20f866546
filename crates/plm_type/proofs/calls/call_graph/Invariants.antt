use Rattle.std.proofs.Common.{◌≡◌, map, take}
use Rattle.plm_type.specs.Inner.Reach.{rows}
use Rattle.plm_type.specs.Calls.{graph_of}
use Rattle.plm_type.specs.View as view
use Rattle.plm_type.proofs.calls.call_graph.Given as goal

abbrev pub invariant-loop-procedure : goal.invariant-loop-procedure
invariant-loop-procedure l = rows l.graph.items ≡ graph_of (map view.procedure_of (take l.procedure-index l.procedures))
