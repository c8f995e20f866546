use Rattle.std.proofs.Common.{◌≡◌, ◌≤◌, map, max, drop}
use Rattle.plm_decl.specs.Names.{procedure_of}
use Rattle.lower.specs.Lowering.{last_module}
use Rattle.lower.proofs.lowering.sections_of.Given as goal

abbrev pub invariant-loop-procedure : goal.invariant-loop-procedure
invariant-loop-procedure l =
    let main = l.names.main.module in
    (main ≤ l.last) × (max l.last (last_module main (map procedure_of (drop l.procedure-index l.names.procedures.items))) ≡ last_module main (map procedure_of l.names.procedures.items))
