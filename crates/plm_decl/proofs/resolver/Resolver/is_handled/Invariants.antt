use Rattle.std.proofs.Common.{◌≡◌, map, drop}
use Rattle.std.specs.List.{list_any}
use Rattle.plm_decl.specs.Names.{procedure_of}
use Rattle.plm_decl.specs.Names.{handles}
use Rattle.plm_decl.proofs.resolver.Resolver.is_handled.Given as goal

abbrev pub invariant-loop-procedure : goal.invariant-loop-procedure
invariant-loop-procedure l = list_any (handles l.number) (map procedure_of (drop l.procedure-index l.self.procedures.items)) ≡ list_any (handles l.number) (map procedure_of l.self.procedures.items)
