use Rattle.std.proofs.Common.{◌≡◌, drop, map, None, replicate}
use Rattle.plm_decl.specs.Names.{procedure_of}
use Rattle.plm_type.specs.Programs.{declared_procedures}
use Rattle.plm_type.specs.Inner.Handlers.{all_entered}
use Rattle.plm_type.proofs.handlers.handler_numbers.Given as goal

abbrev pub invariant-loop-number : goal.invariant-loop-number
invariant-loop-number l =
    all_entered l.number (map procedure_of (drop l.number l.procedure-items)) l.table.items ≡ all_entered 0 (declared_procedures l.names) (replicate 256 None)
