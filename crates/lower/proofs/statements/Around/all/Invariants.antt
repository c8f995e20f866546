use Rattle.std.proofs.Common.{◌≡◌, ◌++◌, length, map, drop}
use Rattle.plm_decl.specs.Names.{procedure_of}
use Rattle.plm_type.specs.View.{procedures_of}
use Rattle.lower.specs.Inner.Lowering.{plain, all_lowered}
use Rattle.lower.proofs.statements.Around.all.Given as goal

abbrev pub invariant-loop-declared : goal.invariant-loop-declared
invariant-loop-declared l =
    let all = l.self.callees.procedures.now in
    let n = length l.yielded in
    map plain l.procedures.items ++ all_lowered (procedures_of all) (map procedure_of (drop n l.names.procedures.items)) (procedures_of (drop n all))
    ≡ all_lowered (procedures_of all) (map procedure_of l.names.procedures.items) (procedures_of all)
