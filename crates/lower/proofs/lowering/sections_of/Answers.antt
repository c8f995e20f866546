use Rattle.std.proofs.Common.{map, arith}
use Rattle.plm_decl.specs.Names.{procedure_of}
use Rattle.lower.proofs.Modules.{main_before_last}
use Rattle.lower.proofs.lowering.sections_of.Goals as goal

pub loop-procedure-init : goal.loop-procedure-init
loop-procedure-init c =
    let names = c.args.names.now in
    let before = main_before_last names.main.module (map procedure_of names.procedures.items) in (omega arith, omega (arith, before))
