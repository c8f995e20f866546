use Rattle.std.proofs.Common.{rules, get_or}
use Rattle.std.proofs.lemmas.Option.{slice_get-get_or}
use Rattle.icode.specs.declared.instruction.Instruction.TheVariants.{Constant}
use Rattle.select.proofs.Routines.{first_more}
use Rattle.select.proofs.routine.firsts_of.Goals as goal

pub loop-instruction-preserved : goal.loop-instruction-preserved
loop-instruction-preserved c =
    let all = c.args.instructions.now in
    let k = c.loop-instruction.instruction-index in
    let more = first_more c.args.saves all k (get_or all k (Constant 0)) (slice_get-get_or all k (Constant 0) c.loop-instruction-test.true) in
    search rules
