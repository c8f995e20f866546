use Rattle.plm86.proofs.Phases.{first_unscanned}
use Rattle.plm86.proofs.build.scan_all.Goals as goal

pub returns-in-Err-clause-says : goal.returns-in-Err-clause-says
returns-in-Err-clause-says c =
    first_unscanned c.args.sources.now c.loop-ordinal.ordinal _ _ c.in-Err.fault c.in_module.result c.loop-ordinal.invariant.says c.loop-ordinal-test.true c.in-Err.ensures c.in_module.ensures
