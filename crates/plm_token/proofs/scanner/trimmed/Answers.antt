use Rattle.std.proofs.Common.{arith}
use Rattle.plm_token.proofs.Trims.{stays, goes, none_left}
use Rattle.plm_token.proofs.scanner.trimmed.Goals as goal

pub returns-then-last-ne-END_MARK-clause-value : goal.returns-then-last-ne-END_MARK-clause-value
returns-then-last-ne-END_MARK-clause-value c = stays _ _ _ _ c.loop-last.invariant.same c.in-Some.ensures.cases.0 c.if-last-ne-END_MARK.true

pub loop-last-preserved : goal.loop-last-preserved
loop-last-preserved c = record {
  same = goes _ _ _ _ c.loop-last.invariant.same c.in-Some.ensures.cases.0 c.if-last-ne-END_MARK.false;
  inside = omega (arith, c.in-Some.ensures.cases.1, c.loop-last.invariant.inside);
}

pub returns-clause-value : goal.returns-clause-value
returns-clause-value c = none_left _ _ c.loop-last.invariant.same c.in_default.ensures.cases
