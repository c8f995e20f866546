use Rattle.std.proofs.Common.{◌≡◌, ◌++◌, drop, map}
use Rattle.plm_type.specs.Inner.Calls as inner
use Rattle.plm_type.specs.View as view
use Rattle.plm_type.proofs.calls.add_targets.Given as goal

abbrev pub invariant-loop-target : goal.invariant-loop-target
invariant-loop-target l = l.called.items ++ inner.all_target_calls (map view.target_of (drop l.target-index l.targets)) ≡ l.initial.called.items ++ inner.all_target_calls (map view.target_of l.targets)
