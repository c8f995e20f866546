use Rattle.std.proofs.Common.{◌≡◌, ◌<◌, ◌++◌, ℕ, drop, map, get_or}
use Rattle.select.specs.Inner.Assembly.{nothing, drafted_bytes, IsCoded}
use Rattle.select.proofs.drafts.drafts_of.Given as goal

abbrev pub invariant-loop-step : goal.invariant-loop-step
invariant-loop-step l = record {
  bytes : map drafted_bytes l.steps ≡ map (λ d. d.items) l.drafts.items ++ map drafted_bytes (drop l.step-index l.steps);
  coded : (k : ℕ) → k < l.step-index → IsCoded (get_or l.steps k nothing);
}
