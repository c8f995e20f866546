use Rattle.std.proofs.Common.{◌≡◌, ◌≤◌, drop}
use Rattle.frames.specs.Inner.Need.{both, need, need_at}
use Rattle.frames.proofs.need.Need.of.Given as goal

-- so far, and what is left, is all
abbrev pub invariant-loop-instruction : goal.invariant-loop-instruction
invariant-loop-instruction l =
    (both l.so_far (need (need_at l.needs) l.height (drop l.instruction-index l.instructions)) ≡ need (need_at l.needs) 0 l.instructions)
    × (l.height ≤ l.instruction-index)
