use Rattle.std.proofs.Common.{◌≡◌, ◌≤◌, drop, max}
use Rattle.frames.specs.Inner.Need.{need, need_at}
use Rattle.frames.proofs.need.Need.words_of.Given as goal

-- the most so far, and what is left, is all
abbrev pub invariant-loop-instruction : goal.invariant-loop-instruction
invariant-loop-instruction l =
    (max l.most (need (need_at l.needs) l.height (drop l.instruction-index l.instructions)).words ≡ (need (need_at l.needs) 0 l.instructions).words)
    × (l.height ≤ l.instruction-index)
